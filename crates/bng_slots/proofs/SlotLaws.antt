-- What a shard's slots answer and become, from how they are laid out.
use Rattle.std.proofs.Common.{◌≡◌, ℕ, zero, suc, ◌+◌, ◌-◌, ◌*◌, ◌<◌, ◌≤◌, ◌≢◌, ◌↔◌, ◌⊎◌, ◌==◌, true, false, true≢false, List, [], ◌∷◌, length, get_or, set, replicate, Option, Some, None, is_some, cond, count_by, if◌then◌else◌, inl, inr, refl, sym, ap, subst, ◌∙◌, arith}
use Rattle.std.specs.Option.{option_and_then, option_map}
use Rattle.std.specs.declared.cmp.Ordering.{Ordering}
use Rattle.std.specs.Ordering.{nat_cmp, is_gt, ordering_then}
use Rattle.std.proofs.lemmas.Bool.{cases_eq, cases_lt, false≢true}
use Rattle.std.proofs.lemmas.Bool.Decides.{nat_tests}
use Rattle.std.proofs.lemmas.List.{get_or-set_same, get_or-set_other, length-set, length-replicate, get_or-replicate}
use Rattle.std.proofs.lemmas.List.Sums.{count_by-le-length, sum_by-cons}
use Rattle.std.specs.FinMap.{FinMap, get, find, insert, remove, len, empty}
use Rattle.bng_base.specs.declared.address.Ip4.{Ip4}
use Rattle.bng_base.specs.declared.address.SessionNo.{SessionNo}
use Rattle.bng_base.specs.declared.circuit.Circuit.{Circuit}
use Rattle.bng_base.specs.declared.circuit.TermId.{TermId}
use Rattle.bng_slots.specs.declared.key.Deadline.{Deadline}
use Rattle.bng_slots.specs.Orders.{circuit_order, address_order, term_order, due_order}
use Rattle.bng_slots.specs.OrderLaws.{circuit_order-total, address_order-total, term_order-total, due_order-total, circuit_order-IsAntisymmetric, address_order-IsAntisymmetric, term_order-IsAntisymmetric, due_order-IsAntisymmetric}
use Rattle.bng_slots.specs.Listing.{Listing}
use Rattle.bng_slots.specs.Bits.{free_bit}
use Rattle.bng_slots.specs.Inside.{Agrees, IsSlots, by_number, due_of}
use Rattle.bng_sessions.specs.Sessions.{Sessions, IsNumberOf, IsLowestVacant, IsEarliest}
use Rattle.bng_slots.proofs.Numbered.{get_lower, get_place, get_past, places_put, places_take, places_none, len_places}
use Rattle.bng_slots.proofs.ShelfLaws.{counts_more}
use Rattle.std.specs.FinMap.{same_map, nat_cmp-IsAntisymmetric, get-remove}
use Rattle.std.specs.Cmp.{IsTotalOrder, nat_cmp_total}
use Rattle.std.specs.FinMap.{IsAntisymmetric}
use Rattle.bng_slots.specs.Inside.{noted, forgotten}
use Rattle.bng_sessions.proofs.Numbers.{same_number, other_number}
use Rattle.bng_slots.proofs.Agreeing.{none_some, some_same, absent, fits, agrees_empty, agrees_came, agrees_left}

bit_free : {A : Type 0} (o : Option A) (bit : ℕ) → bit ≡ cond (is_some o) 0 1 → bit ≡ 1 → o ≡ None
bit_free None bit e one = refl
bit_free (Some a) bit e one = absurd (omega arith)

bit_used : {A : Type 0} (o : Option A) (bit : ℕ) → bit ≡ cond (is_some o) 0 1 → bit ≡ 0 → is_some o ≡ true
bit_used None bit e zero_bit = absurd (omega arith)
bit_used (Some a) bit e zero_bit = refl

all_some : {A : Type 0} (xs : List (Option A)) → ((i : ℕ) → i < length xs → is_some (get_or xs i None) ≡ true) → count_by is_some xs ≡ length xs
all_some [] each = refl
all_some (None ∷ xs) each = absurd (false≢true (each 0 (omega arith)))
all_some {A} (Some a ∷ xs) each =
    let rest = all_some xs (λ i l. each (suc i) (omega arith)) in
    let sums : count_by is_some (Some a ∷ xs) ≡ 1 + count_by is_some xs = sum_by-cons (λ (o : Option A). cond (is_some o) 1 0) (Some a) xs in
    omega (arith, rest, sums)

-- by place, or outside of the shard
module _ {V : Type 0} (shard : ℕ) (shelf : List (Option V)) (long : length shelf ≡ 1022) where
  pub at_place : (n p : ℕ) → n ≡ shard * 1024 + 1 + p → get (by_number shard shelf) n ≡ get_or shelf p None
  at_place n p e = get_place n (shard * 1024 + 1) p shelf e

  pub outside : (n : ℕ) → (IsNumberOf shard n → ⊥) → get (by_number shard shelf) n ≡ None
  outside n apart = elim (cases_lt n (shard * 1024 + 1)) [
    | inl low ↦ get_lower n (shard * 1024 + 1) shelf low
    | inr high ↦ elim (cases_lt (shard * 1024 + 1022) n) [
      | inl past ↦ get_past n (shard * 1024 + 1) (n - (shard * 1024 + 1)) shelf (omega arith) (omega arith)
      | inr within ↦ absurd (apart (omega arith, within))
    ]
  ]

  -- each used number is the shard's
  pub own_number : (n : ℕ) → is_some (get (by_number shard shelf) n) ≡ true → IsNumberOf shard n
  own_number n some = elim (cases_lt n (shard * 1024 + 1)) [
    | inl low ↦ absurd (false≢true (sym (ap is_some (get_lower n (shard * 1024 + 1) shelf low)) ∙ some))
    | inr high ↦ elim (cases_lt (shard * 1024 + 1022) n) [
      | inl past ↦ absurd (false≢true (sym (ap is_some (get_past n (shard * 1024 + 1) (n - (shard * 1024 + 1)) shelf (omega arith) (omega arith))) ∙ some))
      | inr within ↦ (omega arith, within)
    ]
  ]

  pub counted : len (by_number shard shelf) ≡ count_by is_some shelf
  counted = len_places (shard * 1024 + 1) shelf

  pub few : len (by_number shard shelf) ≤ 1022
  few = omega (arith, counted, count_by-le-length is_some shelf, long)

  -- where a place is free, not all numbers are used
  pub not_all : (p : ℕ) (v : V) → p < 1022 → get_or shelf p None ≡ None → len (by_number shard shelf) < 1022
  not_all p v l none = omega (arith, counted, counts_more shelf p v (omega (arith, long)) none, count_by-le-length is_some (set shelf p (Some v)), length-set shelf p (Some v), long)

  pub all_used : ((i : ℕ) → i < 1022 → is_some (get_or shelf i None) ≡ true) → len (by_number shard shelf) ≡ 1022
  all_used each = counted ∙ all_some shelf (λ i l. each i (omega (arith, long))) ∙ long

-- where some place has nothing, fewer have something
some_free : {A : Type 0} (xs : List (Option A)) (i : ℕ) → i < length xs → get_or xs i None ≡ None → count_by is_some xs < length xs
some_free [] i l none = absurd (omega arith)
some_free {A} (None ∷ xs) zero l none = omega (arith, count_by-le-length is_some xs)
some_free {A} (None ∷ xs) (suc i) l none = omega (arith, some_free xs i (omega arith) none)
some_free {A} (Some a ∷ xs) zero l none = absurd (cc)
some_free {A} (Some a ∷ xs) (suc i) l none =
    let rest = some_free xs i (omega arith) none in
    let sums : count_by is_some (Some a ∷ xs) ≡ 1 + count_by is_some xs = sum_by-cons (λ (o : Option A). cond (is_some o) 1 0) (Some a) xs in
    omega (arith, rest, sums)

module _ {V : Type 0} (circuit : V → Option Circuit) (address : V → Option Ip4) (term : V → Option TermId) (deadline : V → Option ℕ) (shard : ℕ) (shelf : List (Option V)) (words : List ℕ) (cs : Listing Circuit) (ads : Listing Ip4) (ts : Listing TermId) (ds : Listing Deadline) (is : IsSlots circuit address term deadline shard shelf words cs ads ts ds) where
  seen : Sessions V
  seen = record { shard = shard; by_number = by_number shard shelf }

  pub lowest_vacant : (p : ℕ) → p < 1022 → free_bit words p ≡ 1 → ((i : ℕ) → i < p → free_bit words i ≡ 0) → IsLowestVacant (record { shard = shard; by_number = by_number shard shelf }) (shard * 1024 + 1 + p)
  lowest_vacant p l free below = record {
    of_shard = (omega arith, omega arith);
    vacant = at_place shard shelf is.places (shard * 1024 + 1 + p) p refl ∙ bit_free _ _ (is.bits p l) free;
    lower_used = λ m of lower.
        let i : ℕ = m - (shard * 1024 + 1) in
        let e : m ≡ shard * 1024 + 1 + (m - (shard * 1024 + 1)) = omega (arith, of.0) in
        let small : m - (shard * 1024 + 1) < p = omega (arith, of.0, lower) in
        ap is_some (at_place shard shelf is.places m (m - (shard * 1024 + 1)) e) ∙ bit_used _ _ (is.bits (m - (shard * 1024 + 1)) (omega (arith, small, l))) (below (m - (shard * 1024 + 1)) small);
  }

  -- where there is a lowest one, not all are used
  pub not_full : (p : ℕ) → p < 1022 → free_bit words p ≡ 1 → len (by_number shard shelf) ≡ 1022 → ⊥
  not_full p l free full = omega (arith, counted shard shelf is.places, some_free shelf p (omega (arith, is.places)) (bit_free _ _ (is.bits p l) free), is.places)

  pub is_full : ((i : ℕ) → i < 1022 → free_bit words i ≡ 0) → len (by_number shard shelf) ≡ 1022
  is_full none = all_used shard shelf is.places (λ i l. bit_used _ _ (is.bits i l) (none i l))

  -- where no place is free, each of the shard's numbers is used
  pub every_used : ((i : ℕ) → i < 1022 → free_bit words i ≡ 0) → (n : ℕ) → IsNumberOf shard n → is_some (get (by_number shard shelf) n) ≡ true
  every_used none n of =
      let e : n ≡ shard * 1024 + 1 + (n - (shard * 1024 + 1)) = omega (arith, of.0) in
      let small : n - (shard * 1024 + 1) < 1022 = omega (arith, of.0, of.1) in
      ap is_some (at_place shard shelf is.places n (n - (shard * 1024 + 1)) e) ∙ bit_used _ _ (is.bits (n - (shard * 1024 + 1)) small) (none (n - (shard * 1024 + 1)) small)

-- an index leads nowhere exactly where no slot has the key
pub leads_nowhere : {K V : Type 0} (R : K → K → Ordering) (read : V → Option K) (m : FinMap nat_cmp V) (x : Listing K) → Agrees R (λ _. read) m x → (key : K) → (find R key x.entries ≡ None) ↔ ((n : ℕ) → option_and_then read (get m n) ≢ Some key)
leads_nowhere R read m x is key = (
  λ none n has. none_some (record { 0 = n }) (sym none ∙ (is.finds key (record { 0 = n })).1 has),
  λ nobody. elim (find R key x.entries) as (λ f. find R key x.entries ≡ f → f ≡ None) [
    | None ↦ λ e. refl
    | Some q ↦ λ e. absurd (nobody q.0 ((is.finds key q).0 e))
  ] refl,
)

-- the deadline of a slot, from what its index has
slot_due : {V : Type 0} (deadline : V → Option ℕ) (q : SessionNo) (o : Option V) (due : Deadline) → option_and_then (due_of deadline q) o ≡ Some due → (option_and_then deadline o ≡ Some due.deadline) × (due.session ≡ q)
slot_due deadline q None due e = absurd (none_some due e)
slot_due deadline q (Some v) due e =
    elim (deadline v) as (λ d. option_map (λ t. record { deadline = t; session = q }) d ≡ Some due → (d ≡ Some due.deadline) × (due.session ≡ q)) [
      | None ↦ λ f. absurd (none_some due f)
      | Some t ↦ λ f. let same = some_same _ due f in (ap (λ (x : Deadline). Some x.deadline) same, sym (ap (λ (x : Deadline). x.session) same))
    ] e

due_slot : {V : Type 0} (deadline : V → Option ℕ) (q : SessionNo) (o : Option V) (t : ℕ) → option_and_then deadline o ≡ Some t → option_and_then (due_of deadline q) o ≡ Some (record { deadline = t; session = q })
due_slot deadline q None t e = absurd (none_some t e)
due_slot deadline q (Some v) t e = ap (option_map (λ d. record { deadline = d; session = q })) e

ties_over : (a b m n : ℕ) → a ≡ b → n < m → is_gt (ordering_then (nat_cmp a b) (nat_cmp m n)) ≡ true
ties_over a b m n same over = grind (arith, nat_tests)

later : (a b m n : ℕ) → b < a → is_gt (ordering_then (nat_cmp a b) (nat_cmp m n)) ≡ true
later a b m n over = grind (arith, nat_tests)

same_or_later : (a b m n : ℕ) → b ≤ a → is_gt (ordering_then (nat_cmp a b) (nat_cmp m n)) ≡ false → (a ≡ b) × (m ≤ n)
same_or_later a b m n more e = elim (cases_eq a b) [
  | inl same ↦ (same, elim (cases_lt n m) [ inl over ↦ absurd (true≢false (sym (ties_over a b m n same over) ∙ e)) | inr under ↦ under ])
  | inr differ ↦ absurd (true≢false (sym (later a b m n (omega arith)) ∙ e))
]

in_due_order : (a b : Deadline) → is_gt (due_order a b) ≡ false → (a.deadline < b.deadline) ⊎ ((a.deadline ≡ b.deadline) × (a.session.0 ≤ b.session.0))
in_due_order a b e = elim (cases_lt a.deadline b.deadline) [
  | inl less ↦ inl less
  | inr more ↦ inr (same_or_later a.deadline b.deadline a.session.0 b.session.0 more e)
]

module _ {V : Type 0} (deadline : V → Option ℕ) (s : Sessions V) (x : Listing Deadline) (is : Agrees due_order (due_of deadline) s.by_number x) where
  pub earliest_is : (due : Deadline) → is_some (find due_order due x.entries) ≡ true → ((j : Deadline) (n : SessionNo) → find due_order j x.entries ≡ Some n → is_gt (due_order due j) ≡ false) → IsEarliest deadline s due.deadline due.session.0
  earliest_is due there least =
      elim (find due_order due x.entries) as (λ f. find due_order due x.entries ≡ f → is_some f ≡ true → IsEarliest deadline s due.deadline due.session.0) [
        | None ↦ λ e t. absurd (false≢true t)
        | Some q ↦ λ e t.
            let both = slot_due deadline q (get s.by_number q.0) due ((is.finds due q).0 e) in
            record {
              has = ap (λ (r : SessionNo). option_and_then deadline (get s.by_number r.0)) both.1 ∙ both.0;
              first = λ m later has. in_due_order due (record { deadline = later; session = record { 0 = m } }) (least (record { deadline = later; session = record { 0 = m } }) (record { 0 = m }) ((is.finds _ _).1 (due_slot deadline (record { 0 = m }) (get s.by_number m) later has)));
            }
      ] refl there

  pub none_due : x.entries ≡ [] → (n : ℕ) → option_and_then deadline (get s.by_number n) ≡ None
  none_due none n =
      elim (option_and_then deadline (get s.by_number n)) as (λ o. option_and_then deadline (get s.by_number n) ≡ o → o ≡ None) [
        | None ↦ λ e. refl
        | Some t ↦ λ e. absurd (none_some (record { 0 = n }) (sym (ap (find due_order (record { deadline = t; session = record { 0 = n } })) none) ∙ (is.finds _ _).1 (due_slot deadline (record { 0 = n }) (get s.by_number n) t e)))
      ] refl

  pub some_due : (due : Deadline) → is_some (find due_order due x.entries) ≡ true → ((n : ℕ) → option_and_then deadline (get s.by_number n) ≡ None) → ⊥
  some_due due there nobody =
      elim (find due_order due x.entries) as (λ f. find due_order due x.entries ≡ f → is_some f ≡ true → ⊥) [
        | None ↦ λ e t. false≢true t
        | Some q ↦ λ e t. none_some due.deadline (sym (nobody q.0) ∙ (slot_due deadline q (get s.by_number q.0) due ((is.finds due q).0 e)).0)
      ] refl there

-- a shard whose slots are all vacant
pub opened : {V : Type 0} (circuit : V → Option Circuit) (address : V → Option Ip4) (term : V → Option TermId) (deadline : V → Option ℕ) (shard : ℕ) (shelf : List (Option V)) (words : List ℕ) (cs : Listing Circuit) (ads : Listing Ip4) (ts : Listing TermId) (ds : Listing Deadline) → shard ≤ 63 → shelf ≡ replicate 1022 None → ((i : ℕ) → i < 1024 → free_bit words i ≡ 1) → (cs.entries ≡ []) × (1022 ≤ cs.room) → (ads.entries ≡ []) × (1022 ≤ ads.room) → (ts.entries ≡ []) × (1022 ≤ ts.room) → (ds.entries ≡ []) × (1022 ≤ ds.room) → IsSlots circuit address term deadline shard shelf words cs ads ts ds
opened {V} circuit address term deadline shard shelf words cs ads ts ds small none free c a t d =
    let nothing : Option V = None in
    let nobody : by_number shard shelf ≡ empty = ap (by_number shard) none ∙ places_none (shard * 1024 + 1) 1022 in
    record {
      in_range = omega arith;
      places = ap length none ∙ length-replicate 1022 nothing;
      bits = λ i l. free i (omega arith) ∙ sym (ap (λ (o : Option V). cond (is_some o) 0 1) (ap (λ (xs : List (Option V)). get_or xs i None) none ∙ get_or-replicate 1022 i None None l));
      circuits_agree = subst (λ m. Agrees circuit_order (λ _. circuit) m cs) (sym nobody) (agrees_empty circuit_order circuit_order-total circuit_order-IsAntisymmetric (λ _. circuit) cs c.0 c.1);
      addresses_agree = subst (λ m. Agrees address_order (λ _. address) m ads) (sym nobody) (agrees_empty address_order address_order-total address_order-IsAntisymmetric (λ _. address) ads a.0 a.1);
      terms_agree = subst (λ m. Agrees term_order (λ _. term) m ts) (sym nobody) (agrees_empty term_order term_order-total term_order-IsAntisymmetric (λ _. term) ts t.0 t.1);
      deadlines_agree = subst (λ m. Agrees due_order (due_of deadline) m ds) (sym nobody) (agrees_empty due_order due_order-total due_order-IsAntisymmetric (due_of deadline) ds d.0 d.1);
    }

module _ {K V : Type 0} (R : K → K → Ordering) (o : IsTotalOrder R) (same : IsAntisymmetric R) where
  module _ (read : SessionNo → V → Option K) (m : FinMap nat_cmp V) (x : Listing K) (is : Agrees R read m x) where
    -- there is room for one entry more where not all numbers are used
    pub note_room : len m < 1022 → length x.entries < x.room
    note_room l = omega (arith, fits R o same read m x is, is.room)

    module _ (n : SessionNo) (v : V) (key : Option K) (e : key ≡ read n v) (x' : Listing K) where
      pub agrees_noted : get m n.0 ≡ None → ((j : K) → key ≡ Some j → find R j x.entries ≡ None) → ((k : K) → find R k x'.entries ≡ noted R key n k (find R k x.entries)) → length x'.entries ≡ length x.entries + cond (is_some key) 1 0 → x'.room ≡ x.room → Agrees R read (insert m n.0 v) x'
      agrees_noted vacant free finds longer room = agrees_came R o same read m x x' is n v vacant (λ j h. free j (e ∙ h)) (λ k. finds k ∙ ap (λ j. noted R j n k (find R k x.entries)) e) (longer ∙ ap (λ (j : Option K). length x.entries + cond (is_some j) 1 0) e) room

      pub agrees_forgotten : get m n.0 ≡ Some v → ((k : K) → find R k x'.entries ≡ forgotten R key k (find R k x.entries)) → length x'.entries + cond (is_some key) 1 0 ≡ length x.entries → x'.room ≡ x.room → Agrees R read (remove m n.0) x'
      agrees_forgotten held finds shorter room = agrees_left R o same read m x x' is n v held (λ k. finds k ∙ ap (λ j. forgotten R j k (find R k x.entries)) e) (sym (ap (λ (j : Option K). length x'.entries + cond (is_some j) 1 0) e) ∙ shorter) room

    -- what the value of a slot has stands in the index
    pub forget_there : (n : SessionNo) (v : V) (key : Option K) → key ≡ read n v → get m n.0 ≡ Some v → (k : K) → key ≡ Some k → is_some (find R k x.entries) ≡ true
    forget_there n v key e held k h = ap is_some ((is.finds k n).1 (ap (option_and_then (read n)) held ∙ sym e ∙ h))

  -- what no slot has does not stand in the index
  pub note_absent : (read : V → Option K) (m : FinMap nat_cmp V) (x : Listing K) → Agrees R (λ _. read) m x → (v : V) (key : Option K) → key ≡ read v → ((n : ℕ) (k : K) → read v ≡ Some k → option_and_then read (get m n) ≢ Some k) → (k : K) → key ≡ Some k → find R k x.entries ≡ None
  note_absent read m x is v key e alone k h = absent R o same (λ _. read) m x is k (λ q. alone q.0 k (sym e ∙ h))

module _ {V : Type 0} (deadline : V → Option ℕ) (m : FinMap nat_cmp V) (x : Listing Deadline) (is : Agrees due_order (due_of deadline) m x) where
  -- a session that is not there has no deadline in the index
  pub due_absent : (n : SessionNo) (v : V) (key : Option Deadline) → key ≡ due_of deadline n v → get m n.0 ≡ None → (k : Deadline) → key ≡ Some k → find due_order k x.entries ≡ None
  due_absent n v key e vacant k h = absent due_order due_order-total due_order-IsAntisymmetric (due_of deadline) m x is k (λ q has.
      let theirs = slot_due deadline q (get m q.0) k has in
      let ours = slot_due deadline n (Some v) k (sym e ∙ h) in
      let one : q ≡ n = sym theirs.1 ∙ ours.1 in
      none_some k.deadline (sym (ap (λ (s : SessionNo). option_and_then deadline (get m s.0)) one ∙ ap (option_and_then deadline) vacant) ∙ theirs.0))

if_same : {A : Type 0} (i p : ℕ) (x y : A) → i ≡ p → (if i == p then x else y) ≡ x
if_same i p x y e = grind (arith, nat_tests)

if_other : {A : Type 0} (i p : ℕ) (x y : A) → i ≢ p → (if i == p then x else y) ≡ y
if_other i p x y e = grind (arith, nat_tests)

-- to take out a number that is not used changes nothing
pub remove_absent : {V : Type 0} (m : FinMap nat_cmp V) (n : ℕ) → get m n ≡ None → remove m n ≡ m
remove_absent m n none = same_map nat_cmp_total nat_cmp-IsAntisymmetric _ _ (λ q. elim (cases_eq q n) [
  | inl same ↦ get-remove nat_cmp_total m n q ∙ ap (λ b. cond b None (get m q)) (same_number q n same) ∙ sym (ap (get m) same ∙ none)
  | inr differ ↦ get-remove nat_cmp_total m n q ∙ ap (λ b. cond b None (get m q)) (other_number q n differ)
])

module _ {V : Type 0} (circuit : V → Option Circuit) (address : V → Option Ip4) (term : V → Option TermId) (deadline : V → Option ℕ) (shard : ℕ) (shelf : List (Option V)) (words : List ℕ) (cs : Listing Circuit) (ads : Listing Ip4) (ts : Listing TermId) (ds : Listing Deadline) (is : IsSlots circuit address term deadline shard shelf words cs ads ts ds) (n : SessionNo) (p : ℕ) (l : p < 1022) (e : n.0 ≡ shard * 1024 + 1 + p) where
  within : p < length shelf
  within = omega (arith, l, is.places)

  pub put_map : (v : V) → by_number shard (set shelf p (Some v)) ≡ insert (by_number shard shelf) n.0 v
  put_map v = places_put (shard * 1024 + 1) p shelf v within ∙ ap (λ q. insert (by_number shard shelf) q v) (sym e)

  pub take_map : by_number shard (set shelf p None) ≡ remove (by_number shard shelf) n.0
  take_map = places_take (shard * 1024 + 1) p shelf within ∙ ap (remove (by_number shard shelf)) (sym e)

  -- a free place is not all
  pub one_free : get (by_number shard shelf) n.0 ≡ None → len (by_number shard shelf) < 1022
  one_free vacant = omega (arith, counted shard shelf is.places, some_free shelf p within (sym (at_place shard shelf is.places n.0 p e) ∙ vacant), is.places)

  written_bit : (words' : List ℕ) (x : Option V) (b : ℕ) → b ≡ cond (is_some x) 0 1 → ((i : ℕ) → free_bit words' i ≡ (if i == p then b else free_bit words i)) → (i : ℕ) → i < 1022 → free_bit words' i ≡ cond (is_some (get_or (set shelf p x) i None)) 0 1
  written_bit words' x b is' bits i small = elim (cases_eq i p) [
    | inl same ↦ bits i ∙ if_same i p b _ same ∙ is' ∙ sym (ap (λ (o : Option V). cond (is_some o) 0 1) (ap (λ j. get_or (set shelf p x) j None) same ∙ get_or-set_same shelf p x None within))
    | inr differ ↦ bits i ∙ if_other i p b _ differ ∙ is.bits i small ∙ sym (ap (λ (o : Option V). cond (is_some o) 0 1) (get_or-set_other shelf p i x None differ))
  ]

  pub put_slots : (v : V) (words' : List ℕ) (cs' : Listing Circuit) (ads' : Listing Ip4) (ts' : Listing TermId) (ds' : Listing Deadline) → ((i : ℕ) → free_bit words' i ≡ (if i == p then 0 else free_bit words i)) → Agrees circuit_order (λ _. circuit) (insert (by_number shard shelf) n.0 v) cs' → Agrees address_order (λ _. address) (insert (by_number shard shelf) n.0 v) ads' → Agrees term_order (λ _. term) (insert (by_number shard shelf) n.0 v) ts' → Agrees due_order (due_of deadline) (insert (by_number shard shelf) n.0 v) ds' → IsSlots circuit address term deadline shard (set shelf p (Some v)) words' cs' ads' ts' ds'
  put_slots v words' cs' ads' ts' ds' bits c a t d = record {
    in_range = is.in_range;
    places = length-set shelf p (Some v) ∙ is.places;
    bits = written_bit words' (Some v) 0 refl bits;
    circuits_agree = subst (λ m. Agrees circuit_order (λ _. circuit) m cs') (sym (put_map v)) c;
    addresses_agree = subst (λ m. Agrees address_order (λ _. address) m ads') (sym (put_map v)) a;
    terms_agree = subst (λ m. Agrees term_order (λ _. term) m ts') (sym (put_map v)) t;
    deadlines_agree = subst (λ m. Agrees due_order (due_of deadline) m ds') (sym (put_map v)) d;
  }

  pub take_slots : (words' : List ℕ) (cs' : Listing Circuit) (ads' : Listing Ip4) (ts' : Listing TermId) (ds' : Listing Deadline) → ((i : ℕ) → free_bit words' i ≡ (if i == p then 1 else free_bit words i)) → Agrees circuit_order (λ _. circuit) (remove (by_number shard shelf) n.0) cs' → Agrees address_order (λ _. address) (remove (by_number shard shelf) n.0) ads' → Agrees term_order (λ _. term) (remove (by_number shard shelf) n.0) ts' → Agrees due_order (due_of deadline) (remove (by_number shard shelf) n.0) ds' → IsSlots circuit address term deadline shard (set shelf p None) words' cs' ads' ts' ds'
  take_slots words' cs' ads' ts' ds' bits c a t d = record {
    in_range = is.in_range;
    places = length-set shelf p None ∙ is.places;
    bits = written_bit words' None 1 refl bits;
    circuits_agree = subst (λ m. Agrees circuit_order (λ _. circuit) m cs') (sym take_map) c;
    addresses_agree = subst (λ m. Agrees address_order (λ _. address) m ads') (sym take_map) a;
    terms_agree = subst (λ m. Agrees term_order (λ _. term) m ts') (sym take_map) t;
    deadlines_agree = subst (λ m. Agrees due_order (due_of deadline) m ds') (sym take_map) d;
  }

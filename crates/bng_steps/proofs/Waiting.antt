-- The open questions of a shard that were not handed out yet: the first of them, and those that are left once it is handed out.
use Rattle.std.proofs.Common.{◌≡◌, ◌≢◌, ℕ, ◌+◌, ◌-◌, ◌*◌, ◌%◌, ◌<◌, ◌==◌, Bool, true, false, not, cond, T, List, [], ◌∷◌, ◌++◌, map, length, drop, slice_get, Option, Some, None, is_some, filter, find, flat_map, option_map, option_and_then, refl, sym, ap, subst, ◌∙◌, arith}
use Rattle.std.specs.List.{AllByRecursion}
use Rattle.std.specs.Ordering.{nat_cmp}
use Rattle.std.specs.FinMap.{entries, entries_sorted, is_sorted, get-entries}
use Rattle.std.specs.FinMap.{find as find_at}
use Rattle.std.proofs.lemmas.Bool.{eq-eqb, false≢true}
use Rattle.std.proofs.lemmas.List.{get_or-set_other, get_or-set_same}
use Rattle.std.proofs.lemmas.Nat.{mod-mul-add}
use Rattle.bng_base.specs.declared.address.SessionNo.{SessionNo}
use Rattle.bng_sessions.specs.Sessions.{Sessions, IsNumberOf, value_at}
use Rattle.bng_sessions.specs.Listed.{values}
use Rattle.bng_steps.specs.LinkService.{Question}
use Rattle.bng_steps.specs.declared.session.Session.{Session}
use Rattle.bng_steps.specs.Questions.{Asking, IsLowestWaiting, asked_in, asking_of, does_wait, handed_after, is_handed, is_waiting, open_of, place_of}
use Rattle.bng_steps.specs.Serving.{AreAsking, AreOfShard, AreOwn, asks}
use Rattle.bng_steps.proofs.Listing.{lowest_is, none_is}
use Rattle.bng_steps.proofs.Values.{above, behind, first, first_found, none_some, same_some, second}

abbrev pub asked : List Session → List Asking
asked xs = flat_map (λ x. asked_in x (open_of x)) xs

abbrev pub left : List ℕ → List Asking → List Asking
left handed qs = filter (λ a. not (is_handed handed a)) qs

abbrev asking_at : Session → Option Asking
asking_at x = option_map (asking_of x) (open_of x)

-- The first ------------------------------------------------------------------------------------------------------------

-- the first question that waits is that of the first session that waits
pub first_left : (handed : List ℕ) (xs : List Session) → slice_get (left handed (asked xs)) 0 ≡ option_and_then asking_at (find (does_wait handed) xs)
first_left handed [] = refl
first_left handed (x ∷ xs) =
    let rest = first_left handed xs in
    elim (open_of x) as (λ o. open_of x ≡ o → slice_get (left handed (asked_in x o ++ asked xs)) 0 ≡ option_and_then asking_at (cond (is_waiting handed x o) (Some x) (find (does_wait handed) xs))) [
      | None ↦ λ e. rest
      | Some q ↦ λ e.
          elim (not (is_handed handed (asking_of x q))) as (λ b. slice_get (cond b (asking_of x q ∷ left handed (asked xs)) (left handed (asked xs))) 0 ≡ option_and_then asking_at (cond b (Some x) (find (does_wait handed) xs))) [
            | true ↦ sym (ap (option_map (asking_of x)) e)
            | false ↦ rest
          ]
    ] refl

waits_asks : (handed : List ℕ) (x : Session) (o : Option Question) → is_waiting handed x o ≡ true → is_some o ≡ true
waits_asks handed x None h = absurd (false≢true h)
waits_asks handed x (Some q) h = refl

module _ (s : Sessions Session) (handed : List ℕ) (numbers : List SessionNo) (h : AreAsking s numbers) where
  asks_first : (x : Session) → does_wait handed x ≡ true → asks x ≡ true
  asks_first x waits = waits_asks handed x (open_of x) waits

  -- its question is the first that waits
  pub head_is : (n : SessionNo) (x : Session) (q : Question) → IsLowestWaiting s handed numbers (Some n) → value_at s n.0 ≡ Some x → open_of x ≡ Some q → slice_get (left handed (asked (values s))) 0 ≡ Some (asking_of x q)
  head_is n x q lowest is opens =
      first_left handed (values s) ∙ ap (option_and_then asking_at) (lowest_is asks (does_wait handed) asks_first s numbers h n lowest ∙ is) ∙ ap (option_map (asking_of x)) opens

  pub head_none : IsLowestWaiting s handed numbers None → slice_get (left handed (asked (values s))) 0 ≡ None
  head_none none = first_left handed (values s) ∙ ap (option_and_then asking_at) (none_is asks (does_wait handed) asks_first s numbers h none)

-- Those that are left --------------------------------------------------------------------------------------------------

abbrev place : Asking → ℕ
place a = place_of a.number.session

-- questions at other places
abbrev Others : ℕ → List Asking → Type 0
Others p qs = AllByRecursion (λ a. place a ≢ p) qs

-- no two at one place
abbrev Apart : List Asking → Type 0
Apart [] = Unit {0}
Apart (a ∷ qs) = Others (place a) qs × Apart qs

handed_this : (handed : List ℕ) (a : Asking) → place a < length handed → is_handed (handed_after handed a.number) a ≡ true
handed_this handed a within = eq-eqb _ _ (get_or-set_same handed (place a) a.number.ask 0 within)

handed_other : (handed : List ℕ) (a b : Asking) → place b ≢ place a → is_handed (handed_after handed a.number) b ≡ is_handed handed b
handed_other handed a b differ = ap (λ (n : ℕ). n == b.number.ask) (get_or-set_other handed (place a) (place b) a.number.ask 0 differ)

left_others : (handed : List ℕ) (a : Asking) (bs : List Asking) → Others (place a) bs → left (handed_after handed a.number) bs ≡ left handed bs
left_others handed a [] others = refl
left_others handed a (b ∷ bs) others =
    ap (λ (t : Bool). cond (not t) (b ∷ left (handed_after handed a.number) bs) (left (handed_after handed a.number) bs)) (handed_other handed a b others.0)
    ∙ ap (λ (qs : List Asking). cond (not (is_handed handed b)) (b ∷ qs) qs) (left_others handed a bs others.1)

-- the first of those that are left is one of them
first_has : (P : Asking → Type 0) (handed : List ℕ) (bs : List Asking) (a : Asking) → AllByRecursion P bs → slice_get (left handed bs) 0 ≡ Some a → P a
first_has P handed [] a all e = absurd (none_some a e)
first_has P handed (b ∷ bs) a all e =
    elim (not (is_handed handed b)) as (λ t. slice_get (cond t (b ∷ left handed bs) (left handed bs)) 0 ≡ Some a → P a) [
      | true ↦ λ f. subst P (same_some b a f) all.0
      | false ↦ λ f. first_has P handed bs a all.1 f
    ] e

first_out : (handed : List ℕ) (b : Asking) (bs : List Asking) → Others (place b) bs → place b < length handed → left (handed_after handed b.number) (b ∷ bs) ≡ left handed bs
first_out handed b bs others within =
    ap (λ (t : Bool). cond (not t) (b ∷ left (handed_after handed b.number) bs) (left (handed_after handed b.number) bs)) (handed_this handed b within)
    ∙ left_others handed b bs others

rest_left : (handed : List ℕ) (bs : List Asking) (a : Asking) → Apart bs → place a < length handed → slice_get (left handed bs) 0 ≡ Some a → left (handed_after handed a.number) bs ≡ drop 1 (left handed bs)
rest_left handed [] a apart within e = absurd (none_some a e)
rest_left handed (b ∷ bs) a apart within e =
    elim (is_handed handed b) as (λ t. is_handed handed b ≡ t → slice_get (cond (not t) (b ∷ left handed bs) (left handed bs)) 0 ≡ Some a → left (handed_after handed a.number) (b ∷ bs) ≡ drop 1 (cond (not t) (b ∷ left handed bs) (left handed bs))) [
      | true ↦ λ t f.
          let differ = first_has (λ c. place c ≢ place b) handed bs a apart.0 f in
          ap (λ (u : Bool). cond (not u) (b ∷ left (handed_after handed a.number) bs) (left (handed_after handed a.number) bs)) (handed_other handed a b (λ s. differ (sym s)) ∙ t)
          ∙ rest_left handed bs a apart.1 within f
      | false ↦ λ t f.
          let same = same_some b a f in
          subst (λ (c : Asking). left (handed_after handed c.number) (b ∷ bs) ≡ left handed bs) same (first_out handed b bs apart.0 (subst (λ (c : Asking). place c < length handed) (sym same) within))
    ] refl e

-- the place of a shard's number
place_is : (shard n : ℕ) → IsNumberOf shard n → n % 1024 - 1 ≡ n - (shard * 1024 + 1)
place_is shard n is =
    let low = is.0 in
    let high = is.1 in
    let split : n ≡ shard * 1024 + (n - shard * 1024) = omega (arith, low) in
    let rest = ap (λ (k : ℕ). k % 1024) split ∙ mod-mul-add shard 1024 (n - shard * 1024) (omega (arith, low, high)) in
    omega (arith, rest, low)

place_within : (shard : ℕ) (n : SessionNo) → IsNumberOf shard n.0 → place_of n < 1022
place_within shard n is =
    let at = place_is shard n.0 is in
    let low = is.0 in
    let high = is.1 in
    omega (arith, at, low, high)

-- a session has one of the shard's numbers, and its place
pub number_of_session : (s : Sessions Session) → AreOwn s → AreOfShard s → (n : ℕ) (x : Session) → value_at s n ≡ Some x → IsNumberOf s.shard x.number.0
number_of_session s own of_shard n x is = subst (IsNumberOf s.shard) (sym (own n x is)) (of_shard n (ap is_some is))

pub place_of_session : (s : Sessions Session) → AreOwn s → AreOfShard s → (n : ℕ) (x : Session) → value_at s n ≡ Some x → place_of x.number < 1022
place_of_session s own of_shard n x is = place_within s.shard x.number (number_of_session s own of_shard n x is)

places_differ : (shard m n : ℕ) → IsNumberOf shard m → IsNumberOf shard n → m < n → n % 1024 - 1 ≢ m % 1024 - 1
places_differ shard m n is_m is_n l e =
    let at_m = place_is shard m is_m in
    let at_n = place_is shard n is_n in
    let low = is_m.0 in
    omega (arith, e, l, at_m, at_n, low)

-- entries whose sessions have these numbers, which are the shard's
abbrev AreNumbered : ℕ → List (ℕ × Session) → Type 0
AreNumbered shard es = (n : ℕ) (x : Session) → find_at nat_cmp n es ≡ Some x → (x.number.0 ≡ n) × IsNumberOf shard n

others_behind : (shard m : ℕ) (es : List (ℕ × Session)) → IsNumberOf shard m → T (is_sorted nat_cmp es) → AreNumbered shard es → ((n : ℕ) (x : Session) → find_at nat_cmp n es ≡ Some x → m < n) → Others (m % 1024 - 1) (asked (map (λ e. e.1) es))
others_behind shard m [] is sorted own over = tt
others_behind shard m (e ∷ es) is sorted own over =
    let rest = others_behind shard m es is (second _ _ sorted) (λ n x f. own n x (behind e es n x (first _ _ sorted) f)) (λ n x f. over n x (behind e es n x (first _ _ sorted) f)) in
    let here = own e.0 e.1 (first_found e es) in
    let l = over e.0 e.1 (first_found e es) in
    elim (open_of e.1) as (λ o. Others (m % 1024 - 1) (asked_in e.1 o ++ asked (map (λ e. e.1) es))) [
      | None ↦ rest
      | Some q ↦ (subst (λ (k : ℕ). k % 1024 - 1 ≢ m % 1024 - 1) (sym here.0) (places_differ shard m e.0 is here.1 l), rest)
    ]

apart_all : (shard : ℕ) (es : List (ℕ × Session)) → T (is_sorted nat_cmp es) → AreNumbered shard es → Apart (asked (map (λ e. e.1) es))
apart_all shard [] sorted own = tt
apart_all shard (e ∷ es) sorted own =
    let behind_own : AreNumbered shard es = λ n x f. own n x (behind e es n x (first _ _ sorted) f) in
    let rest = apart_all shard es (second _ _ sorted) behind_own in
    let here = own e.0 e.1 (first_found e es) in
    let others = others_behind shard e.0 es here.1 (second _ _ sorted) behind_own (λ n x f. above e.0 n x es (first _ _ sorted) f) in
    elim (open_of e.1) as (λ o. Apart (asked_in e.1 o ++ asked (map (λ e. e.1) es))) [
      | None ↦ rest
      | Some q ↦ (subst (λ (k : ℕ). Others (k % 1024 - 1) (asked (map (λ e. e.1) es))) (sym here.0) others, rest)
    ]

-- the first question that waits is handed out
pub rest_waiting : (s : Sessions Session) (handed : List ℕ) (a : Asking) → AreOwn s → AreOfShard s → place a < length handed → slice_get (left handed (asked (values s))) 0 ≡ Some a → left (handed_after handed a.number) (asked (values s)) ≡ drop 1 (left handed (asked (values s)))
rest_waiting s handed a own of_shard within e =
    let numbered : AreNumbered s.shard (entries s.by_number) = λ n x f.
    let is : value_at s n ≡ Some x = get-entries s.by_number n ∙ f in
    (own n x is, of_shard n (ap is_some is)) in
    rest_left handed (asked (values s)) a (apart_all s.shard (entries s.by_number) (entries_sorted s.by_number) numbered) within e

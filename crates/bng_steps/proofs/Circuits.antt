-- The sessions of a shard's provisioned circuits come one after another, by rising number.
use Rattle.std.proofs.Common.{◌≡◌, ◌≢◌, ℕ, zero, suc, ◌+◌, ◌-◌, ◌*◌, ◌<◌, ◌≤◌, ◌==◌, Bool, true, false, cond, List, [], ◌∷◌, ◌++◌, length, Option, Some, None, is_some, IfSome, IfNone, length-append, Contains, All, AllPairs, filter, find, flat_map, sum_by, slice_get, option_map, inl, inr, refl, sym, ap, subst, ◌∙◌, arith}
use Rattle.std.specs.List.{range_with_len}
use Rattle.std.specs.Ordering.{nat_cmp, eq_by_cmp}
use Rattle.std.specs.declared.cmp.Ordering.{Ordering}
use Rattle.std.specs.declared.cmp.Ordering.TheVariants.{Greater}
use Rattle.std.specs.Cmp.{nat_cmp_is, nat_cmp_total}
use Rattle.std.specs.FinMap.{empty, entries, put, get-entries, entries-insert, len-entries, len-empty}
use Rattle.std.specs.FinMap.{find as find_at}
use Rattle.std.specs.FinMap.Entries.{by_order}
use Rattle.std.proofs.lemmas.Bool.{cases_eq, eqb-true, false≢true}
use Rattle.std.proofs.lemmas.List.{append-nil}
use Rattle.std.proofs.lemmas.List.Concat.{flat_map-append}
use Rattle.std.proofs.lemmas.List.Elements.{All-contains, All-contains_itself, All-filter, Contains-append_cases, filter_passes, recursion_from_All}
use Rattle.std.proofs.lemmas.List.Sums.{sum_by-cons}
use Rattle.bng_base.specs.declared.circuit.Circuit.{Circuit}
use Rattle.bng_base.specs.declared.circuit.Circuit.TheVariants.{Pppoe, L2tp}
use Rattle.bng_base.specs.declared.circuit.TermId.{TermId}
use Rattle.bng_base.specs.declared.book.Profile.{Profile}
use Rattle.bng_base.specs.declared.settings.Static.{Static}
use Rattle.bng_sessions.specs.Sessions.{Sessions, IsNumberOf, NoneShares, value_at, with_value}
use Rattle.bng_sessions.specs.Listed.{values}
use Rattle.bng_base.specs.declared.address.SessionNo.{SessionNo}
use Rattle.bng_steps.specs.declared.session.Session.{Session}
use Rattle.bng_steps.specs.Indexed.{address_of, term_of}
use Rattle.bng_steps.specs.Listing.{AreListed, does_pass, passing_in}
use Rattle.bng_steps.specs.Opening.{circuit_at, in_order, no_tunnels, none_passed, numbered_after, opened_meters, opened_slots, provisioned, tenures_after}
use Rattle.bng_steps.specs.Serving.{AreLeased, KeepsLease, AreApart, AreOwn, AreOfShard}
use Rattle.bng_steps.specs.declared.way.Way.{Way}
use Rattle.bng_steps.specs.declared.way.Way.TheVariants.{Port, Call}
use Rattle.bng_steps.specs.State.{State, circuit_in, circuit_of}
use Rattle.bng_steps.proofs.Earliest.{read_there}
use Rattle.bng_steps.proofs.InOrder.{Apart, AtMostOne, apart_addresses, apart_of, at_most_one, sum_in_order}
use Rattle.bng_steps.proofs.Values.{from_entries_of, none_some, number_same, numbered, same_some, sum_nothing}

-- Lists ----------------------------------------------------------------------------------------------------------------

range_more : (a k : ℕ) → range_with_len a (suc k) ≡ range_with_len a k ++ (a + k) ∷ []
range_more a zero = let same : a ≡ a + 0 = omega arith in ap (λ (m : ℕ). m ∷ []) same
range_more a (suc k) =
    let same : (a + 1) + k ≡ a + suc k = omega arith in
    ap (λ (ns : List ℕ). a ∷ ns) (range_more (a + 1) k ∙ ap (λ (m : ℕ). range_with_len (a + 1) k ++ m ∷ []) same)

-- the circuits of so many session numbers, by rising number
abbrev pub up_to : ℕ → List Static → ℕ → List Static
up_to first circuits k = flat_map (circuit_at circuits) (range_with_len first k)

up_to_more : (first : ℕ) (circuits : List Static) (k : ℕ) → up_to first circuits (suc k) ≡ up_to first circuits k ++ circuit_at circuits (first + k)
up_to_more first circuits k =
    ap (flat_map (circuit_at circuits)) (range_more first k)
    ∙ flat_map-append (circuit_at circuits) (range_with_len first k) ((first + k) ∷ [])
    ∙ ap (λ (cs : List Static). up_to first circuits k ++ cs) (append-nil (circuit_at circuits (first + k)))

numbered_more : (now k : ℕ) (cs : List Static) (c : Static) → numbered_after now k (cs ++ c ∷ []) ≡ numbered_after now k cs ++ (c.session.0, provisioned now c (k + length cs + 1)) ∷ []
numbered_more now k [] c =
    let same : k + 1 ≡ k + 0 + 1 = omega arith in
    ap (λ (n : ℕ). (c.session.0, provisioned now c n) ∷ []) same
numbered_more now k (d ∷ cs) c =
    let same : (k + 1) + length cs + 1 ≡ k + suc (length cs) + 1 = omega arith in
    ap (λ (es : List (ℕ × Session)). (d.session.0, provisioned now d (k + 1)) ∷ es)
    (numbered_more now (k + 1) cs c ∙ ap (λ (n : ℕ). numbered_after now (k + 1) cs ++ (c.session.0, provisioned now c n) ∷ []) same)

-- one of these circuits stands under its number
record Among (now : ℕ) (cs : List Static) (m : ℕ) (x : Session) : Type 0 where
  c : Static
  serial : ℕ
  holds : Contains cs c
  number : c.session.0 ≡ m
  is : x ≡ provisioned now c serial

found_among : (now k : ℕ) (cs : List Static) (m : ℕ) (x : Session) → find_at nat_cmp m (numbered_after now k cs) ≡ Some x → Among now cs m x
found_among now k [] m x e = absurd (none_some x e)
found_among now k (c ∷ cs) m x e =
    elim (eq_by_cmp nat_cmp m c.session.0) as (λ b. eq_by_cmp nat_cmp m c.session.0 ≡ b → cond b (Some (provisioned now c (k + 1))) (find_at nat_cmp m (numbered_after now (k + 1) cs)) ≡ Some x → Among now (c ∷ cs) m x) [
      | true ↦ λ t f. record {
        c = c;
        serial = k + 1;
        holds = (0, omega arith, refl);
        number = sym (number_same m c.session.0 t);
        is = sym (same_some (provisioned now c (k + 1)) x f);
      }
      | false ↦ λ t f.
          let rest = found_among now (k + 1) cs m x f in
          record {
            c = rest.c;
            serial = rest.serial;
            holds = (suc rest.holds.0, omega (arith, rest.holds.1), rest.holds.2);
            number = rest.number;
            is = rest.is;
          }
    ] refl e

at_number : (circuits : List Static) (n : ℕ) (c : Static) → Contains (circuit_at circuits n) c → (Contains circuits c) × (c.session.0 ≡ n)
at_number circuits n c h =
    let test : Static → Bool = λ d. d.session.0 == n in
    let all = All-filter test (Contains circuits) circuits (All-contains_itself circuits) in
    let passes = filter_passes test circuits in
    (All-contains (Contains circuits) (circuit_at circuits n) c all h, eqb-true c.session.0 n (All-contains (λ (d : Static). test d ≡ true) (circuit_at circuits n) c passes h))

within : (circuits : List Static) (first k : ℕ) (c : Static) → Contains (up_to first circuits k) c → (Contains circuits c) × (first ≤ c.session.0) × (c.session.0 < first + k)
within circuits first zero c h = let l = h.1 in absurd (omega (arith, l))
within circuits first (suc k) c h =
    elim (Contains-append_cases (circuit_at circuits first) (up_to (first + 1) circuits k) c h) [
      | inl here ↦
          let at = at_number circuits first c here in
          let same = at.1 in
          (at.0, omega (arith, same), omega (arith, same))
      | inr later ↦
          let rest = within circuits (first + 1) k c later in
          let low = rest.1 in
          let high = rest.2 in
          (rest.0, omega (arith, low), omega (arith, high))
    ]

greater : (n m : ℕ) → m < n → nat_cmp n m ≡ Greater
greater n m l = sym (nat_cmp_is n m Greater l)

-- an entry whose number is higher than the others' stands last
put_last : (now n : ℕ) (v : Session) (k : ℕ) (cs : List Static) → ((c : Static) → Contains cs c → c.session.0 < n) → put nat_cmp n v (numbered_after now k cs) ≡ numbered_after now k cs ++ (n, v) ∷ []
put_last now n v k [] lower = refl
put_last now n v k (c ∷ cs) lower =
    let e : ℕ × Session = (c.session.0, provisioned now c (k + 1)) in
    let es = numbered_after now (k + 1) cs in
    ap (λ (o : Ordering). by_order o ((n, v) ∷ e ∷ es) ((c.session.0, v) ∷ es) (e ∷ put nat_cmp n v es)) (greater n c.session.0 (lower c (0, omega arith, refl)))
    ∙ ap (λ (fs : List (ℕ × Session)). e ∷ fs) (put_last now n v (k + 1) cs (λ d h. lower d (suc h.0, omega (arith, h.1), h.2)))

pub no_length : {A : Type 0} (xs : List A) → length xs ≡ 0 → xs ≡ []
no_length [] e = refl
no_length (x ∷ xs) e = absurd (omega arith)

pub ones : {A : Type 0} (xs : List A) → sum_by (λ _. 1) xs ≡ length xs
ones [] = refl
ones {A} (x ∷ xs) =
    let rest = ones xs in
    let one : A → ℕ = λ _. 1 in
    let all = sum_by-cons one x xs in
    omega (arith, rest, all)

-- The one circuit of a number ------------------------------------------------------------------------------------------

find_filter : (p : Static → Bool) (cs : List Static) → find p cs ≡ slice_get (filter p cs) 0
find_filter p [] = refl
find_filter p (c ∷ cs) =
    elim (p c) as (λ b. cond b (Some c) (find p cs) ≡ slice_get (cond b (c ∷ filter p cs) (filter p cs)) 0) [ true ↦ refl | false ↦ find_filter p cs ]

first_of : (found : List Static) (n : ℕ) (c : Static) → AtMostOne n found → slice_get found 0 ≡ Some c → found ≡ c ∷ []
first_of found n c (inl none) e = absurd (none_some c (sym (ap (λ (cs : List Static). slice_get cs 0) none) ∙ e))
first_of found n c (inr (d, is, at)) e =
    is ∙ ap (λ (x : Static). x ∷ []) (same_some d c (sym (ap (λ (cs : List Static). slice_get cs 0) is) ∙ e))

none_of : (found : List Static) (n : ℕ) → AtMostOne n found → slice_get found 0 ≡ None → found ≡ []
none_of found n (inl none) e = none
none_of found n (inr (d, is, at)) e = absurd (none_some d (sym e ∙ ap (λ (cs : List Static). slice_get cs 0) is))

pub circuit_found : (circuits : List Static) (n : ℕ) (c : Static) → AllPairs (λ a b. a.session ≢ b.session) circuits → find (λ d. d.session.0 == n) circuits ≡ Some c → circuit_at circuits n ≡ c ∷ []
circuit_found circuits n c apart e = first_of (circuit_at circuits n) n c (at_most_one n circuits (apart_of circuits apart)) (sym (find_filter (λ d. d.session.0 == n) circuits) ∙ e)

pub circuit_none : (circuits : List Static) (n : ℕ) → AllPairs (λ a b. a.session ≢ b.session) circuits → find (λ d. d.session.0 == n) circuits ≡ None → circuit_at circuits n ≡ []
circuit_none circuits n apart e = none_of (circuit_at circuits n) n (at_most_one n circuits (apart_of circuits apart)) (sym (find_filter (λ d. d.session.0 == n) circuits) ∙ e)

pub circuit_some : {R : Type 0} (now : R → Static) (circuits : List Static) (n : ℕ) (r : Option R) → AllPairs (λ a b. a.session ≢ b.session) circuits → option_map now r ≡ find (λ d. d.session.0 == n) circuits → IfSome r (λ c. circuit_at circuits n ≡ now c ∷ [])
circuit_some now circuits n None apart e = tt
circuit_some now circuits n (Some c) apart e = circuit_found circuits n (now c) apart (sym e)

pub circuit_absent : {R : Type 0} (now : R → Static) (circuits : List Static) (n : ℕ) (r : Option R) → AllPairs (λ a b. a.session ≢ b.session) circuits → option_map now r ≡ find (λ d. d.session.0 == n) circuits → IfNone r (circuit_at circuits n ≡ [])
circuit_absent now circuits n None apart e = circuit_none circuits n apart (sym e)
circuit_absent now circuits n (Some c) apart e = tt

few_found : (found : List Static) (n : ℕ) → AtMostOne n found → length found ≤ 1
few_found found n (inl none) = let e = ap (λ (cs : List Static). length cs) none in omega (arith, e)
few_found found n (inr (c, is, at)) = let e = ap (λ (cs : List Static). length cs) is in omega (arith, e)

-- there are no more circuits than numbers
few_up_to : (circuits : List Static) (first k : ℕ) → Apart circuits → length (up_to first circuits k) ≤ k
few_up_to circuits first zero apart = omega arith
few_up_to circuits first (suc k) apart =
    let rest = few_up_to circuits (first + 1) k apart in
    let one = few_found (circuit_at circuits first) first (at_most_one first circuits apart) in
    let both = length-append (circuit_at circuits first) (up_to (first + 1) circuits k) in
    omega (arith, rest, one, both)

-- One circuit after another --------------------------------------------------------------------------------------------

-- the circuits of so many numbers stand, with so many terms
pub record Opens (now number : ℕ) (circuits : List Static) (k : ℕ) (sessions : Sessions Session) (begun : ℕ) : Type 0 where
  pub shard : sessions.shard ≡ number
  pub stand : entries sessions.by_number ≡ numbered_after now 0 (up_to (number * 1024 + 1) circuits k)
  pub counted : begun ≡ length (up_to (number * 1024 + 1) circuits k)

pub opens_none : (now number : ℕ) (circuits : List Static) (sessions : Sessions Session) → sessions.shard ≡ number → sessions.by_number ≡ empty → Opens now number circuits 0 sessions 0
opens_none now number circuits sessions shard none = record {
  shard = shard;
  stand = ap entries none ∙ no_length (entries empty) (sym (len-entries empty) ∙ len-empty nat_cmp Session);
  counted = refl;
}

-- what stands under a number
pub record Stands (now number : ℕ) (circuits : List Static) (k m : ℕ) (x : Session) : Type 0 where
  pub c : Static
  pub serial : ℕ
  pub of : Contains circuits c
  pub session : c.session.0 ≡ m
  pub low : number * 1024 + 1 ≤ m
  pub high : m < number * 1024 + 1 + k
  pub is : x ≡ provisioned now c serial

abbrev circuit_session : Circuit → ℕ
circuit_session (Pppoe port mac session) = session.0
circuit_session (L2tp peer tunnel session) = session.0

its_session : (way : Way) (n : SessionNo) → circuit_session (circuit_in way n) ≡ n.0
its_session (Port port mac) n = refl
its_session (Call c) n = refl

abbrev session_of_term : Option TermId → ℕ
session_of_term None = 0
session_of_term (Some t) = t.session.0

module _ (now number : ℕ) (circuits : List Static) (k : ℕ) (sessions : Sessions Session) (begun : ℕ) (h : Opens now number circuits k sessions begun) where
  pub stands_for : (m : ℕ) (x : Session) → value_at sessions m ≡ Some x → Stands now number circuits k m x
  stands_for m x e =
      let found = found_among now 0 (up_to (number * 1024 + 1) circuits k) m x (ap (find_at nat_cmp m) (sym h.stand) ∙ sym (get-entries sessions.by_number m) ∙ e) in
      let here = within circuits (number * 1024 + 1) k found.c found.holds in
      let same = found.number in
      let low = here.1 in
      let high = here.2 in
      record {
        c = found.c;
        serial = found.serial;
        of = here.0;
        session = found.number;
        low = omega (arith, same, low);
        high = omega (arith, same, high);
        is = found.is;
      }

  pub vacant_there : (n : ℕ) → n ≡ number * 1024 + 1 + k → value_at sessions n ≡ None
  vacant_there n e =
      elim (value_at sessions n) as (λ o. value_at sessions n ≡ o → o ≡ None) [
        | None ↦ λ is. refl
        | Some x ↦ λ is. let high = (stands_for n x is).high in absurd (omega (arith, high, e))
      ] refl

  pub opens_other : circuit_at circuits (number * 1024 + 1 + k) ≡ [] → Opens now number circuits (suc k) sessions begun
  opens_other none =
      let same : up_to (number * 1024 + 1) circuits (suc k) ≡ up_to (number * 1024 + 1) circuits k =
      up_to_more (number * 1024 + 1) circuits k ∙ ap (λ (cs : List Static). up_to (number * 1024 + 1) circuits k ++ cs) none ∙ append-nil (up_to (number * 1024 + 1) circuits k) in
      record {
        shard = h.shard;
        stand = h.stand ∙ ap (numbered_after now 0) (sym same);
        counted = h.counted ∙ ap (λ (cs : List Static). length cs) (sym same);
      }

  module _ (n : ℕ) (c : Static) (at : n ≡ number * 1024 + 1 + k) (is : circuit_at circuits n ≡ c ∷ []) where
    one : (Contains circuits c) × (c.session.0 ≡ n)
    one = at_number circuits n c (subst (λ (cs : List Static). Contains cs c) (sym is) (0, omega arith, refl))

    other_session : (m serial : ℕ) (x : Session) → value_at sessions m ≡ Some x → x.number.0 ≢ (provisioned now c serial).number.0
    other_session m serial x e same =
        let there = stands_for m x e in
        let theirs = ap (λ (y : Session). y.number.0) there.is in
        let high = there.high in
        let session = there.session in
        let mine = one.1 in
        omega (arith, theirs, high, session, mine, same, at)

    pub shares_circuit : (serial : ℕ) → NoneShares (λ (x : Session). Some (circuit_of x)) sessions (provisioned now c serial)
    shares_circuit serial m circuit mine has =
        let x = read_there (λ (y : Session). Some (circuit_of y)) (value_at sessions m) circuit has in
        let same = same_some (circuit_of x.0) circuit x.2 ∙ sym (same_some (circuit_of (provisioned now c serial)) circuit mine) in
        other_session m serial x.0 x.1 (sym (its_session x.0.way x.0.number) ∙ ap circuit_session same)

    pub shares_term : (serial : ℕ) → NoneShares term_of sessions (provisioned now c serial)
    shares_term serial m term mine has =
        let x = read_there term_of (value_at sessions m) term has in
        let there = stands_for m x.0 x.1 in
        let theirs : term_of (provisioned now there.c there.serial) ≡ Some term = ap term_of (sym there.is) ∙ x.2 in
        let same : there.c.session.0 ≡ c.session.0 = ap session_of_term (theirs ∙ sym mine) in
        other_session m serial x.0 x.1 (ap (λ (y : Session). y.number.0) there.is ∙ same)

    pub shares_address : AllPairs (λ a b. a.address ≢ b.address) circuits → (serial : ℕ) → NoneShares address_of sessions (provisioned now c serial)
    shares_address apart serial m address mine has =
        let x = read_there address_of (value_at sessions m) address has in
        let there = stands_for m x.0 x.1 in
        let theirs : Some there.c.address ≡ Some address = ap address_of (sym there.is) ∙ x.2 in
        let same : there.c.address ≡ c.address = same_some there.c.address address theirs ∙ sym (same_some c.address address mine) in
        let high = there.high in
        let session = there.session in
        let here = one.1 in
        apart_addresses circuits apart there.c c there.of one.0 (λ e. omega (arith, e, high, session, here, at)) same

    pub opens_more : (serial : ℕ) → serial ≡ begun + 1 → Opens now number circuits (suc k) (with_value sessions n (provisioned now c serial)) serial
    opens_more serial next =
        let cs = up_to (number * 1024 + 1) circuits k in
        let more : up_to (number * 1024 + 1) circuits (suc k) ≡ cs ++ c ∷ [] =
        up_to_more (number * 1024 + 1) circuits k ∙ ap (λ (ds : List Static). cs ++ ds) (ap (circuit_at circuits) (sym at) ∙ is) in
        let lower : (d : Static) → Contains cs d → d.session.0 < n = λ d held. let high = (within circuits (number * 1024 + 1) k d held).2 in omega (arith, high, at) in
        let count = h.counted in
        let last : 0 + length cs + 1 ≡ serial = omega (arith, count, next) in
        let entry : ◌≡◌ {A = ℕ × Session} (n, provisioned now c serial) (c.session.0, provisioned now c (0 + length cs + 1)) = λ i. (sym one.1 i, provisioned now c (sym last i)) in
        record {
          shard = h.shard;
          stand = entries-insert nat_cmp_total sessions.by_number n (provisioned now c serial) ∙ ap (put nat_cmp n (provisioned now c serial)) h.stand
              ∙ put_last now n (provisioned now c serial) 0 cs lower
              ∙ ap (λ (e : ℕ × Session). numbered_after now 0 cs ++ e ∷ []) entry
              ∙ sym (ap (numbered_after now 0) more ∙ numbered_more now 0 cs c);
          counted = next ∙ ap (λ (m : ℕ). m + 1) h.counted ∙ sym (ap (λ (ds : List Static). length ds) more ∙ length_more cs c);
        }
      where
        length_more : (ds : List Static) (d : Static) → length (ds ++ d ∷ []) ≡ length ds + 1
        length_more [] d = refl
        length_more (e ∷ ds) d = let rest = length_more ds d in omega (arith, rest)

pub few_begun : (now number : ℕ) (circuits : List Static) (k : ℕ) (sessions : Sessions Session) (begun : ℕ) → Opens now number circuits k sessions begun → AllPairs (λ a b. a.session ≢ b.session) circuits → begun ≤ k
few_begun now number circuits k sessions begun h apart =
    let few = few_up_to circuits (number * 1024 + 1) k (apart_of circuits apart) in
    let count = h.counted in
    omega (arith, few, count)

module _ (now number : ℕ) (circuits : List Static) (first n : ℕ) (sessions : Sessions Session) (begun : ℕ) (h : Opens now number circuits (n - first) sessions begun) (from : first ≡ number * 1024 + 1) (low : first ≤ n) where
  pub at : n ≡ number * 1024 + 1 + (n - first)
  at = omega (arith, from, low)

  next : suc (n - first) ≡ n + 1 - first
  next = omega (arith, low)

  -- the circuit of this number comes
  pub opens_put : (c : Static) → circuit_at circuits n ≡ c ∷ [] → (sessions' : Sessions Session) (begun' : ℕ) → begun' ≡ begun + 1 → sessions' ≡ with_value sessions n (provisioned now c (begun + 1)) → Opens now number circuits (n + 1 - first) sessions' begun'
  opens_put c is sessions' begun' more put =
      let opens = opens_more now number circuits (n - first) sessions begun h n c at is (begun + 1) refl in
      subst (λ (k : ℕ). Opens now number circuits k sessions' begun') next
      (subst (λ (b : ℕ). Opens now number circuits (suc (n - first)) sessions' b) (sym more)
      (subst (λ (t : Sessions Session). Opens now number circuits (suc (n - first)) t (begun + 1)) (sym put) opens))

  -- there is none of this number
  pub opens_pass : circuit_at circuits n ≡ [] → (sessions' : Sessions Session) (begun' : ℕ) → begun' ≡ begun → sessions' ≡ sessions → Opens now number circuits (n + 1 - first) sessions' begun'
  opens_pass none sessions' begun' same put =
      let here : circuit_at circuits (number * 1024 + 1 + (n - first)) ≡ [] = ap (circuit_at circuits) (sym at) ∙ none in
      let opens = opens_other now number circuits (n - first) sessions begun h here in
      subst (λ (k : ℕ). Opens now number circuits k sessions' begun') next
      (subst (λ (b : ℕ). Opens now number circuits (suc (n - first)) sessions' b) (sym same)
      (subst (λ (t : Sessions Session). Opens now number circuits (suc (n - first)) t begun) (sym put) opens))

-- All of them ----------------------------------------------------------------------------------------------------------

module _ (now number : ℕ) (circuits : List Static) (sessions : Sessions Session) (begun : ℕ) (h : Opens now number circuits 1022 sessions begun) where
  pub opened_own : AreOwn sessions
  opened_own m x e = let there = stands_for now number circuits 1022 sessions begun h m x e in ap (λ (y : Session). y.number.0) there.is ∙ there.session

  -- the circuits' addresses differ
  pub opened_apart : AllPairs (λ a b. a.address ≢ b.address) circuits → AreApart sessions
  opened_apart apart m n address em en =
      let x = read_there address_of (value_at sessions m) address em in
      let y = read_there address_of (value_at sessions n) address en in
      let one = stands_for now number circuits 1022 sessions begun h m x.0 x.1 in
      let two = stands_for now number circuits 1022 sessions begun h n y.0 y.1 in
      let first : one.c.address ≡ address = same_some one.c.address address (ap address_of (sym one.is) ∙ x.2) in
      let second : two.c.address ≡ address = same_some two.c.address address (ap address_of (sym two.is) ∙ y.2) in
      elim (cases_eq m n) [
        | inl same ↦ same
        | inr differ ↦ absurd (apart_addresses circuits apart one.c two.c one.of two.of (λ e. differ (sym one.session ∙ e ∙ two.session)) (first ∙ sym second))
      ]

  pub opened_of_shard : AreOfShard sessions
  opened_of_shard m some =
      elim (value_at sessions m) as (λ o. value_at sessions m ≡ o → is_some o ≡ true → IsNumberOf sessions.shard m) [
        | None ↦ λ e f. absurd (false≢true f)
        | Some x ↦ λ e f.
            let there = stands_for now number circuits 1022 sessions begun h m x e in
            let shard = h.shard in
            let low = there.low in
            let high = there.high in
            (omega (arith, shard, low), omega (arith, shard, high))
      ] refl some

  -- none passes a test that each provisioned circuit fails, so none is listed
  opened_fails : (test : Session → Bool) → ((c : Static) (serial : ℕ) → test (provisioned now c serial) ≡ false) → (n : ℕ) (o : Option Session) → value_at sessions n ≡ o → does_pass test o ≡ false
  opened_fails test all n None e = refl
  opened_fails test all n (Some x) e = let there = stands_for now number circuits 1022 sessions begun h n x e in ap test there.is ∙ all there.c there.serial

  pub opened_listed : (test : Session → Bool) → ((c : Static) (serial : ℕ) → test (provisioned now c serial) ≡ false) → AreListed test sessions []
  opened_listed test all n = ap {B = ℕ} (λ (b : Bool). cond b 1 0) (sym (opened_fails test all n (value_at sessions n) refl))

  pub opened_none : (test : Session → Bool) → ((c : Static) (serial : ℕ) → test (provisioned now c serial) ≡ false) → passing_in test sessions ≡ 0
  opened_none test all = sum_nothing (λ (x : Session). cond (test x) 1 0) (values sessions) (λ x c. let n = numbered sessions x c in ap {B = ℕ} (λ (b : Bool). cond b 1 0) (opened_fails test all n.0 (Some x) n.1))

  -- each is a circuit that has not ended, with the lease of its term
  pub opened_leased : AreLeased sessions
  opened_leased m x e =
      let there = stands_for now number circuits 1022 sessions begun h m x e in
      subst (λ (y : Session). KeepsLease y.service y.lease) (sym there.is) tt

  pub opened_is : (profiles : List Profile) → All (λ c. IsNumberOf number c.session.0) circuits
      → ◌≡◌ {A = State} (record { sessions = sessions; begun = begun; question_count = 0; terms = tenures_after now 0 (in_order number circuits); news = []; passed = none_passed; meters = opened_meters number profiles circuits now; tunnels = no_tunnels number }) (opened_slots number profiles circuits now)
  opened_is profiles own =
      let map = from_entries_of sessions.by_number (numbered_after now 0 (in_order number circuits)) h.stand in
      let one : Static → ℕ = λ _. 1 in
      let count : begun ≡ length circuits =
      h.counted ∙ sym (ones (in_order number circuits)) ∙ sum_in_order one number circuits (recursion_from_All (λ (c : Static). IsNumberOf number c.session.0) circuits own) ∙ ones circuits in
      λ i. record { sessions = record { shard = h.shard i; by_number = map i }; begun = count i; question_count = 0; terms = tenures_after now 0 (in_order number circuits); news = []; passed = none_passed; meters = opened_meters number profiles circuits now; tunnels = no_tunnels number }

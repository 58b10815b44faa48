-- The circuits of a shard by rising session number: each is there once, and their terms are those of the opening.
use Rattle.std.proofs.Common.{◌≡◌, ◌≢◌, ◌⊎◌, inl, inr, ℕ, zero, suc, ◌+◌, ◌*◌, ◌<◌, ◌≤◌, Bool, true, false, ◌&&◌, cond, T, List, [], ◌∷◌, ◌++◌, Contains, get_or, map, refl, sym, ap, subst, ◌∙◌, arith, eqb}
use Rattle.std.specs.List.{AllPairs, AllByRecursion, flat_map, sum_by, range_with_len}
use Rattle.std.specs.declared.cmp.Ordering.TheVariants.{Less}
use Rattle.std.specs.Ordering.{nat_cmp, is_lt}
use Rattle.std.specs.Cmp.{nat_cmp_is}
use Rattle.std.specs.FinMap.{entries, entries-from_sorted, is_sorted}
use Rattle.std.specs.FinMap.Entries.{below_all}
use Rattle.std.proofs.lemmas.Bool.{cases_eq, cases_lt, eq-eqb, ne_eqb}
use Rattle.std.proofs.lemmas.List.Concat.{flat_map-cons}
use Rattle.std.proofs.lemmas.List.Elements.{at_from_Contains, recursion_from_All}
use Rattle.std.proofs.lemmas.List.Sums.{sum_by-cons, sum_by-append}
use Rattle.bng_base.specs.declared.address.SessionNo.{SessionNo}
use Rattle.bng_base.specs.declared.settings.Static.{Static}
use Rattle.bng_engine.specs.Terms.{Term}
use Rattle.bng_sessions.specs.Sessions.{IsNumberOf}
use Rattle.bng_steps.specs.declared.rules.Rules.{Rules}
use Rattle.bng_steps.specs.Opening.{circuit_at, in_order, numbered_after, opened_slots, tenure_from, tenures_after}
use Rattle.bng_steps.specs.Protocol.{term_in, terms_of, terms_of_circuits}

abbrev pub number : Static → ℕ
number c = c.session.0

-- no two have the same number
abbrev pub Apart : List Static → Type 0
Apart [] = Unit {0}
Apart (c ∷ cs) = AllByRecursion (λ d. number d ≡ number c → ⊥) cs × Apart cs

same_number : (a b : SessionNo) → a.0 ≡ b.0 → a ≡ b
same_number a b e = let make : ℕ → SessionNo = λ n. record { 0 = n } in ap make e

pub apart_of : (cs : List Static) → AllPairs (λ a b. a.session ≡ b.session → ⊥) cs → Apart cs
apart_of [] h = tt
apart_of (c ∷ cs) h = (
  recursion_from_All (λ d. number d ≡ number c → ⊥) cs (λ k d lt e. h zero (suc k) d (omega arith) (omega (arith, lt)) (sym (same_number _ _ e))),
  apart_of cs (λ i j d lt within. h (suc i) (suc j) d (omega (arith, lt)) (omega (arith, within))),
)

-- two circuits of different sessions have different addresses
pub apart_addresses : (cs : List Static) → AllPairs (λ a b. a.address ≢ b.address) cs → (a b : Static) → Contains cs a → Contains cs b → a.session.0 ≢ b.session.0 → a.address ≢ b.address
apart_addresses cs apart a b ca cb differ e =
    let at_a = at_from_Contains cs a ca in
    let at_b = at_from_Contains cs b cb in
    elim (cases_lt at_a.0 at_b.0) [
      | inl l ↦ apart at_a.0 at_b.0 a l at_b.1 (ap (λ (c : Static). c.address) (at_a.2 a) ∙ e ∙ sym (ap (λ (c : Static). c.address) (at_b.2 a)))
      | inr over ↦ elim (cases_lt at_b.0 at_a.0) [
        | inl l ↦ apart at_b.0 at_a.0 a l at_a.1 (ap (λ (c : Static). c.address) (at_b.2 a) ∙ sym e ∙ sym (ap (λ (c : Static). c.address) (at_a.2 a)))
        | inr under ↦
            let same : at_a.0 ≡ at_b.0 = omega (arith, over, under) in
            differ (ap (λ (c : Static). c.session.0) (sym (at_a.2 a) ∙ ap (λ (i : ℕ). get_or cs i a) same ∙ at_b.2 a))
      ]
    ]

-- Sums ------------------------------------------------------------------------------------------------------------------

-- x as often as m is one of the numbers
abbrev hits : ℕ → List ℕ → ℕ → ℕ
hits m [] x = 0
hits m (n ∷ ns) x = cond (eqb m n) x 0 + hits m ns x

hits_below : (m a k x : ℕ) → m < a → hits m (range_with_len a k) x ≡ 0
hits_below m a zero x lt = refl
hits_below m a (suc k) x lt =
    omega (arith, ap (λ (b : Bool). cond b x 0) (ne_eqb m a (λ e. omega (arith, e, lt))), hits_below m (a + 1) k x (omega (arith, lt)))

hits_within : (m a k x : ℕ) → a ≤ m → m < a + k → hits m (range_with_len a k) x ≡ x
hits_within m a zero x low high = absurd (omega (arith, low, high))
hits_within m a (suc k) x low high =
    elim (cases_eq m a) [
      | inl e ↦ omega (arith, ap (λ (b : Bool). cond b x 0) (eq-eqb m a e), hits_below m (a + 1) k x (omega (arith, e)))
      | inr ne ↦ omega (arith, ap (λ (b : Bool). cond b x 0) (ne_eqb m a ne), hits_within m (a + 1) k x (above m a low ne) (omega (arith, high)))
    ]
  where
    above : (m a : ℕ) → a ≤ m → (m ≡ a → ⊥) → a + 1 ≤ m
    above m a low ne = omega (arith, low, ne)

module _ (f : Static → ℕ) where
  here : (b : Bool) (c : Static) (cs : List Static) → sum_by f (cond b (c ∷ cs) cs) ≡ cond b (f c) 0 + sum_by f cs
  here true c cs = sum_by-cons f c cs
  here false c cs = omega arith

  one_more : (c : Static) (cs : List Static) (ns : List ℕ) → sum_by f (flat_map (circuit_at (c ∷ cs)) ns) ≡ hits (number c) ns (f c) + sum_by f (flat_map (circuit_at cs) ns)
  one_more c cs [] = refl
  one_more c cs (n ∷ ns) =
      let left = ap (sum_by f) (flat_map-cons (circuit_at (c ∷ cs)) n ns) ∙ sum_by-append f (circuit_at (c ∷ cs) n) (flat_map (circuit_at (c ∷ cs)) ns) in
      let right = ap (sum_by f) (flat_map-cons (circuit_at cs) n ns) ∙ sum_by-append f (circuit_at cs n) (flat_map (circuit_at cs) ns) in
      omega (arith, left, right, here (eqb (number c) n) c (circuit_at cs n), one_more c cs ns)

  none : (ns : List ℕ) → sum_by f (flat_map (circuit_at []) ns) ≡ 0
  none [] = refl
  none (n ∷ ns) = ap (sum_by f) (flat_map-cons (circuit_at []) n ns) ∙ none ns

  sum_among : (shard k : ℕ) → k ≡ 1022 → (cs : List Static) → AllByRecursion (λ c. IsNumberOf shard c.session.0) cs → sum_by f (flat_map (circuit_at cs) (range_with_len (shard * 1024 + 1) k)) ≡ sum_by f cs
  sum_among shard k all [] h = none (range_with_len (shard * 1024 + 1) k)
  sum_among shard k all (c ∷ cs) h =
      let more = one_more c cs (range_with_len (shard * 1024 + 1) k) in
      let high = h.0.1 in
      let here = hits_within (number c) (shard * 1024 + 1) k (f c) h.0.0 (omega (arith, high, all)) in
      let rest = sum_among shard k all cs h.1 in
      more ∙ ap (λ (n : ℕ). n + sum_by f (flat_map (circuit_at cs) (range_with_len (shard * 1024 + 1) k))) here ∙ ap (λ (n : ℕ). f c + n) rest ∙ sym (sum_by-cons f c cs)

  -- what is summed over the circuits is summed over them by rising number
  pub sum_in_order : (shard : ℕ) (cs : List Static) → AllByRecursion (λ c. IsNumberOf shard c.session.0) cs → sum_by f (in_order shard cs) ≡ sum_by f cs
  sum_in_order shard cs h = sum_among shard 1022 refl cs h

-- What holds of each circuit -------------------------------------------------------------------------------------------

module _ (P : Static → Type 0) where
  kept_where : (b : Bool) (c : Static) (cs : List Static) → P c → AllByRecursion P cs → AllByRecursion P (cond b (c ∷ cs) cs)
  kept_where true c cs h all = (h, all)
  kept_where false c cs h all = all

  all_at : (n : ℕ) (cs : List Static) → AllByRecursion P cs → AllByRecursion P (circuit_at cs n)
  all_at n [] h = tt
  all_at n (c ∷ cs) h = kept_where (eqb (number c) n) c (circuit_at cs n) h.0 (all_at n cs h.1)

  joined : (xs ys : List Static) → AllByRecursion P xs → AllByRecursion P ys → AllByRecursion P (xs ++ ys)
  joined [] ys h i = i
  joined (x ∷ xs) ys h i = (h.0, joined xs ys h.1 i)

  all_among : (cs : List Static) (ns : List ℕ) → AllByRecursion P cs → AllByRecursion P (flat_map (circuit_at cs) ns)
  all_among cs [] h = tt
  all_among cs (n ∷ ns) h =
      subst (AllByRecursion P) (sym (flat_map-cons (circuit_at cs) n ns)) (joined (circuit_at cs n) (flat_map (circuit_at cs) ns) (all_at n cs h) (all_among cs ns h))

  -- holds of each by rising number
  pub all_in_order : (shard : ℕ) (cs : List Static) → AllByRecursion P cs → AllByRecursion P (in_order shard cs)
  all_in_order shard cs h = all_among cs (range_with_len (shard * 1024 + 1) 1022) h

-- Their order ----------------------------------------------------------------------------------------------------------

-- their numbers rise strictly, from this one on
abbrev pub Rising : ℕ → List Static → Type 0
Rising a [] = Unit {0}
Rising a (c ∷ cs) = (a ≤ number c) × Rising (number c + 1) cs

from_lower : (a b : ℕ) (cs : List Static) → a ≤ b → Rising b cs → Rising a cs
from_lower a b [] le h = tt
from_lower a b (c ∷ cs) le h = (omega (arith, le, h.0), h.1)

none_left : (n : ℕ) (cs : List Static) → AllByRecursion (λ d. number d ≡ n → ⊥) cs → circuit_at cs n ≡ []
none_left n [] h = refl
none_left n (d ∷ ds) h = ap (λ (b : Bool). cond b (d ∷ circuit_at ds n) (circuit_at ds n)) (ne_eqb (number d) n h.0) ∙ none_left n ds h.1

-- there is no circuit of that number, or one
abbrev pub AtMostOne : ℕ → List Static → Type 0
AtMostOne n found = (found ≡ []) ⊎ ((c : Static) × (found ≡ c ∷ []) × (number c ≡ n))

other : (n m : ℕ) (cs : List Static) → m ≡ n → AllByRecursion (λ d. number d ≡ m → ⊥) cs → AllByRecursion (λ d. number d ≡ n → ⊥) cs
other n m cs e h = subst (λ (k : ℕ). AllByRecursion (λ d. number d ≡ k → ⊥) cs) e h

pub at_most_one : (n : ℕ) (cs : List Static) → Apart cs → AtMostOne n (circuit_at cs n)
at_most_one n [] h = inl refl
at_most_one n (c ∷ cs) h =
    elim (cases_eq (number c) n) [
      | inl e ↦
          let first : circuit_at (c ∷ cs) n ≡ c ∷ circuit_at cs n = ap (λ (b : Bool). cond b (c ∷ circuit_at cs n) (circuit_at cs n)) (eq-eqb (number c) n e) in
          inr (c, first ∙ ap (λ (ds : List Static). c ∷ ds) (none_left n cs (other n (number c) cs e h.0)), e)
      | inr ne ↦
          let later : circuit_at cs n ≡ circuit_at (c ∷ cs) n = sym (ap (λ (b : Bool). cond b (c ∷ circuit_at cs n) (circuit_at cs n)) (ne_eqb (number c) n ne)) in
          subst (AtMostOne n) later (at_most_one n cs h.1)
    ]

apart_from : (n : ℕ) (cs : List Static) (c : Static) → AllByRecursion (λ d. number d ≡ n → ⊥) cs → Contains cs c → number c ≡ n → ⊥
apart_from n [] c h (k, l, is) e = omega (arith, l)
apart_from n (d ∷ ds) c h (zero, l, is) e = h.0 (ap number is ∙ e)
apart_from n (d ∷ ds) c h (suc k, l, is) e = apart_from n ds c h.1 (k, omega (arith, l), is) e

-- of a circuit's number there is that circuit
pub its_circuit : (c : Static) (cs : List Static) → Apart cs → Contains cs c → circuit_at cs (number c) ≡ c ∷ []
its_circuit c [] apart (k, l, is) = absurd (omega (arith, l))
its_circuit c (d ∷ ds) apart (zero, l, is) =
    let n : ℕ = number c in
    let same : number d ≡ n = ap number is in
    ap (λ (b : Bool). cond b (d ∷ circuit_at ds n) (circuit_at ds n)) (eq-eqb (number d) n same)
    ∙ ap (λ (es : List Static). d ∷ es) (none_left n ds (other n (number d) ds same apart.0))
    ∙ ap (λ (e : Static). e ∷ []) is
its_circuit c (d ∷ ds) apart (suc k, l, is) =
    let n : ℕ = number c in
    let there : Contains ds c = (k, omega (arith, l), is) in
    ap (λ (b : Bool). cond b (d ∷ circuit_at ds n) (circuit_at ds n)) (ne_eqb (number d) n (λ e. apart_from (number d) ds c apart.0 there (sym e)))
    ∙ its_circuit c ds apart.1 there

before : (a : ℕ) (found later : List Static) → AtMostOne a found → Rising (a + 1) later → Rising a (found ++ later)
before a found later (inl e) h = subst (λ (ds : List Static). Rising a (ds ++ later)) (sym e) (from_lower a (a + 1) later (omega arith) h)
before a found later (inr (c, e, is)) h =
    subst (λ (ds : List Static). Rising a (ds ++ later)) (sym e) (omega (arith, is), subst (λ (n : ℕ). Rising (n + 1) later) (sym is) h)

rising_among : (cs : List Static) → Apart cs → (a k : ℕ) → Rising a (flat_map (circuit_at cs) (range_with_len a k))
rising_among cs apart a zero = tt
rising_among cs apart a (suc k) =
    subst (Rising a) (sym (flat_map-cons (circuit_at cs) a (range_with_len (a + 1) k)))
    (before a (circuit_at cs a) (flat_map (circuit_at cs) (range_with_len (a + 1) k)) (at_most_one a cs apart) (rising_among cs apart (a + 1) k))

pub rising_in_order : (shard : ℕ) (cs : List Static) → Apart cs → Rising (shard * 1024 + 1) (in_order shard cs)
rising_in_order shard cs apart = rising_among cs apart (shard * 1024 + 1) 1022

both : (a b : Bool) → T a → T b → T (a && b)
both true b p q = q
both false b p q = p

is_below : (x y : ℕ) → x < y → T (is_lt (nat_cmp x y))
is_below x y lt = subst (λ o. T (is_lt o)) (nat_cmp_is x y Less lt) tt

below : (now x a k : ℕ) (cs : List Static) → x < a → Rising a cs → T (below_all nat_cmp x (numbered_after now k cs))
below now x a k [] lt h = tt
below now x a k (c ∷ cs) lt h = both _ _ (is_below x (number c) (omega (arith, lt, h.0))) (below now x (number c + 1) (k + 1) cs (omega (arith, lt, h.0)) h.1)

-- by their numbers they make a map
pub sorted : (now a k : ℕ) (cs : List Static) → Rising a cs → T (is_sorted nat_cmp (numbered_after now k cs))
sorted now a k [] h = tt
sorted now a k (c ∷ cs) h = both _ _ (below now (number c) (number c + 1) (k + 1) cs (omega arith) h.1) (sorted now (number c + 1) (k + 1) cs h.1)

-- Their terms ----------------------------------------------------------------------------------------------------------

pub opened_entries : (shard : ℕ) (cs : List Static) (now : ℕ) → Apart cs → entries (opened_slots shard [] cs now).sessions.by_number ≡ numbered_after now 0 (in_order shard cs)
opened_entries shard cs now apart = entries-from_sorted nat_cmp (numbered_after now 0 (in_order shard cs)) (sorted now (shard * 1024 + 1) 0 (in_order shard cs) (rising_in_order shard cs apart))

-- what the engine reads of a term does not tell when it began
terms_numbered : (now : ℕ) (k : ℕ) (cs : List Static) → map term_in (tenures_after now k cs) ≡ map term_in (tenures_after 0 k cs)
terms_numbered now k [] = refl
terms_numbered now k (c ∷ cs) = ap (λ (ts : List Term). term_in (tenure_from now c (k + 1)) ∷ ts) (terms_numbered now (k + 1) cs)

-- the terms of a shard at its opening are those of its circuits
pub opened_terms : (r : Rules) (shard : ℕ) (cs : List Static) (now : ℕ) → terms_of (record { rules = r; slots = opened_slots shard r.profiles cs now; changed = [] }) ≡ terms_of_circuits shard cs
opened_terms r shard cs now = terms_numbered now 0 (in_order shard cs)

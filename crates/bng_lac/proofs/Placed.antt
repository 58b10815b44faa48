-- The call of a session, and the calls with it or without it, by its place.
use Rattle.std.proofs.Common.{◌≡◌, ℕ, zero, suc, ◌+◌, ◌<◌, ◌≤◌, ◌==◌, ◌⊎◌, Bool, true, false, cond, not, nat_lt, List, [], ◌∷◌, ◌++◌, length, get_or, set, filter, find, Option, None, Some, Result, Ok, Err, refl, sym, ap, subst, ◌∙◌, arith, inl, inr, length-append, ltb-true}
use Rattle.std.specs.Prelude.{IfOk, IfErr, IsSome}
use Rattle.std.specs.List.{insert, remove}
use Rattle.std.specs.List.Sorted.{IsSearchInRange, IsBinarySearchResult, IsNonDecreasingBy}
use Rattle.std.specs.Ordering.{nat_cmp, ordering_index}
use Rattle.std.proofs.lemmas.Bool.{cases_lt, cases_order, cond_both, false≢true}
use Rattle.std.proofs.lemmas.Bool.Decides.{nat_tests}
use Rattle.std.proofs.lemmas.Cmp.{ranked}
use Rattle.std.proofs.lemmas.List.Elements.{All-append, All-filter}
use Rattle.std.proofs.lemmas.List.Sorted.{IsNonDecreasingBy-from_default}
use Rattle.bng_lac.specs.declared.call.LacCall.{LacCall}
use Rattle.bng_lac.specs.LacState.{AreRising}
use Rattle.bng_lac.specs.Calls.{is_call, call_of, with_call, without_call}
use Rattle.bng_lac.specs.Places.{IsHere, IsGap}

same_number : (a n : ℕ) → a ≡ n → (a == n) ≡ true
same_number a n e = grind (arith, nat_tests)

lower_number : (a n : ℕ) → a < n → (a == n) ≡ false
lower_number a n l = grind (arith, nat_tests)

higher_number : (a n : ℕ) → n < a → (a == n) ≡ false
higher_number a n l = grind (arith, nat_tests)

is_lower : (a n : ℕ) → a < n → nat_lt a n ≡ true
is_lower a n l = grind (arith, nat_tests)

is_not_lower : (a n : ℕ) → n ≤ a → nat_lt a n ≡ false
is_not_lower a n l = grind (arith, nat_tests)

-- each call of the list has a higher number than m
abbrev pub Above : ℕ → List LacCall → Type 0
Above m cs = (k : ℕ) (d : LacCall) → k < length cs → m < (get_or cs k d).session.0

above_cons : (m : ℕ) (c : LacCall) (cs : List LacCall) → m < c.session.0 → Above m cs → Above m (c ∷ cs)
above_cons m c cs low rest zero d l = low
above_cons m c cs low rest (suc k) d l = rest k d (omega arith)

head_below : (c : LacCall) (cs : List LacCall) → AreRising (c ∷ cs) → Above c.session.0 cs
head_below c cs up k d l = up 0 (suc k) d (omega arith) (omega arith)

tail_rises : (c : LacCall) (cs : List LacCall) → AreRising (c ∷ cs) → AreRising cs
tail_rises c cs up i j d lt within = up (suc i) (suc j) d (omega arith) (omega arith)

rising_cons : (c : LacCall) (cs : List LacCall) → Above c.session.0 cs → AreRising cs → AreRising (c ∷ cs)
rising_cons c cs low up zero zero d lt within = absurd (omega arith)
rising_cons c cs low up zero (suc j) d lt within = low j d (omega arith)
rising_cons c cs low up (suc i) zero d lt within = absurd (omega arith)
rising_cons c cs low up (suc i) (suc j) d lt within = up i j d (omega arith) (omega arith)

all_pass : (p : LacCall → Bool) (cs : List LacCall) → ((k : ℕ) (d : LacCall) → k < length cs → p (get_or cs k d) ≡ true) → filter p cs ≡ cs
all_pass p [] h = refl
all_pass p (c ∷ cs) h =
    ap (λ b. cond b (c ∷ filter p cs) (filter p cs)) (h 0 c (omega arith))
    ∙ ap (λ (xs : List LacCall). c ∷ xs) (all_pass p cs (λ k d l. h (suc k) d (omega arith)))

none_pass : (p : LacCall → Bool) (cs : List LacCall) → ((k : ℕ) (d : LacCall) → k < length cs → p (get_or cs k d) ≡ false) → filter p cs ≡ []
none_pass p [] h = refl
none_pass p (c ∷ cs) h =
    ap (λ b. cond b (c ∷ filter p cs) (filter p cs)) (h 0 c (omega arith)) ∙ none_pass p cs (λ k d l. h (suc k) d (omega arith))

find_none : (p : LacCall → Bool) (cs : List LacCall) → ((k : ℕ) (d : LacCall) → k < length cs → p (get_or cs k d) ≡ false) → find p cs ≡ None
find_none p [] h = refl
find_none p (c ∷ cs) h =
    ap (λ b. cond b (Some c) (find p cs)) (h 0 c (omega arith)) ∙ find_none p cs (λ k d l. h (suc k) d (omega arith))

-- Where no call is that of the session ---------------------------------------------------------------------------------------------------

differs : (n : ℕ) (cs : List LacCall) (i : ℕ) → IsGap n cs i → (k : ℕ) (d : LacCall) → k < length cs → is_call n (get_or cs k d) ≡ false
differs n cs i g k d l =
    elim (cases_lt k i) [
      | inl lt ↦ lower_number (get_or cs k d).session.0 n (g.below k d lt)
      | inr ge ↦ higher_number (get_or cs k d).session.0 n (g.above k d ge l)
    ]

pub find_gap : (n : ℕ) (cs : List LacCall) (i : ℕ) → IsGap n cs i → call_of n cs ≡ None
find_gap n cs i g = find_none (is_call n) cs (differs n cs i g)

pub without_gap : (n : ℕ) (cs : List LacCall) (i : ℕ) → IsGap n cs i → without_call n cs ≡ cs
without_gap n cs i g = all_pass (λ d. not (is_call n d)) cs (λ k d l. ap not (differs n cs i g k d l))

-- where a call of another session would find room, or there is one already, it finds room
pub room_left : (c : LacCall) (cs : List LacCall) (i : ℕ) → IsGap c.session.0 cs i → (length cs < 1022) ⊎ IsSome (call_of c.session.0 cs) → length cs < 1022
room_left c cs i g room =
    elim room [
      | inl l ↦ l
      | inr some ↦ let P : Option LacCall → Type 0 = λ o. IsSome o in absurd (false≢true (subst P (find_gap c.session.0 cs i g) some))
    ]

later_gap : (n : ℕ) (c : LacCall) (cs : List LacCall) (i : ℕ) → IsGap n (c ∷ cs) (suc i) → IsGap n cs i
later_gap n c cs i g = record {
  within = omega (arith, g.within);
  below = λ k d l. g.below (suc k) d (omega arith);
  above = λ k d ge l. g.above (suc k) d (omega arith) (omega arith);
}

module _ (c : LacCall) where
  with_above : (cs : List LacCall) → Above c.session.0 cs → with_call c cs ≡ c ∷ cs
  with_above cs above =
      let none = none_pass (λ d. nat_lt d.session.0 c.session.0) cs (λ k d l. is_not_lower (get_or cs k d).session.0 c.session.0 (omega (arith, above k d l))) in
      let all = all_pass (λ d. nat_lt c.session.0 d.session.0) cs (λ k d l. is_lower c.session.0 (get_or cs k d).session.0 (above k d l)) in
      ap (λ (xs : List LacCall). xs ++ c ∷ filter (λ d. nat_lt c.session.0 d.session.0) cs) none ∙ ap (λ (xs : List LacCall). c ∷ xs) all

  with_lower : (e : LacCall) (cs : List LacCall) → e.session.0 < c.session.0 → with_call c (e ∷ cs) ≡ e ∷ with_call c cs
  with_lower e cs low =
      let fb = filter (λ (d : LacCall). nat_lt d.session.0 c.session.0) cs in
      let fa = filter (λ (d : LacCall). nat_lt c.session.0 d.session.0) cs in
      ap (λ b. cond b (e ∷ fb) fb ++ c ∷ cond (nat_lt c.session.0 e.session.0) (e ∷ fa) fa) (is_lower e.session.0 c.session.0 low)
      ∙ ap (λ b. (e ∷ fb) ++ c ∷ cond b (e ∷ fa) fa) (is_not_lower c.session.0 e.session.0 (omega (arith, low)))

  with_same : (e : LacCall) (cs : List LacCall) → e.session.0 ≡ c.session.0 → with_call c (e ∷ cs) ≡ with_call c cs
  with_same e cs same =
      let fb = filter (λ (d : LacCall). nat_lt d.session.0 c.session.0) cs in
      let fa = filter (λ (d : LacCall). nat_lt c.session.0 d.session.0) cs in
      ap (λ b. cond b (e ∷ fb) fb ++ c ∷ cond (nat_lt c.session.0 e.session.0) (e ∷ fa) fa) (is_not_lower e.session.0 c.session.0 (omega (arith, same)))
      ∙ ap (λ b. fb ++ c ∷ cond b (e ∷ fa) fa) (is_not_lower c.session.0 e.session.0 (omega (arith, same)))

  pub with_gap : (cs : List LacCall) (i : ℕ) → IsGap c.session.0 cs i → with_call c cs ≡ insert cs i c
  with_gap [] zero g = refl
  with_gap [] (suc i) g = absurd (omega (arith, g.within))
  with_gap (e ∷ cs) zero g = with_above (e ∷ cs) (λ k d l. g.above k d (omega arith) l)
  with_gap (e ∷ cs) (suc i) g =
      with_lower e cs (g.below 0 e (omega arith)) ∙ ap (λ (xs : List LacCall). e ∷ xs) (with_gap cs i (later_gap c.session.0 e cs i g))

  pub gap_rises : (cs : List LacCall) (i : ℕ) → IsGap c.session.0 cs i → AreRising cs → AreRising (insert cs i c)
  gap_rises [] zero g up = rising_cons c [] (λ k d l. absurd (omega arith)) up
  gap_rises [] (suc i) g up = absurd (omega (arith, g.within))
  gap_rises (e ∷ cs) zero g up = rising_cons c (e ∷ cs) (λ k d l. g.above k d (omega arith) l) up
  gap_rises (e ∷ cs) (suc i) g up =
      rising_cons e (insert cs i c) (insert_above e.session.0 cs i (omega (arith, g.within)) (g.below 0 e (omega arith)) (head_below e cs up)) (gap_rises cs i (later_gap c.session.0 e cs i g) (tail_rises e cs up))
    where
      insert_above : (m : ℕ) (ds : List LacCall) (j : ℕ) → j ≤ length ds → m < c.session.0 → Above m ds → Above m (insert ds j c)
      insert_above m [] zero l low h = above_cons m c [] low h
      insert_above m [] (suc j) l low h = absurd (omega arith)
      insert_above m (f ∷ ds) zero l low h = above_cons m c (f ∷ ds) low h
      insert_above m (f ∷ ds) (suc j) l low h = above_cons m f (insert ds j c) (h 0 f (omega arith)) (insert_above m ds j (omega arith) low (λ k d w. h (suc k) d (omega arith)))

-- Where one is ---------------------------------------------------------------------------------------------------------------------------

later_here : (n : ℕ) (c : LacCall) (cs : List LacCall) (i : ℕ) → IsHere n (c ∷ cs) (suc i) → IsHere n cs i
later_here n c cs i h = record { within = omega (arith, h.within); same = λ d. h.same d }

lower_head : (n : ℕ) (c : LacCall) (cs : List LacCall) (i : ℕ) → AreRising (c ∷ cs) → IsHere n (c ∷ cs) (suc i) → c.session.0 < n
lower_head n c cs i up h = omega (arith, head_below c cs up i c (omega (arith, h.within)), h.same c)

pub find_here : (n : ℕ) (cs : List LacCall) (i : ℕ) → AreRising cs → IsHere n cs i → (d : LacCall) → call_of n cs ≡ Some (get_or cs i d)
find_here n [] i up h d = absurd (omega (arith, h.within))
find_here n (c ∷ cs) zero up h d = ap (λ b. cond b (Some c) (call_of n cs)) (same_number c.session.0 n (h.same c))
find_here n (c ∷ cs) (suc i) up h d =
    ap (λ b. cond b (Some c) (call_of n cs)) (lower_number c.session.0 n (lower_head n c cs i up h))
    ∙ find_here n cs i (tail_rises c cs up) (later_here n c cs i h) d

pub without_here : (n : ℕ) (cs : List LacCall) (i : ℕ) → AreRising cs → IsHere n cs i → without_call n cs ≡ remove cs i
without_here n [] i up h = absurd (omega (arith, h.within))
without_here n (c ∷ cs) zero up h =
    ap (λ b. cond (not b) (c ∷ without_call n cs) (without_call n cs)) (same_number c.session.0 n (h.same c))
    ∙ all_pass (λ d. not (is_call n d)) cs (λ k d l. ap not (higher_number (get_or cs k d).session.0 n (omega (arith, head_below c cs up k d l, h.same c))))
without_here n (c ∷ cs) (suc i) up h =
    ap (λ b. cond (not b) (c ∷ without_call n cs) (without_call n cs)) (lower_number c.session.0 n (lower_head n c cs i up h))
    ∙ ap (λ (xs : List LacCall). c ∷ xs) (without_here n cs i (tail_rises c cs up) (later_here n c cs i h))

module _ (c : LacCall) where
  pub with_here : (cs : List LacCall) (i : ℕ) → AreRising cs → IsHere c.session.0 cs i → with_call c cs ≡ set cs i c
  with_here [] i up h = absurd (omega (arith, h.within))
  with_here (e ∷ cs) zero up h =
      with_same c e cs (h.same e) ∙ with_above c cs (λ k d l. omega (arith, head_below e cs up k d l, h.same e))
  with_here (e ∷ cs) (suc i) up h =
      with_lower c e cs (lower_head c.session.0 e cs i up h)
      ∙ ap (λ (xs : List LacCall). e ∷ xs) (with_here cs i (tail_rises e cs up) (later_here c.session.0 e cs i h))

  pub here_rises : (cs : List LacCall) (i : ℕ) → AreRising cs → IsHere c.session.0 cs i → AreRising (set cs i c)
  here_rises [] i up h = absurd (omega (arith, h.within))
  here_rises (e ∷ cs) zero up h =
      rising_cons c cs (λ k d l. omega (arith, head_below e cs up k d l, h.same e)) (tail_rises e cs up)
  here_rises (e ∷ cs) (suc i) up h =
      rising_cons e (set cs i c) (set_above e.session.0 cs i (lower_head c.session.0 e cs i up h) (head_below e cs up)) (here_rises cs i (tail_rises e cs up) (later_here c.session.0 e cs i h))
    where
      set_above : (m : ℕ) (ds : List LacCall) (j : ℕ) → m < c.session.0 → Above m ds → Above m (set ds j c)
      set_above m [] j low h = h
      set_above m (f ∷ ds) zero low h = above_cons m c ds low (λ k d w. h (suc k) d (omega arith))
      set_above m (f ∷ ds) (suc j) low h = above_cons m f (set ds j c) (h 0 f (omega arith)) (set_above m ds j low (λ k d w. h (suc k) d (omega arith)))

-- What a search finds --------------------------------------------------------------------------------------------------------------------

module _ (n : ℕ) (cs : List LacCall) (up : AreRising cs) where
  comparisons_rise : (blank : LacCall) → IsNonDecreasingBy (λ (c : LacCall). ordering_index (nat_cmp c.session.0 n)) cs
  comparisons_rise blank = IsNonDecreasingBy-from_default (λ (c : LacCall). ordering_index (nat_cmp c.session.0 n)) cs blank (λ i j le within.
      higher (get_or cs i blank).session.0 (get_or cs j blank).session.0 (not_above i j le within))
    where
      not_above : (i j : ℕ) → i ≤ j → j < length cs → (get_or cs i blank).session.0 ≤ (get_or cs j blank).session.0
      not_above i j le within =
          elim (cases_lt i j) [
            | inl lt ↦ let less = up i j blank lt within in omega (arith, less)
            | inr ge ↦
                let at : i ≡ j = omega (arith, le, ge) in
                let same = ap (λ (k : ℕ). (get_or cs k blank).session.0) at in
                omega (arith, same)
          ]

      higher : (a b : ℕ) → a ≤ b → ordering_index (nat_cmp a n) ≤ ordering_index (nat_cmp b n)
      higher a b le = grind (arith, nat_tests)

  pub record Searched (result : Result ℕ ℕ) : Type 0 where
    pub here : IfOk result (λ place. IsHere n cs place)
    pub gap : IfErr result (λ place. IsGap n cs place)

  pub searched : (result : Result ℕ ℕ) → IsSearchInRange result (length cs) → IsBinarySearchResult (λ (c : LacCall). nat_cmp c.session.0 n) cs result → Searched result
  searched (Ok place) within equal = record {
    here = record { within = within; same = λ d. ranked (get_or cs place d).session.0 n _ (sym (equal d)) };
    gap = tt;
  }
  searched (Err place) within parted = record {
    here = tt;
    gap = record {
      within = within;
      below = λ k d l. ranked (get_or cs k d).session.0 n _ (sym ((parted (comparisons_rise d)).0 k d (omega arith) l));
      above = λ k d ge l. ranked (get_or cs k d).session.0 n _ (sym ((parted (comparisons_rise d)).1 k d ge l));
    };
  }

-- Calls that come and go -----------------------------------------------------------------------------------------------------------------

module _ (c : LacCall) where
  above_with : (m : ℕ) (cs : List LacCall) → m < c.session.0 → Above m cs → Above m (with_call c cs)
  above_with m cs low above =
      let below = filter (λ (d : LacCall). nat_lt d.session.0 c.session.0) cs in
      let higher = filter (λ (d : LacCall). nat_lt c.session.0 d.session.0) cs in
      All-append (λ (d : LacCall). m < d.session.0) below (c ∷ higher)
      (All-filter (λ (d : LacCall). nat_lt d.session.0 c.session.0) (λ (d : LacCall). m < d.session.0) cs above)
      (above_cons m c higher low (All-filter (λ (d : LacCall). nat_lt c.session.0 d.session.0) (λ (d : LacCall). m < d.session.0) cs above))

  pub with_rises : (cs : List LacCall) → AreRising cs → AreRising (with_call c cs)
  with_rises [] up = rising_cons c [] (λ k d l. absurd (omega arith)) up
  with_rises (e ∷ cs) up =
      elim (cases_order e.session.0 c.session.0) [
        | inl same ↦
            let above : Above c.session.0 cs = λ k d l. omega (arith, head_below e cs up k d l, same) in
            subst (λ (ds : List LacCall). AreRising ds) (sym (with_same c e cs same ∙ with_above c cs above)) (rising_cons c cs above (tail_rises e cs up))
        | inr differ ↦ elim differ [
          | inl low ↦
              subst (λ (ds : List LacCall). AreRising ds) (sym (with_lower c e cs low)) (rising_cons e (with_call c cs) (above_with e.session.0 cs low (head_below e cs up)) (with_rises cs (tail_rises e cs up)))
          | inr high ↦
              let above : Above c.session.0 (e ∷ cs) = above_cons c.session.0 e cs high (λ k d l. omega (arith, head_below e cs up k d l, high)) in
              subst (λ (ds : List LacCall). AreRising ds) (sym (with_above c (e ∷ cs) above)) (rising_cons c (e ∷ cs) above up)
        ]
      ]

  filters_few : (cs : List LacCall) → length (filter (λ (d : LacCall). nat_lt d.session.0 c.session.0) cs) + length (filter (λ (d : LacCall). nat_lt c.session.0 d.session.0) cs) ≤ length cs
  filters_few [] = omega arith
  filters_few (e ∷ cs) =
      by (nat_lt e.session.0 c.session.0) (nat_lt c.session.0 e.session.0) refl refl (filters_few cs)
    where
      by : (a b : Bool) → nat_lt e.session.0 c.session.0 ≡ a → nat_lt c.session.0 e.session.0 ≡ b
          → length (filter (λ (d : LacCall). nat_lt d.session.0 c.session.0) cs) + length (filter (λ (d : LacCall). nat_lt c.session.0 d.session.0) cs) ≤ length cs
          → length (cond a (e ∷ filter (λ (d : LacCall). nat_lt d.session.0 c.session.0) cs) (filter (λ (d : LacCall). nat_lt d.session.0 c.session.0) cs))
          + length (cond b (e ∷ filter (λ (d : LacCall). nat_lt c.session.0 d.session.0) cs) (filter (λ (d : LacCall). nat_lt c.session.0 d.session.0) cs)) ≤ length (e ∷ cs)
      by true true p q h = absurd (omega (arith, ltb-true e.session.0 c.session.0 p, ltb-true c.session.0 e.session.0 q))
      by true false p q h = omega (arith, h)
      by false true p q h = omega (arith, h)
      by false false p q h = omega (arith, h)

  -- there is one call more at most
  pub with_few : (cs : List LacCall) → length (with_call c cs) ≤ length cs + 1
  with_few cs =
      omega (arith, filters_few cs, length-append (filter (λ (d : LacCall). nat_lt d.session.0 c.session.0) cs) (c ∷ filter (λ (d : LacCall). nat_lt c.session.0 d.session.0) cs))

pub filter_few : (p : LacCall → Bool) (cs : List LacCall) → length (filter p cs) ≤ length cs
filter_few p [] = omega arith
filter_few p (c ∷ cs) =
    let rest = filter_few p cs in
    cond_both (p c) (c ∷ filter p cs) (filter p cs) (λ (ds : List LacCall). length ds ≤ length (c ∷ cs)) (λ _. omega (arith, rest)) (λ _. omega (arith, rest))

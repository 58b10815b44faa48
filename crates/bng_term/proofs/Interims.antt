-- Interims over a list of moments.
use Rattle.std.proofs.Common.{◌≡◌, ℕ, ◌+◌, ◌*◌, ◌≤◌, Bool, true, false, cond, nat_le, List, [], ◌∷◌, ◌++◌, length, All, AllPairs, Option, Some, None, refl, sym, ap, ◌∙◌, length-append, arith}
use mathlib.Core.Logic.{◌↔◌}
use Rattle.std.specs.Option.{ForSome, option_map, option_map_or}
use Rattle.std.proofs.lemmas.Bool.{leb-true, le-leb}
use Rattle.std.proofs.lemmas.List.Elements.{All-nil, All-cons}
use Rattle.std.proofs.lemmas.List.Kept.{AllPairs-cons}
use Rattle.bng_term.specs.declared.limits.Limits.{Limits}
use Rattle.bng_term.specs.Lifetimes.{Life, HasAllowedInterval, reported, seconds_after}
use Rattle.bng_term.specs.Runs.{is_due, last_of, reports}

module _ (limits : Limits) (gap : ℕ) (far : (t : Life) (now : ℕ) → t.limits ≡ limits → is_due t now ≡ true → t.last_report + gap ≤ now) where
  later : (t : Life) (floor : ℕ) (moments : List ℕ) → t.limits ≡ limits → floor ≤ t.last_report → All (λ b. floor + gap ≤ b) (reports t moments)
  later t floor [] same low = All-nil (λ b. floor + gap ≤ b)
  later t floor (m ∷ ms) same low =
      elim (is_due t m) as (λ v. is_due t m ≡ v → All (λ b. floor + gap ≤ b) (cond v (m ∷ reports (reported t m) ms) (reports t ms))) [
        | true ↦ λ due. let f = far t m same due in
            All-cons (λ b. floor + gap ≤ b) m (reports (reported t m) ms) (omega arith) (later (reported t m) floor ms same (omega arith))
        | false ↦ λ due. later t floor ms same low
      ] refl

  pairs : (t : Life) (moments : List ℕ) → t.limits ≡ limits → AllPairs (λ a b. a + gap ≤ b) (reports t moments)
  pairs t [] same = λ i j d before within. absurd (omega arith)
  pairs t (m ∷ ms) same =
      elim (is_due t m) as (λ v. AllPairs (λ a b. a + gap ≤ b) (cond v (m ∷ reports (reported t m) ms) (reports t ms))) [
        | true ↦ AllPairs-cons (λ a b. a + gap ≤ b) m (reports (reported t m) ms) (later (reported t m) m ms same (omega arith)) (pairs (reported t m) ms same)
        | false ↦ pairs t ms same
      ]

  pub apart_by : (t : Life) (moments : List ℕ) → t.limits ≡ limits → AllPairs (λ a b. a + gap ≤ b) (t.last_report ∷ reports t moments)
  apart_by t moments same = AllPairs-cons (λ a b. a + gap ≤ b) t.last_report (reports t moments) (later t t.last_report moments same (omega arith)) (pairs t moments same)

-- an Interim is due where its interval has passed
due-is : (t : Life) (seconds now : ℕ) → t.limits.interim ≡ Some seconds → is_due t now ≡ nat_le (seconds_after seconds t.last_report) now
due-is t seconds now is = ap (λ (o : Option ℕ). option_map_or (λ at. nat_le at now) (option_map (λ s. seconds_after s t.last_report) o) false) is

pub interval_keeps : (t : Life) (seconds : ℕ) (moments : List ℕ) → t.limits.interim ≡ Some seconds
    → AllPairs (λ a b. seconds_after seconds a ≤ b) (t.last_report ∷ reports t moments)
interval_keeps t seconds moments is =
    apart_by t.limits (seconds * 1000)
    (λ u now same due. leb-true (seconds_after seconds u.last_report) now (sym (due-is u seconds now (ap (λ (l : Limits). l.interim) same ∙ is)) ∙ due))
    t moments refl

minute_passed : (interim : Option ℕ) (since now : ℕ) → ForSome interim (λ seconds. 60 ≤ seconds)
    → option_map_or (λ at. nat_le at now) (option_map (λ seconds. seconds_after seconds since) interim) false ≡ true → since + 60000 ≤ now
minute_passed None since now allowed due = absurd cc
minute_passed (Some seconds) since now allowed due = let h = leb-true (seconds_after seconds since) now due in let k = allowed seconds refl in omega arith

pub minute_keeps : (t : Life) (moments : List ℕ) → HasAllowedInterval t.limits → AllPairs (λ a b. a + 60000 ≤ b) (t.last_report ∷ reports t moments)
minute_keeps t moments allowed =
    apart_by t.limits 60000
    (λ u now same due. minute_passed u.limits.interim u.last_report now (λ seconds is. allowed seconds (sym (ap (λ (l : Limits). l.interim) same) ∙ is)) due)
    t moments refl

reports-append : (t : Life) (now : ℕ) (moments : List ℕ) → reports t (moments ++ now ∷ [])
    ≡ reports t moments ++ cond (is_due (reported t (last_of t.last_report (reports t moments))) now) (now ∷ []) []
reports-append t now [] = refl
reports-append t now (m ∷ ms) =
    elim (is_due t m) as (λ v. cond v (m ∷ reports (reported t m) (ms ++ now ∷ [])) (reports t (ms ++ now ∷ []))
    ≡ (let xs : List ℕ = cond v (m ∷ reports (reported t m) ms) (reports t ms) in xs ++ cond (is_due (reported t (last_of t.last_report xs)) now) (now ∷ []) [])) [
      | true ↦ ap (λ xs. m ∷ xs) (reports-append (reported t m) now ms)
      | false ↦ reports-append t now ms
    ]

shows : (due : Bool) (now : ℕ) (xs ys : List ℕ) → ys ≡ xs ++ cond due (now ∷ []) [] → (ys ≡ xs ++ now ∷ []) ↔ (due ≡ true)
shows true now xs ys is = (λ h. refl, λ h. is)
shows false now xs ys is = (λ h. absurd (omega (arith, ap length is, ap length h, length-append xs [], length-append xs (now ∷ []))), λ h. absurd cc)

pub taken_where_due : (t : Life) (seconds now : ℕ) (moments : List ℕ) → t.limits.interim ≡ Some seconds
    → (reports t (moments ++ now ∷ []) ≡ reports t moments ++ now ∷ []) ↔ (seconds_after seconds (last_of t.last_report (reports t moments)) ≤ now)
taken_where_due t seconds now moments is = let last : ℕ = last_of t.last_report (reports t moments) in let u : Life = reported t last in
    let both = shows (is_due u now) now (reports t moments) (reports t (moments ++ now ∷ [])) (reports-append t now moments) in
    (λ h. leb-true (seconds_after seconds last) now (sym (due-is u seconds now is) ∙ both.0 h), λ h. both.1 (due-is u seconds now is ∙ le-leb (seconds_after seconds last) now h))

pub none_taken : (t : Life) (moments : List ℕ) → t.limits.interim ≡ None → reports t moments ≡ []
none_taken t [] is = refl
none_taken t (m ∷ ms) is =
    let never : is_due t m ≡ false = ap (λ (o : Option ℕ). option_map_or (λ at. nat_le at m) (option_map (λ s. seconds_after s t.last_report) o) false) is in
    ap (λ v. cond v (m ∷ reports (reported t m) ms) (reports t ms)) never ∙ none_taken t ms is

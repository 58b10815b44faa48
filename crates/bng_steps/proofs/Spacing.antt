-- Over any moments at which one asks whether a session owes an Interim, those that are taken are those of its term.
use Rattle.std.proofs.Common.{◌≡◌, ◌≢◌, ℕ, ◌+◌, ◌%◌, ◌≤◌, max, Bool, true, false, List, [], ◌∷◌, ◌++◌, length, Option, Some, None, AllPairs, option_map, refl, sym, ap, subst, ◌∙◌, arith}
use mathlib.Core.Logic.{◌↔◌}
use Rattle.std.specs.Prelude.{if◌then◌else◌, nat_le}
use Rattle.std.specs.Option.{option_map_or}
use Rattle.std.proofs.lemmas.Bool.{leb-true, false≢true}
use Rattle.std.proofs.lemmas.List.{get_or-set_same, get_or-set_other, length-set}
use Rattle.bng_base.specs.declared.address.SessionNo.{SessionNo}
use Rattle.bng_term.specs.Lifetimes.{Life, reported, seconds_after}
use Rattle.bng_term.specs.Runs.{is_due, last_of, reports}
use Rattle.bng_term.proofs.Interims.{interval_keeps, none_taken, taken_where_due}
use Rattle.bng_steps.specs.declared.session.Lease.{Lease}
use Rattle.bng_steps.specs.declared.session.Session.{Session}
use Rattle.bng_steps.specs.Interims.{interim_in, owes, reported_at, taken, with_report}
use Rattle.bng_steps.specs.Passing.{place_in}

-- the term whose last Interim was at this moment, or at its lease where that is later
abbrev pub life_at : Lease → ℕ → Life
life_at l at = reported l.life (max l.life.began at)

-- what is due was begun before
began_before : (l : Lease) (at now : ℕ) → is_due (life_at l at) now ≡ true → l.life.began ≤ now
began_before l at now e =
    elim l.life.limits.interim as (λ (o : Option ℕ). option_map_or (λ (m : ℕ). nat_le m now) (option_map (λ (seconds : ℕ). seconds_after seconds (max l.life.began at)) o) false ≡ true → l.life.began ≤ now) [
      | None ↦ λ never. absurd (false≢true never)
      | Some seconds ↦ λ due. let low = leb-true (seconds_after seconds (max l.life.began at)) now due in omega (arith, low)
    ] e

module _ (x : Session) (l : Lease) (leased : x.lease ≡ Some l) where
  owes_is : (last : List ℕ) (now : ℕ) → owes last now x ≡ is_due (life_at l (reported_at last x.number)) now
  owes_is last now = ap (λ (o : Option Lease). option_map_or (λ (at : ℕ). nat_le at now) (interim_in (reported_at last x.number) o) false) leased

  pub taken_is : (moments : List ℕ) (last : List ℕ) → length last ≡ 1024 → taken last x moments ≡ reports (life_at l (reported_at last x.number)) moments
  taken_is [] last long = refl
  taken_is (m ∷ ms) last long =
      let t = life_at l (reported_at last x.number) in
      let next = with_report last m x.number in
      ap (λ (b : Bool). if b then m ∷ taken next x ms else taken last x ms) (owes_is last m)
      ∙ elim (is_due t m) as (λ (b : Bool). is_due t m ≡ b → (if b then m ∷ taken next x ms else taken last x ms) ≡ (if b then m ∷ reports (reported t m) ms else reports t ms)) [
        | false ↦ λ none. taken_is ms last long
        | true ↦ λ is.
            let at : reported_at next x.number ≡ m = get_or-set_same last (place_in x.number) m 0 (omega (arith, long)) in
            let low = began_before l (reported_at last x.number) m is in
            let latest : max l.life.began (reported_at next x.number) ≡ m = ap (max l.life.began) at ∙ omega (arith, low) in
            ap (λ (ns : List ℕ). m ∷ ns) (taken_is ms next (length-set last (place_in x.number) m ∙ long) ∙ ap (λ (k : ℕ). reports (reported l.life k) ms) latest)
      ] refl

  pub apart : (seconds : ℕ) (last moments : List ℕ) → length last ≡ 1024 → l.life.limits.interim ≡ Some seconds → AllPairs (λ a b. seconds_after seconds a ≤ b) (max l.life.began (reported_at last x.number) ∷ taken last x moments)
  apart seconds last moments long is =
      subst (λ (ms : List ℕ). AllPairs (λ a b. seconds_after seconds a ≤ b) (max l.life.began (reported_at last x.number) ∷ ms)) (sym (taken_is moments last long))
      (interval_keeps (life_at l (reported_at last x.number)) seconds moments is)

  pub due : (seconds now : ℕ) (last moments : List ℕ) → length last ≡ 1024 → l.life.limits.interim ≡ Some seconds
      → (taken last x (moments ++ now ∷ []) ≡ taken last x moments ++ now ∷ []) ↔ (seconds_after seconds (last_of (max l.life.began (reported_at last x.number)) (taken last x moments)) ≤ now)
  due seconds now last moments long is =
      let t = life_at l (reported_at last x.number) in
      let before = taken_is moments last long in
      let all = taken_is (moments ++ now ∷ []) last long in
      let both = taken_where_due t seconds now moments is in (
        λ h. subst (λ (ns : List ℕ). seconds_after seconds (last_of (max l.life.began (reported_at last x.number)) ns) ≤ now) (sym before) (both.0 (sym all ∙ h ∙ ap (λ (ns : List ℕ). ns ++ now ∷ []) before)),
        λ h. all ∙ both.1 (subst (λ (ns : List ℕ). seconds_after seconds (last_of (max l.life.began (reported_at last x.number)) ns) ≤ now) before h) ∙ ap (λ (ns : List ℕ). ns ++ now ∷ []) (sym before),
      )

  pub none : (last moments : List ℕ) → length last ≡ 1024 → l.life.limits.interim ≡ None → taken last x moments ≡ []
  none last moments long is = taken_is moments last long ∙ none_taken (life_at l (reported_at last x.number)) moments is

pub others : (last : List ℕ) (now : ℕ) (m n : SessionNo) → m.0 % 1024 ≢ n.0 % 1024 → reported_at (with_report last now n) m ≡ reported_at last m
others last now m n differ = get_or-set_other last (place_in n) (place_in m) now 0 differ

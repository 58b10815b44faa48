-- A live term lasts over a step of its link until the link says its end.
use Rattle.std.proofs.Common.{◌≡◌, ℕ, true, List, Option, Some, None, refl, sym}
use Rattle.std.specs.Prelude.{IsSome}
use Rattle.std.proofs.lemmas.Bool.{false≢true}
use Rattle.bng_ppp.proofs.TermLaws.{lasts}
use Rattle.bng_ppp.proofs.LinkPhases.{phases_kept}
use Rattle.bng_ppp.specs.declared.rules.LinkRules.{LinkRules}
use Rattle.bng_ppp.specs.declared.input.Input.{Input}
use Rattle.bng_ppp.specs.declared.input.Input.TheVariants.{Start, Frame, Timer, Verdict, Close, Lost}
use Rattle.bng_ppp.specs.Granting.{goes_by_itself}
use Rattle.bng_ppp.specs.Phases.{KeepsPhases}
use Rattle.bng_ppp.specs.LinkRelation.{LinkSaid, LinkSteps}
use Rattle.bng_ppp.specs.LinkState.{LinkState}
use Rattle.bng_steps.specs.declared.session.Lease.{Lease}
use Rattle.bng_steps.specs.Driven.{LastsOver}
use Rattle.bng_steps.specs.Tenures.{kept_lease}
use Rattle.bng_steps.proofs.Values.{none_some}

-- there is a term, so neither a verdict is told nor Close
by_itself : (what : Input) (l : Lease) → LastsOver what (Some l) → goes_by_itself what ≡ true
by_itself Start l over = refl
by_itself (Frame octets) l over = refl
by_itself Timer l over = refl
by_itself (Verdict accepted address text) l over = absurd (none_some l (sym over))
by_itself Close l over = absurd (none_some l (sym over))
by_itself Lost l over = absurd over

module _ (r : LinkRules) (what : Input) (now : ℕ) (random : List ℕ) (old : LinkState) (says : LinkSaid) (new : LinkState) (steps : LinkSteps r what now random old says new) where
  term_stays : (l : Lease) → LastsOver what (Some l) → old.live ≡ true → says.term_ended ≡ None → new.live ≡ true
  term_stays l over live none = lasts r now random what old says new steps (by_itself what l over) live none

  live_on : (cause : Option ℕ) (lease : Option Lease) → says.term_ended ≡ cause → LastsOver what lease → (IsSome lease → old.live ≡ true) → IsSome (kept_lease cause lease) → new.live ≡ true
  live_on (Some cause) lease is lasts live some = absurd (false≢true some)
  live_on None None is lasts live some = absurd (false≢true some)
  live_on None (Some l) is lasts live some = term_stays l lasts (live some) is

  -- the link keeps its phases, and a term is live on it as long as there is a lease
  pub keeps_lease : (lease : Option Lease) → LastsOver what lease → KeepsPhases old × (IsSome lease → old.live ≡ true) → KeepsPhases new × (IsSome (kept_lease says.term_ended lease) → new.live ≡ true)
  keeps_lease lease lasts keeps = (phases_kept r now random what old says new keeps.0 steps, live_on says.term_ended lease refl lasts keeps.1)

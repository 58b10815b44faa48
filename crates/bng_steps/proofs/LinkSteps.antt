-- A link that hears a frame, or is told a verdict, makes a step of a whole link.
use Rattle.std.proofs.Common.{ℕ, List, None, refl}
use Rattle.bng_ppp.specs.declared.rules.LinkRules.{LinkRules}
use Rattle.bng_ppp.specs.declared.input.Input.{Input}
use Rattle.bng_ppp.specs.declared.input.Input.TheVariants as told
use Rattle.bng_ppp.specs.LinkRelation.{LinkSaid, LinkSteps}
use Rattle.bng_ppp.specs.LinkState.{LinkState}
use Rattle.bng_steps.specs.Link.{HearsPppFrame, IsToldVerdict, Told}

-- the frame of these octets, wherever they lie in memory
abbrev pub frame_of : List ℕ → Input
frame_of octets = told.Frame (record { ref_ptr = (0, 0); now = octets })

-- what a link is told of its peer, wherever the text lies in memory
abbrev pub verdict_of : Told → Input
verdict_of t = told.Verdict t.yes t.lease (record { items = t.text })

module _ (r : LinkRules) (now : ℕ) (random : List ℕ) (old : LinkState) (says : LinkSaid) (new : LinkState) where
  pub frame_steps : (octets : List ℕ) → HearsPppFrame r octets now random old says new → LinkSteps r (frame_of octets) now random old says new
  frame_steps octets h = record { turn = h.turn; cause = _; goes = (h.heard, refl); said = h.said; state = h.state }

  pub verdict_steps : (t : Told) → IsToldVerdict r t now random old says new → LinkSteps r (verdict_of t) now random old says new
  verdict_steps t h = record { turn = h.turn; cause = None; goes = (h.settles, refl); said = h.said; state = h.state }

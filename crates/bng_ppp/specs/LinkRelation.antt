-- What a step of a whole link is: LCP's own relation, and what comes of it for authentication and IPCP, by RFC 1661 section 3.
use Rattle.std.specs.Prelude.{ℕ, Bool, List, Option, false, [], None, Some, if◌then◌else◌, ◌&&◌, not, ◌≡◌}
use Rattle.bng_ppp.specs.Claims.{Claim}
use Rattle.bng_ppp.specs.Layers.{Turn, lcp_told, LcpSteps}
use Rattle.bng_ppp.specs.LinkState.{LinkState, is_open}
use Rattle.bng_ppp.specs.Verdict.{Settles}
use Rattle.bng_ppp.specs.LinkFrame.{HearsOctets}
use Rattle.bng_ppp.specs.LinkTimers.{LinkReminds, IsLossCause}
use Rattle.bng_ppp.specs.declared.rules.LcpInput.TheVariants as input
use Rattle.bng_ppp.specs.declared.rules.LinkRules.{LinkRules}
use Rattle.bng_ppp.specs.declared.input.Input.{Input}
use Rattle.bng_ppp.specs.declared.input.Input.TheVariants as told

-- what a step says
pub record LinkSaid : Type 0 where
  pub outs : List (List ℕ)
  pub asked : Option Claim
  -- IPCP came to Opened
  pub opened : Bool
  -- the cause with which the step ended a live term: 1 User Request, 2 Lost Carrier (RFC 2866 section 5.10)
  pub term_ended : Option ℕ
  -- LCP finished
  pub finished : Bool

-- nothing is sent, and nothing came of it
abbrev pub says_nothing : LinkSaid
says_nothing = record { outs = []; asked = None; opened = false; term_ended = None; finished = false }

-- The cause of a live term's end: this one where LCP left Opened, and User Request where IPCP finished.
abbrev pub ended_by : Bool → Bool → Bool → ℕ → Option ℕ
ended_by live left ended cause = if live then (if left then Some cause else (if ended then Some 1 else None)) else None

-- a live term goes on while LCP stays Opened and IPCP does not finish
abbrev pub after_turn : Turn → LinkState
after_turn t = record t.link { live = t.link.live && not t.left && not t.ended }

abbrev pub said_of : Turn → Option ℕ → LinkSaid
said_of t cause = record { outs = t.outs; asked = t.asked; opened = t.opened; term_ended = cause; finished = t.finished }

-- how a step goes, and the cause with which it ends a live term
abbrev pub LinkGoes : LinkRules → Input → ℕ → List ℕ → LinkState → Turn → Option ℕ → Type 0
LinkGoes r told.Start now random old t cause = LcpSteps r (lcp_told r input.Start now random) now random old t × (cause ≡ None)
LinkGoes r (told.Frame octets) now random old t cause = HearsOctets r octets.now now random old t × (cause ≡ ended_by t.link.live t.left t.ended 1)
LinkGoes r told.Timer now random old t cause =
    LinkReminds r now random old t × ((n : ℕ) × IsLossCause old now n × (cause ≡ ended_by t.link.live t.left t.ended n))
LinkGoes r (told.Verdict found lease text) now random old t cause = Settles (is_open old.auth) found r lease text.items now random old t × (cause ≡ None)
LinkGoes r told.Close now random old t cause = LcpSteps r (lcp_told r input.Close now random) now random old t × (cause ≡ None)
LinkGoes r told.Lost now random old t cause = LcpSteps r (lcp_told r input.Lost now random) now random old t × (cause ≡ None)

pub record LinkSteps (r : LinkRules) (what : Input) (now : ℕ) (random : List ℕ) (old : LinkState) (says : LinkSaid) (new : LinkState) : Type 0 where
  pub turn : Turn
  pub cause : Option ℕ
  pub goes : LinkGoes r what now random old turn cause
  pub said : says ≡ said_of turn cause
  pub state : new ≡ after_turn turn

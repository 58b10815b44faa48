-- The layers of a link, and what one going up or down is to those above it, by RFC 1661 section 3.
use Rattle.std.specs.Prelude.{ℕ, Bool, List, Option, false, [], None, ◌&&◌, not, ◌||◌, ◌≡◌, ◌+◌, Some, true}
use Rattle.bng_automaton.specs.declared.event.Event.{Event}
use Rattle.bng_automaton.specs.declared.event.Event.TheVariants.{Down, Close}
use Rattle.bng_base.specs.declared.settings.AuthKind.{AuthKind}
use Rattle.bng_base.specs.declared.settings.AuthKind.TheVariants as kind
use Rattle.bng_auth.specs.Questions.{ChapQuestion}
use Rattle.bng_ppp.specs.Authentication.{challenge_sent}
use Rattle.bng_ppp.specs.Automaton.{Doing, plain, Follows}
use Rattle.bng_ppp.specs.Claims.{Claim}
use Rattle.bng_ppp.specs.Identifiers.{next_of}
use Rattle.bng_ppp.specs.IpcpAutomaton.{IpcpDoing, IpcpWhy, IpcpFollows, ipcp_plain}
use Rattle.bng_ppp.specs.LcpRelation.{LcpLinkSteps, HearsFrame}
use Rattle.bng_ppp.specs.LcpState.{is_opened, LcpState}
use Rattle.bng_ppp.specs.LinkState.{LinkState}
use Rattle.bng_ppp.specs.Said.{quiet, Said}
use Rattle.bng_ppp.specs.declared.authentication.Authentication.{Authentication}
use Rattle.bng_ppp.specs.declared.authentication.Authentication.TheVariants as auth
use Rattle.bng_ppp.specs.declared.rules.LcpInput.{LcpInput}
use Rattle.bng_ppp.specs.declared.rules.LinkRules.{LinkRules}

-- A link in the middle of a step, with what the step did so far.
pub record Turn : Type 0 where
  pub link : LinkState
  -- the octets of the frames that are sent, in this order
  pub outs : List (List ℕ)
  -- a question that was opened
  pub asked : Option Claim
  -- IPCP came to Opened, and IPCP finished
  pub opened : Bool
  pub ended : Bool
  -- LCP left Opened, and LCP finished
  pub left : Bool
  pub finished : Bool

abbrev pub begun : LinkState → Turn
begun s = record { link = s; outs = []; asked = None; opened = false; ended = false; left = false; finished = false }

abbrev pub leaves : LcpState → LcpState → Bool
leaves old new = is_opened old.lcp.state && not (is_opened new.lcp.state)

-- LCP went on, and said this
abbrev pub with_lcp : Turn → Doing → Turn
with_lcp t d = record t {
  link = record t.link { lcp = d.link };
  outs = d.said.outs;
  left = t.left || leaves t.link.lcp d.link;
  finished = t.finished || d.said.finished;
}

-- IPCP went on, and said this
abbrev pub with_ipcp : Turn → IpcpDoing → Turn
with_ipcp t d = record t {
  link = record t.link { ipcp = d.ipcp };
  outs = d.said.outs;
  opened = t.opened || d.said.opened;
  ended = t.ended || d.said.finished;
}

-- IPCP, with what was sent so far
abbrev pub ipcp_of : Turn → IpcpDoing
ipcp_of t = record { ipcp = t.link.ipcp; said = record quiet { outs = t.outs } }

-- one event of IPCP
pub record IpcpMoves (event : Event) (cause : IpcpWhy) (now : ℕ) (t after : Turn) : Type 0 where
  pub doing : IpcpDoing
  pub follows : IpcpFollows event cause now (ipcp_of t) doing
  pub done : after ≡ with_ipcp t doing

-- LCP came to Opened, and the peer is to authenticate itself: it is waited for 30 s, or challenged by the random octets.
abbrev pub authenticates : AuthKind → List ℕ → ℕ → List ℕ → Turn → Turn
authenticates kind.Pap name now random t = record t {
  link = record t.link { auth = auth.Pap (record { asked = None; verdict = None }); auth_due = Some (now + 30000) };
}
authenticates kind.Chap name now random t =
    let q : ChapQuestion = record { id = t.link.next_challenge; challenge = random; asked = false; verdict = None } in
    record t {
      link = record t.link { auth = auth.Chap q 1; auth_due = Some (now + 3000); next_challenge = next_of t.link.next_challenge };
      outs = challenge_sent name q t.outs;
    }

-- LCP left Opened: who the peer is does not count any longer, and IPCP's lower layer is down.
abbrev pub silenced : Turn → Turn
silenced t = record t { link = record t.link { auth = auth.Idle; auth_due = None } }

-- The layers above LCP, once LCP has come to Opened, has left it, or neither.
abbrev pub Above : Bool → Bool → LinkRules → ℕ → List ℕ → Turn → Turn → Type 0
Above true left r now random t after = after ≡ authenticates t.link.lcp.ask.wanted.auth r.name.items now random t
Above false true r now random t after = IpcpMoves Down (ipcp_plain t.link.ipcp.kept 0) now (silenced t) after
Above false false r now random t after = after ≡ t

-- a step of LCP, by the state before, what it says and the state after
abbrev pub LcpStep : Type 1
LcpStep = LcpState → Said → LcpState → Type 0

-- LCP is told this
abbrev pub lcp_told : LinkRules → LcpInput → ℕ → List ℕ → LcpStep
lcp_told r what now random old says new = LcpLinkSteps r what now random old says new

-- LCP hears a frame
abbrev pub lcp_hears : LinkRules → List ℕ → ℕ → List ℕ → LcpStep
lcp_hears r octets now random old says new = HearsFrame octets r.echo now random old says new

-- a step of LCP alone, with which the step of the link begins, and what it is to the layers above
pub record LcpSteps (r : LinkRules) (Step : LcpStep) (now : ℕ) (random : List ℕ) (old : LinkState) (after : Turn) : Type 0 where
  pub says : Said
  pub lcp : LcpState
  pub steps : Step old.lcp says lcp
  pub above : Above says.opened (leaves old.lcp lcp) r now random (with_lcp (begun old) (record { link = lcp; said = says })) after

-- LCP does Close after what the step did so far
pub record LcpCloses (r : LinkRules) (now : ℕ) (random : List ℕ) (t after : Turn) : Type 0 where
  pub doing : Doing
  pub follows : Follows Close (plain t.link.lcp.kept 0) r.echo now (record { link = t.link.lcp; said = record quiet { outs = t.outs } }) doing
  pub above : Above doing.said.opened (leaves t.link.lcp doing.link) r now random (with_lcp t doing) after

-- a packet of authentication was taken
abbrev pub with_auth : Turn → Authentication → Turn
with_auth t a = record t { link = record t.link { auth = a } }

abbrev pub with_auth_until : Turn → Authentication → Option ℕ → Turn
with_auth_until t a due = record t { link = record t.link { auth = a; auth_due = due } }

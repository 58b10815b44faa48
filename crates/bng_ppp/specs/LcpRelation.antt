-- What a step of a link is, by RFC 1661 sections 4 to 6: a case for each input, and for a frame one for each packet.
use Rattle.std.specs.Prelude.{ℕ, Option, Some, None, min, List, ◌≡◌}
use Rattle.bng_automaton.specs.declared.event.Event.TheVariants.{Ruc, Rxr, Close}
use Rattle.bng_base.specs.PppGrammar.{ControlPacket}
use Rattle.bng_ppp_wire.specs.View.{packet_of}
use Rattle.bng_ppp.specs.Automaton.{plain, answering, Moves, Rests}
use Rattle.bng_ppp.specs.CodeReject.{code_reject}
use Rattle.bng_ppp.specs.Codes.{kind_of}
use Rattle.bng_ppp.specs.ConfigureReply.{Replies}
use Rattle.bng_ppp.specs.ConfigureRequest.{Judges}
use Rattle.bng_ppp.specs.Echo.{echo_reply}
use Rattle.bng_ppp.specs.Frame.{IsHeard}
use Rattle.bng_ppp.specs.LcpState.{LcpState}
use Rattle.bng_ppp.specs.LowerLayer.{Loses, Starts}
use Rattle.bng_ppp.specs.ProtocolReject.{is_rejected, hears_other}
use Rattle.bng_ppp.specs.Said.{Said}
use Rattle.bng_ppp.specs.Timers.{Reminds}
use Rattle.bng_ppp.specs.declared.codes.Kind.{Kind}
use Rattle.bng_ppp.specs.declared.codes.Kind.TheVariants.{Request, Reply, Plain, Echo, Mute, EchoReply, Unknown}
use Rattle.bng_ppp.specs.declared.frame.FrameKind.{FrameKind}
use Rattle.bng_ppp.specs.declared.frame.FrameKind.TheVariants.{NoFrame, NoPacket, Long, Lcp, Other}
use Rattle.bng_ppp.specs.declared.rules.LcpInput.{LcpInput}
use Rattle.bng_ppp.specs.declared.rules.LcpInput.TheVariants as input
use Rattle.bng_ppp.specs.declared.rules.LinkRules.{LinkRules}

-- the earliest of two moments that may be there
abbrev pub earliest : Option ℕ → Option ℕ → Option ℕ
earliest None b = b
earliest (Some a) None = Some a
earliest (Some a) (Some b) = Some (min a b)

-- a packet of LCP
abbrev pub HearsKind : Kind → ControlPacket → ℕ → ℕ → List ℕ → LcpState → Said → LcpState → Type 0
HearsKind Request p echo now random old says new = Judges p echo now random old says new
HearsKind Reply p echo now random old says new = Replies p echo now random old says new
HearsKind (Plain event) p echo now random old says new = Moves event (plain old.kept p.id) echo now old says new
HearsKind Echo p echo now random old says new = Moves Rxr (answering old.kept p.id (echo_reply old p)) echo now old says new
HearsKind Mute p echo now random old says new = Rests old says new
HearsKind EchoReply p echo now random old says new = Moves Rxr (plain old.kept p.id) echo now (record old { kept = record old.kept { unanswered = 0 } }) says new
HearsKind Unknown p echo now random old says new = Moves Ruc (answering old.kept p.id (code_reject old p)) echo now old says new

abbrev pub Hears : FrameKind → List ℕ → ℕ → ℕ → List ℕ → LcpState → Said → LcpState → Type 0
Hears NoFrame octets echo now random old says new = Rests old says new
Hears NoPacket octets echo now random old says new = Rests old says new
Hears Long octets echo now random old says new = Rests old says new
Hears (Lcp p) octets echo now random old says new = HearsKind (kind_of (packet_of p)) (packet_of p) echo now random old says new
Hears (Other n) octets echo now random old says new =
    (says ≡ (hears_other (is_rejected old n) octets old).said) × (new ≡ (hears_other (is_rejected old n) octets old).link)

pub record HearsFrame (octets : List ℕ) (echo now : ℕ) (random : List ℕ) (old : LcpState) (says : Said) (new : LcpState) : Type 0 where
  pub heard : FrameKind
  pub is : IsHeard octets heard
  pub hears : Hears heard octets echo now random old says new

abbrev pub LcpLinkSteps : LinkRules → LcpInput → ℕ → List ℕ → LcpState → Said → LcpState → Type 0
LcpLinkSteps r input.Start now random old says new = Starts r.auth.items random r.echo now old says new
LcpLinkSteps r (input.Frame octets) now random old says new = HearsFrame octets.now r.echo now random old says new
LcpLinkSteps r input.Timer now random old says new = Reminds r.echo now old says new
LcpLinkSteps r input.Close now random old says new = Moves Close (plain old.kept 0) r.echo now old says new
LcpLinkSteps r input.Lost now random old says new = Loses r.echo now old says new

-- A frame of the peer, and the layer that it is for.
use Rattle.std.specs.Prelude.{◌≡◌, ℕ, ◌≤◌, true, false, ◌||◌, List, length, ⊤, [], ◌∷◌, Some, None, ◌⊎◌}
use Rattle.byteorder.specs.Endian.{big_number}
use Rattle.bng_automaton.specs.declared.event.Event.TheVariants.{RxjMinus}
use Rattle.bng_base.specs.PppGrammar.{PppFrame, ControlPacket, IsPpp, IsControlPacket}
use Rattle.bng_auth.specs.Replying.{reply_of}
use Rattle.bng_auth.specs.declared.step.AuthStep.{AuthStep}
use Rattle.bng_auth.specs.declared.step.AuthStep.TheVariants.{Ask, Again, Refuse, Ignore}
use Rattle.bng_ppp_wire.specs.View.{packet_of}
use Rattle.bng_ppp_wire.specs.declared.code.TheConstants.{PROTOCOL_REJECT}
use Rattle.bng_ppp_wire.specs.declared.protocol.TheConstants as protocol
use Rattle.bng_ppp.specs.Authentication.{reply_sent, AuthTakes}
use Rattle.bng_ppp.specs.Claims.{claim_of}
use Rattle.bng_ppp.specs.IpcpAutomaton.{IpcpDoing, ipcp_plain}
use Rattle.bng_ppp.specs.IpcpCodes.{ipcp_kind_of}
use Rattle.bng_ppp.specs.IpcpPacket.{IpcpHearsKind}
use Rattle.bng_ppp.specs.Layers.{Turn, with_auth, with_auth_until, with_ipcp, ipcp_of, IpcpMoves, lcp_hears, LcpSteps, begun}
use Rattle.bng_ppp.specs.LinkState.{LinkState, is_for_auth, is_for_ipcp}
use Rattle.bng_ppp.specs.Verdict.{Refuses}
use Rattle.bng_ppp.specs.declared.authentication.Authentication.{Authentication}
use Rattle.bng_ppp.specs.declared.rules.LinkRules.{LinkRules}
use Rattle.bng_ppp.specs.declared.link_frame.FrameOwner.{FrameOwner}
use Rattle.bng_ppp.specs.declared.link_frame.FrameOwner.TheVariants as way

-- whose octets are, and what they are there
abbrev pub IsWay : LinkState → List ℕ → FrameOwner → Type 0
IsWay s octets (way.Auth p) =
    (length octets ≤ 4096) × ((f : PppFrame) × IsPpp f octets × (is_for_auth s f.protocol ≡ true) × IsControlPacket (packet_of p) f.info)
IsWay s octets (way.Ipcp p) =
    (length octets ≤ 4096) × ((f : PppFrame) × IsPpp f octets × (is_for_auth s f.protocol ≡ false) × (is_for_ipcp s f.protocol ≡ true) × IsControlPacket (packet_of p) f.info)
IsWay s octets way.NoPacket =
    (length octets ≤ 4096) × ((f : PppFrame) × IsPpp f octets × ((is_for_auth s f.protocol || is_for_ipcp s f.protocol) ≡ true) × ((p : ControlPacket) → ¬ (IsControlPacket p f.info)))
IsWay s octets way.Lcp =
    (f : PppFrame) → IsPpp f octets → length octets ≤ 4096 → (is_for_auth s f.protocol || is_for_ipcp s f.protocol) ≡ false

-- the body of a packet of a frame of at most 4,096 octets
abbrev pub IsWayShort : FrameOwner → Type 0
IsWayShort (way.Auth p) = length p.body.now ≤ 4090
IsWayShort (way.Ipcp p) = length p.body.now ≤ 4090
IsWayShort way.NoPacket = ⊤
IsWayShort way.Lcp = ⊤

-- the gateway's own refusal of a peer without a name, or with one or a password that is too long: `no name`
abbrev pub no_name : List ℕ
no_name = 110 ∷ 111 ∷ 32 ∷ 110 ∷ 97 ∷ 109 ∷ 101 ∷ []

-- What comes of a packet of authentication. The question stands in place of its timer.
abbrev pub AuthDoes : AuthStep → LinkRules → ℕ → List ℕ → Authentication → Turn → Turn → Type 0
AuthDoes (Ask c) r now random a t after = after ≡ record (with_auth_until t a None) { asked = Some (claim_of c) }
AuthDoes (Again reply) r now random a t after = after ≡ record (with_auth t a) { outs = reply_sent (Some (reply_of reply)) t.outs }
AuthDoes Refuse r now random a t after = Refuses r now random no_name (with_auth t a) after
AuthDoes Ignore r now random a t after = after ≡ with_auth t a

pub record HearsAuth (r : LinkRules) (p : ControlPacket) (now : ℕ) (random : List ℕ) (t after : Turn) : Type 0 where
  pub step : AuthStep
  pub auth : Authentication
  pub takes : AuthTakes t.link.auth p step auth
  pub does : AuthDoes step r now random auth t after

-- a packet of IPCP, to a peer with this Maximum-Receive-Unit
pub record HearsIpcpWithin (mru : ℕ) (r : LinkRules) (p : ControlPacket) (now : ℕ) (t after : Turn) : Type 0 where
  pub doing : IpcpDoing
  pub hears : IpcpHearsKind (ipcp_kind_of p) p r.dns mru now (ipcp_of t) doing
  pub done : after ≡ with_ipcp t doing

abbrev pub HearsIpcp : LinkRules → ControlPacket → ℕ → Turn → Turn → Type 0
HearsIpcp r p now t after = HearsIpcpWithin t.link.lcp.kept.mru r p now t after

-- a Protocol-Reject of IPCP (RFC 1661 section 5.7), which is LCP's packet and IPCP's event
pub record RejectsIpcp (octets : List ℕ) : Type 0 where
  pub frame : PppFrame
  pub packet : ControlPacket
  pub short : length octets ≤ 4096
  pub is : IsPpp frame octets
  pub lcp : frame.protocol ≡ protocol.LCP
  pub packet_is : IsControlPacket packet frame.info
  pub code : packet.code ≡ PROTOCOL_REJECT
  pub there : 2 ≤ length packet.body
  pub rejected : big_number 2 packet.body ≡ protocol.IPCP

abbrev pub HearsLcp : LinkRules → List ℕ → ℕ → List ℕ → LinkState → Turn → Type 0
HearsLcp r octets now random old after =
    (RejectsIpcp octets × ((t : Turn) × LcpSteps r (lcp_hears r octets now random) now random old t × IpcpMoves RxjMinus (ipcp_plain t.link.ipcp.kept 0) now t after))
    ⊎ ((¬ (RejectsIpcp octets)) × LcpSteps r (lcp_hears r octets now random) now random old after)

abbrev pub HearsWay : FrameOwner → LinkRules → List ℕ → ℕ → List ℕ → LinkState → Turn → Type 0
HearsWay (way.Auth p) r octets now random old after = HearsAuth r (packet_of p) now random (begun old) after
HearsWay (way.Ipcp p) r octets now random old after = HearsIpcp r (packet_of p) now (begun old) after
HearsWay way.NoPacket r octets now random old after = after ≡ begun old
HearsWay way.Lcp r octets now random old after = HearsLcp r octets now random old after

pub record HearsOctets (r : LinkRules) (octets : List ℕ) (now : ℕ) (random : List ℕ) (old : LinkState) (after : Turn) : Type 0 where
  pub way : FrameOwner
  pub is : IsWay old octets way
  pub hears : HearsWay way r octets now random old after

-- Datagrams of the gateway's end for tunnels (RFC 2661).
use Rattle.std.specs.Prelude.{◌≡◌, ◌⊎◌, ℕ, Bool, true, false, List, Option, Some, None}
use Rattle.std.specs.List.{AllByRecursion}
use Rattle.bng_base.specs.declared.fate.DropCause.TheVariants.{Malformed, NoSession}
use Rattle.bng_base.specs.declared.item.Entry.{Entry}
use Rattle.bng_l2tp_tunnel.specs.Sound.{IsSpelled}
use Rattle.bng_l2tp_wire.specs.View.{Said}
use Rattle.bng_l2tp_wire.specs.Messages.{ControlMessage, DataMessage}
use Rattle.bng_lns.specs.Datagrams.{CarriesOver, IsControlIn, IsDataIn, IsNeither}
use Rattle.bng_lns.specs.declared.outcome.Came.{Came}
use Rattle.bng_lns.specs.Tunnels.{Answer, NoTunnel, NoRequest, Steps, Outcome, TunnelsState, hear}
use Rattle.bng_steps.specs.declared.rules.Rules.{Rules}
use Rattle.bng_steps.specs.declared.session.Service.{Service}
use Rattle.bng_steps.specs.declared.session.Service.TheVariants.{Provisioned, Linked}
use Rattle.bng_steps.specs.declared.session.Session.{Session}
use Rattle.bng_steps.specs.State.{State, call_of, is_connected, with_tunnels}
use Rattle.bng_steps.specs.Calls.{HearsCallMessage, is_icrq}
use Rattle.bng_steps.specs.Cutting.{cut_if}
use Rattle.bng_steps.specs.Deed.{Deed, at_of, dropped, handled, ignored, tunnel_outs}
use Rattle.bng_steps.specs.Frames.{HearsData, HearsPpp}

-- Messages -----------------------------------------------------------------------------------------------------------------

-- who sent the message of an entry, and when it came
abbrev pub came_by : Entry → Came
came_by e = record { from = e.item.from; random = e.item.random; moment = e.moment }

-- what it does to the tunnels
abbrev pub heard_by : Rules → State → Entry → ControlMessage → Outcome
heard_by r s e m = hear r.link.name.items r.lacs s.tunnels (came_by e) m

-- The tunnel with this number took the message, and said this. A call's message was handed over; else these are control messages to the
-- sender, and where they are the tunnel's last its calls have ended.
abbrev pub TakesStep : Bool → ℕ → Said → ControlMessage → Rules → State → Entry → TunnelsState → Deed → Type 0
TakesStep true number said m r s e t d = HearsCallMessage (is_icrq m) number said m r (with_tunnels s t) e d
TakesStep false number said m r s e t d =
    AllByRecursion IsSpelled said.outs
    × (d ≡ handled s e (tunnel_outs (at_of s e) e.item.from said.outs) (cut_if said.cleared number (with_tunnels s t)))

-- What became of the message. A number that no tunnel of its sender has leads nowhere.
abbrev pub HearsAnswer : Answer → ControlMessage → Rules → State → Entry → TunnelsState → Deed → Type 0
HearsAnswer NoTunnel m r s e t d = d ≡ dropped s e NoSession
HearsAnswer NoRequest m r s e t d = d ≡ ignored s e
HearsAnswer (Steps number said) m r s e t d = TakesStep said.call number said m r s e t d

abbrev pub HearsMessage : Rules → State → Entry → ControlMessage → Deed → Type 0
HearsMessage r s e m d = HearsAnswer (heard_by r s e m).answer m r s e (heard_by r s e m).after d

-- Data ---------------------------------------------------------------------------------------------------------------------

-- a PPP frame of a call without an IPv4 packet: its link hears it, once the call is established
abbrev pub HearsOver : Service → Rules → State → Entry → Session → DataMessage → Deed → Type 0
HearsOver (Provisioned over) r s e x p d = d ≡ ignored s e
HearsOver (Linked made) r s e x p d =
    ((is_connected x.way ≡ true) × HearsPpp r s e p.session x made p.ppp d)
    ⊎ ((is_connected x.way ≡ false) × (d ≡ ignored s e))

abbrev pub HearsFor : Option Session → Rules → State → Entry → DataMessage → Deed → Type 0
HearsFor None r s e p d = d ≡ dropped s e NoSession
HearsFor (Some x) r s e p d = HearsOver x.service r s e x p d

-- A data message is for the call of its sender with its Tunnel ID and its Session ID: one with an IPv4 packet, or another one.
abbrev pub HearsTunnelData : Rules → State → Entry → DataMessage → Deed → Type 0
HearsTunnelData r s e p d =
    ((info : List ℕ) × CarriesOver p info × HearsData r s e (call_of s e.item.from p.tunnel p.session) info d)
    ⊎ (((info : List ℕ) → ¬ (CarriesOver p info)) × HearsFor (call_of s e.item.from p.tunnel p.session) r s e p d)

-- a datagram of the gateway's end for tunnels: neither of the two messages, one of a tunnel, or one of a call
abbrev pub HearsTunnel : Rules → State → Entry → Deed → Type 0
HearsTunnel r s e d =
    (IsNeither e.item.cut e.item.frame.payload × (d ≡ dropped s e Malformed))
    ⊎ (((m : ControlMessage) × IsControlIn e.item.cut e.item.frame.payload m × HearsMessage r s e m d)
    ⊎ ((p : DataMessage) × IsDataIn e.item.cut e.item.frame.payload p × HearsTunnelData r s e p d))

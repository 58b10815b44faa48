-- Messages of calls, which a tunnel has handed over (RFC 2661 sections 6.6 to 6.14).
use Rattle.std.specs.Prelude.{◌≡◌, ℕ, ◌||◌, Bool, true, false, List, [], ◌++◌, Option, Some, None, unwrap_or}
use Rattle.std.specs.List.{AllByRecursion}
use Rattle.bng_base.specs.declared.address.Peer.{Peer}
use Rattle.bng_base.specs.declared.item.Entry.{Entry}
use Rattle.bng_base.specs.declared.item.OutRecord.{OutRecord}
use Rattle.bng_l2tp_call.specs.CallState.{CallState, fresh}
use Rattle.bng_l2tp_call.specs.Cases.{message_step}
use Rattle.bng_l2tp_wire.specs.Judge.{is_type}
use Rattle.bng_l2tp_tunnel.specs.Sound.{IsSpelled}
use Rattle.bng_l2tp_tunnel.specs.Steps.{Step}
use Rattle.bng_l2tp_tunnel.specs.TunnelState.{TunnelState}
use Rattle.bng_l2tp_wire.specs.Values.{message_type}
use Rattle.bng_l2tp_wire.specs.View.{Said}
use Rattle.bng_l2tp_wire.specs.Messages.{ControlMessage}
use Rattle.bng_l2tp_wire.specs.declared.message.TheConstants.{ICRQ}
use Rattle.bng_lns.specs.Exchange.{exchanged}
use Rattle.bng_lns.specs.Tunnels.{tunnel_at, with_step}
use Rattle.bng_ppp.specs.declared.input.Input.TheVariants.{Start}
use Rattle.bng_ppp.specs.LinkState.{LinkState}
use Rattle.bng_steps.specs.LinkService.{LinkService}
use Rattle.bng_steps.specs.declared.rules.Rules.{Rules}
use Rattle.bng_steps.specs.declared.session.Service.TheVariants.{Linked}
use Rattle.bng_steps.specs.declared.session.Session.{Session}
use Rattle.bng_steps.specs.declared.way.TunnelCall.{TunnelCall}
use Rattle.bng_steps.specs.declared.way.Way.TheVariants.{Call}
use Rattle.bng_steps.specs.State.{Beside, State, call_of, lives_in, with_driven, with_ended, with_session, with_tunnels}
use Rattle.bng_steps.specs.Deed.{Deed, at_of, beside_of, handled, tunnel_outs}
use Rattle.bng_steps.specs.Discovery.{IsNewLink, IsVacancy}
use Rattle.bng_steps.specs.Link.{Drives, ended, lost_carrier, told}
use Rattle.bng_steps.specs.Passing.{lapsed}

-- what a tunnel and a call of it make of a message that the tunnel handed over with these words
abbrev pub call_step : TunnelState → Said → CallState → ControlMessage → ℕ → Step
call_step t said c m now = exchanged t said c m now

-- the call then
abbrev pub call_after : CallState → ControlMessage → CallState
call_after c m = (message_step c m.avps).after

-- what goes out to the sender of the entry's message
abbrev pub step_outs : State → Entry → Step → List OutRecord
step_outs s e step = tunnel_outs (at_of s e) e.item.from step.said.outs

-- the state once the tunnel with this number has made this step at the entry's moment
abbrev pub stepped : State → Entry → ℕ → Step → State
stepped s e number step = with_tunnels s (with_step e.moment s.tunnels number step.after)

-- a session that has a link which was told nothing
abbrev pub linked : LinkState → LinkService
linked link = record { host_uniq = None; link = link; question = None; ended = false }

-- Calls that are asked for -------------------------------------------------------------------------------------------------

-- a call of the tunnel with this number
abbrev pub called_over : Peer → ℕ → TunnelState → CallState → TunnelCall
called_over peer number t c = record { peer = peer; tunnel = record { 0 = number }; far = unwrap_or t.peer_number 0; call = c }

-- the session with this number, of a call that was just made
abbrev pub session_over : ℕ → TunnelCall → LinkState → Session
session_over n c link = record { number = record { 0 = n }; way = Call c; service = Linked (linked link); lease = None }

-- the same, over this tunnel
abbrev pub called_session : ℕ → Peer → ℕ → TunnelState → CallState → LinkState → Session
called_session n peer number t c link = session_over n (called_over peer number t c) link

-- the session of a call that no session number is free for has none
abbrev pub number_for : Option ℕ → ℕ
number_for vacancy = unwrap_or vacancy 0

-- The call takes the lowest session number that is free, where one is; and where its ICRP goes out, or will, there is a session.
abbrev pub MakesSession : Option ℕ → Bool → TunnelCall → List ℕ → State → State → Type 0
MakesSession None unmade c random s s' = s' ≡ s
MakesSession (Some n) true c random s s' = s' ≡ s
MakesSession (Some n) false c random s s' = (link : LinkState) × IsNewLink 1500 random link × (s' ≡ with_session s n (session_over n c link))

-- An ICRQ asks for a call of the tunnel with this number. It is answered by an ICRP, or refused by a CDN.
pub record AsksForCall (number : ℕ) (said : Said) (m : ControlMessage) (s : State) (e : Entry) (d : Deed) : Type 0 where
  pub tunnel : TunnelState
  pub stands : tunnel_at s.tunnels number ≡ Some tunnel
  pub vacancy : Option ℕ
  pub is_vacancy : IsVacancy s vacancy
  pub step : Step
  pub is_step : step ≡ call_step tunnel said (fresh tunnel.secret (number_for vacancy)) m e.moment
  pub spelled : AllByRecursion IsSpelled step.said.outs
  pub next : State
  pub makes : MakesSession vacancy (step.said.ended || step.said.left_out) (called_over e.item.from number tunnel (call_after (fresh tunnel.secret (number_for vacancy)) m)) e.item.random (stepped s e number step) next
  pub done : d ≡ handled s e (step_outs s e step) next

-- Messages of calls that there are -----------------------------------------------------------------------------------------

-- its call is another one
abbrev pub turned : Session → TunnelCall → CallState → Session
turned x c after = record x { way = Call (record c { call = after }) }

-- a session without a term, whose link is made anew
abbrev pub linked_anew : Session → LinkState → Session
linked_anew x link = record (lapsed x) { service = Linked (linked link) }

-- The ICCN was taken: the session's link is made anew, and told Open and Up. A term that was live ends by Lost Carrier.
pub record Connects (n : ℕ) (x : Session) (c : TunnelCall) (after : CallState) (r : Rules) (s : State) (e : Entry) (outs : List OutRecord) (s' : State) : Type 0 where
  pub link : LinkState
  pub new : IsNewLink 1500 e.item.random link
  pub none : Option ℕ
  pub connected : Session
  pub beside : Beside
  pub starts : Drives r (at_of s e) (beside_of s e) (linked_anew (turned x c after) link) (told r e Start) outs none connected beside
  pub next : s' ≡ with_driven s n x.lease (Some lost_carrier) connected beside

-- What became of the call of the session with this number. Where its ICCN was taken the first is true, and where it ended the second is.
abbrev pub TurnsCall : Bool → Bool → ℕ → Session → TunnelCall → CallState → Rules → State → Entry → List OutRecord → State → Type 0
TurnsCall true over n x c after r s e outs s' = Connects n x c after r s e outs s'
TurnsCall false true n x c after r s e outs s' = (outs ≡ []) × (s' ≡ with_ended s n x.lease lost_carrier (ended (turned x c after)))
TurnsCall false false n x c after r s e outs s' = (outs ≡ []) × (s' ≡ with_session s n (turned x c after))

-- The session of a call takes the message.
pub record TakesForCall (number : ℕ) (said : Said) (m : ControlMessage) (x : Session) (r : Rules) (s : State) (e : Entry) (d : Deed) : Type 0 where
  pub tunnel : TunnelState
  pub stands : tunnel_at s.tunnels number ≡ Some tunnel
  pub called : TunnelCall
  pub way_is : x.way ≡ Call called
  pub step : Step
  pub is_step : step ≡ call_step tunnel said called.call m e.moment
  pub spelled : AllByRecursion IsSpelled step.said.outs
  pub more : List OutRecord
  pub next : State
  pub turns : TurnsCall step.said.opened step.said.ended m.session x called (call_after called.call m) r (stepped s e number step) e more next
  pub done : d ≡ handled s e (step_outs s e step ++ more) next

-- No session takes the message, which is acknowledged by a ZLB.
pub record TakesForNone (number : ℕ) (said : Said) (m : ControlMessage) (s : State) (e : Entry) (d : Deed) : Type 0 where
  pub tunnel : TunnelState
  pub stands : tunnel_at s.tunnels number ≡ Some tunnel
  pub step : Step
  pub is_step : step ≡ call_step tunnel said (fresh tunnel.secret 0) m e.moment
  pub spelled : AllByRecursion IsSpelled step.said.outs
  pub done : d ≡ handled s e (step_outs s e step) (stepped s e number step)

-- by whether the session that was found has a link and has not ended
abbrev pub TakesIfLives : Bool → ℕ → Said → ControlMessage → Session → Rules → State → Entry → Deed → Type 0
TakesIfLives true number said m x r s e d = TakesForCall number said m x r s e d
TakesIfLives false number said m x r s e d = TakesForNone number said m s e d

abbrev pub TakesFound : Option Session → ℕ → Said → ControlMessage → Rules → State → Entry → Deed → Type 0
TakesFound None number said m r s e d = TakesForNone number said m s e d
TakesFound (Some x) number said m r s e d = TakesIfLives (lives_in x.service) number said m x r s e d

-- The tunnel with this number handed a message over, whose sender is its peer: an ICRQ, or another message, which is for the call with its
-- Session ID.
abbrev pub HearsCallMessage : Bool → ℕ → Said → ControlMessage → Rules → State → Entry → Deed → Type 0
HearsCallMessage true number said m r s e d = AsksForCall number said m s e d
HearsCallMessage false number said m r s e d = TakesFound (call_of s e.item.from number m.session) number said m r s e d

abbrev pub is_icrq : ControlMessage → Bool
is_icrq m = is_type (message_type m.avps) ICRQ

-- What was done with a datagram of the gateway's end for tunnels, and what tunnels tell one after another.
use Rattle.std.proofs.Common.{◌≡◌, ◌+◌, ℕ, zero, suc, ◌==◌, ◌||◌, Bool, true, false, cond, List, [], ◌++◌, length, Option, Some, None, is_some, inl, inr, refl, sym, ap, subst, ◌∙◌, arith, append_assoc, append-nil, add-zero, zero-add}
use Rattle.std.specs.Prelude.{find}
use Rattle.std.specs.List.{AllByRecursion}
use Rattle.std.proofs.lemmas.Bool.{false≢true}
use Rattle.std.proofs.lemmas.List.{length-map}
use Rattle.bng_base.specs.Packet.{Packet}
use Rattle.bng_base.specs.declared.address.Peer.{Peer}
use Rattle.bng_base.specs.declared.fate.DropCause.TheVariants.{Malformed, NoSession}
use Rattle.bng_base.specs.declared.fate.Fate.{Fate}
use Rattle.bng_base.specs.declared.fate.Fate.TheVariants.{Consumed, Dropped}
use Rattle.bng_base.specs.declared.item.At.{At}
use Rattle.bng_base.specs.declared.item.Entry.{Entry}
use Rattle.bng_base.specs.declared.item.Item.{Item}
use Rattle.bng_base.specs.declared.item.OutRecord.{OutRecord}
use Rattle.bng_base.specs.declared.outside.Role.TheVariants.{Tunnel}
use Rattle.bng_base.specs.declared.settings.Lac.{Lac}
use Rattle.bng_l2tp_call.specs.CallState.{CallState, fresh}
use Rattle.bng_l2tp_wire.specs.Judge.{is_type}
use Rattle.bng_l2tp_tunnel.specs.Sound.{IsSpelled}
use Rattle.bng_l2tp_tunnel.specs.Steps.{Step, stands, message_step}
use Rattle.bng_l2tp_tunnel.specs.TunnelState.{TunnelState}
use Rattle.bng_l2tp_wire.specs.Values.{assigned_tunnel, message_type}
use Rattle.bng_l2tp_wire.specs.View.{Said, payloads, control_of, data_of}
use Rattle.bng_l2tp_wire.specs.Messages.{ControlMessage, DataMessage, IsControl, IsData}
use Rattle.bng_l2tp_wire.specs.declared.message.TheConstants.{SCCRQ}
use Rattle.bng_lns.specs.Datagrams.{CarriesOver, IsDataIn, IsReadAs}
use Rattle.bng_lns.specs.declared.datagram.TunnelDatagram.{TunnelDatagram}
use Rattle.bng_lns.specs.declared.datagram.TunnelDatagram.TheVariants.{Control, Data}
use Rattle.bng_lns.specs.declared.outcome.Came.{Came}
use Rattle.bng_lns.specs.Places.{is_named, is_again, place_of, put_at}
use Rattle.bng_lns.specs.Timed.{Telling, Timed}
use Rattle.bng_lns.specs.Tunnels.{Answer, NoTunnel, NoRequest, Steps, Outcome, TunnelsState, begun_with, free_place, hear, heard_by as taken_by, lac_of, made_by, outcome, requested, requested_by, secret_of, vacant, with_step}
use Rattle.bng_ppp.specs.declared.input.Input.TheVariants.{Start}
use Rattle.bng_ppp.specs.LinkState.{LinkState}
use Rattle.bng_sessions.specs.Sessions.{IsLowestVacant, value_at}
use Rattle.bng_steps.specs.declared.rules.Rules.{Rules}
use Rattle.bng_steps.specs.declared.destination.Destination.{Destination}
use Rattle.bng_steps.specs.LinkService.{LinkService}
use Rattle.bng_steps.specs.declared.session.Service.{Service}
use Rattle.bng_steps.specs.declared.session.Service.TheVariants.{Provisioned, Linked}
use Rattle.bng_steps.specs.declared.session.Session.{Session}
use Rattle.bng_steps.specs.declared.way.TunnelCall.{TunnelCall}
use Rattle.bng_steps.specs.declared.way.Way.TheVariants.{Call}
use Rattle.bng_steps.specs.State.{Beside, State, call_of, lives_in, with_driven, with_ended, with_session, with_tunnels}
use Rattle.bng_steps.specs.Deed.{Deed, at_of, beside_of, handled, is_forwarded, only, out, tunnel_outs}
use Rattle.bng_steps.specs.Doing.{DoesWith}
use Rattle.bng_steps.specs.Calls.{HearsCallMessage, MakesSession, TakesForNone, TakesFound, TakesIfLives, TurnsCall, call_after, called_over, called_session, is_icrq, linked_anew, number_for, turned}
use Rattle.bng_steps.specs.Cutting.{cut_if}
use Rattle.bng_steps.specs.Datagrams.{HearsAnswer, HearsFor, HearsMessage, HearsOver, HearsTunnel, TakesStep, heard_by}
use Rattle.bng_steps.specs.Discovery.{IsNewLink, IsVacancy}
use Rattle.bng_steps.specs.Frames.{HearsData, HearsPpp}
use Rattle.bng_steps.specs.L2tp.{TellInTurn, TellsIts}
use Rattle.bng_steps.specs.Link.{Drives, ended, lost_carrier, told}
use Rattle.bng_steps.specs.Protocol.{entry_of}
use Rattle.bng_steps.specs.Timed.{ToldInTurn, ToldOnce}
use Rattle.bng_steps.specs.Destinations.{IsForDatagram, IsForRead}
use Rattle.bng_steps.proofs.Naming.{call_number, living}
use Rattle.bng_steps.proofs.Timing.{more_sent}

pub payloads_length : (xs : List Packet) → length (payloads xs) ≡ length xs
payloads_length xs = length-map xs (λ (p : Packet). p.payload)

pub tunnel_outs_length : (a : At) (to : Peer) (frames : List (List ℕ)) → length (tunnel_outs a to frames) ≡ length frames
tunnel_outs_length a to frames = length-map frames (λ (f : List ℕ). out a Tunnel to f None)

pub standing : (o : Option TunnelState) → is_some o ≡ true → (t : TunnelState) × (o ≡ Some t)
standing None e = absurd (false≢true e)
standing (Some t) e = (t, refl)

-- the tunnels alone are other ones
pub others_kept : (s s' : State) (t : TunnelsState) → s' ≡ with_tunnels s t → s' ≡ with_tunnels s s'.tunnels
others_kept s s' t e = e ∙ ap (λ (u : State). with_tunnels s u.tunnels) (sym e)

-- Which shard ------------------------------------------------------------------------------------------------------------

pub for_datagram : (r : Rules) (item : Item) (d : TunnelDatagram) (whose : Destination) → IsReadAs item.cut item.frame.payload d → IsForRead r item.from d whose → IsForDatagram r item whose
for_datagram r item (Control m) whose read is = inr (inl (control_of m, read, is))
for_datagram r item (Data m) whose read is = inr (inr (data_of m, read, is))

-- Messages ---------------------------------------------------------------------------------------------------------------

-- where no tunnel took a message, none is another one
record Silent (t : TunnelsState) (o : Outcome) : Type 0 where
  unknown : o.answer ≡ NoTunnel → o.after ≡ t
  passed : o.answer ≡ NoRequest → o.after ≡ t

known : (number : ℕ) (said : Said) → Steps number said ≡ NoTunnel → ⊥
known number said e = cc

requests : (number : ℕ) (said : Said) → Steps number said ≡ NoRequest → ⊥
requests number said e = cc

took_silent : (number : ℕ) (said : Said) (t u : TunnelsState) → Silent t (outcome (Steps number said) u)
took_silent number said t u = record { unknown = λ e. absurd (known number said e); passed = λ e. absurd (requests number said e) }

heard_silent : (t : TunnelsState) (c : Came) (m : ControlMessage) → Silent t (taken_by t c m (find (is_named c.from m.tunnel) t.places))
heard_silent t c m =
    elim (find (is_named c.from m.tunnel) t.places) as (λ o. Silent t (taken_by t c m o)) [
      | None ↦ record { unknown = λ e. refl; passed = λ e. refl }
      | Some p ↦
          let step = message_step p.tunnel m c.random c.moment in
          took_silent p.tunnel.number step.said t (with_step c.moment t p.tunnel.number step.after)
    ]

made_silent : (t : TunnelsState) (now : ℕ) (step : Step) → Silent t (made_by t now step)
made_silent t now step =
    let made : TunnelsState = record t { places = put_at (free_place now t) (place_of now step.after) t.places } in
    elim (stands step.after.phase) as (λ (b : Bool). Silent t (cond b (outcome (Steps step.after.number step.said) made) (outcome (Steps 0 step.said) t))) [
      | true ↦ took_silent step.after.number step.said t made
      | false ↦ took_silent 0 step.said t t
    ]

requested_silent : (name : List ℕ) (lac : Option Lac) (t : TunnelsState) (c : Came) (m : ControlMessage) → Silent t (requested name lac t c m)
requested_silent name lac t c m =
    elim (find (is_again c.from (assigned_tunnel (secret_of lac) m.avps)) t.places) as (λ o. Silent t (requested_by name lac t c m o)) [
      | None ↦ made_silent t c.moment (message_step (begun_with name lac c.from c.moment (vacant c.moment t)) m c.random c.moment)
      | Some p ↦
          let step = message_step p.tunnel m c.random c.moment in
          took_silent p.tunnel.number step.said t (with_step c.moment t p.tunnel.number step.after)
    ]

hear_silent : (name : List ℕ) (lacs : List Lac) (t : TunnelsState) (c : Came) (m : ControlMessage) → Silent t (hear name lacs t c m)
unfolding hear
hear_silent name lacs t c m =
    let asked = requested name (lac_of lacs c.from.ip) t c m in
    let named = taken_by t c m (find (is_named c.from m.tunnel) t.places) in
    elim (m.tunnel == 0) as (λ (b : Bool). Silent t (cond b (cond (is_type (message_type m.avps) SCCRQ) asked (outcome NoRequest t)) named)) [
      | true ↦ elim (is_type (message_type m.avps) SCCRQ) as (λ (b : Bool). Silent t (cond b asked (outcome NoRequest t))) [
        | true ↦ requested_silent name (lac_of lacs c.from.ip) t c m
        | false ↦ record { unknown = λ e. refl; passed = λ e. refl }
      ]
      | false ↦ heard_silent t c m
    ]

-- a step of a tunnel is told from the state before it as from the one after
step_from : (b : Bool) (number : ℕ) (heard : Said) (m : ControlMessage) (r : Rules) (s : State) (e : Entry) (t : TunnelsState) (d : Deed) → TakesStep b number heard m r (with_tunnels s t) e t d → TakesStep b number heard m r s e t d
step_from true number heard m r s e t d h = h
step_from false number heard m r s e t d h = h

module _ (r : Rules) (s s' : State) (outs outs' : List OutRecord) (a : At) (moment : ℕ) (item : Item) (m : ControlMessage) where
  abbrev entry : Entry
  entry = entry_of a.seat a.place moment item

  abbrev taken : Outcome
  taken = heard_by r s entry m

  -- no tunnel has the number of the message
  pub message_unknown : NoTunnel ≡ taken.answer → s' ≡ with_tunnels s taken.after → outs' ≡ outs → DoesWith (λ e d. HearsMessage r s e m d) 10 s s' outs outs' a moment item (Dropped NoSession)
  message_unknown is next still = record {
    deed = only s entry (Dropped NoSession);
    entry = refl;
    fate_is = refl;
    next = sym (next ∙ ap (λ (t : TunnelsState). with_tunnels s t) ((hear_silent r.link.name.items r.lacs s.tunnels (record { from = item.from; random = item.random; moment = moment }) m).unknown (sym is)));
    says = subst (λ (x : Answer). HearsAnswer x m r s entry taken.after (only s entry (Dropped NoSession))) is refl;
    outs_are = still ∙ sym (append-nil outs);
    few = omega arith;
  }

  -- it is for no tunnel, and asks for none
  pub message_passed : NoRequest ≡ taken.answer → s' ≡ with_tunnels s taken.after → outs' ≡ outs → DoesWith (λ e d. HearsMessage r s e m d) 10 s s' outs outs' a moment item Consumed
  message_passed is next still = record {
    deed = only s entry Consumed;
    entry = refl;
    fate_is = refl;
    next = sym (next ∙ ap (λ (t : TunnelsState). with_tunnels s t) ((hear_silent r.link.name.items r.lacs s.tunnels (record { from = item.from; random = item.random; moment = moment }) m).passed (sym is)));
    says = subst (λ (x : Answer). HearsAnswer x m r s entry taken.after (only s entry Consumed)) is refl;
    outs_are = still ∙ sym (append-nil outs);
    few = omega arith;
  }

  -- so it is in what is done
  pub taken_from : (number : ℕ) (heard : Said) (t : TunnelsState) → DoesWith (λ e d. TakesStep heard.call number heard m r (with_tunnels s t) e t d) 10 (with_tunnels s t) s' outs outs' a moment item Consumed
      → DoesWith (λ e d. TakesStep heard.call number heard m r s e t d) 10 s s' outs outs' a moment item Consumed
  taken_from number heard t does = record {
    deed = does.deed;
    entry = does.entry;
    fate_is = does.fate_is;
    next = does.next;
    says = step_from heard.call number heard m r s entry t does.deed does.says;
    outs_are = does.outs_are;
    few = does.few;
  }

  -- a tunnel took it, or it asked for one
  pub message_taken : (number : ℕ) (heard : Said) (t : TunnelsState) → Steps number heard ≡ taken.answer → t ≡ taken.after
      → DoesWith (λ e d. TakesStep heard.call number heard m r s e t d) 10 s s' outs outs' a moment item Consumed → DoesWith (λ e d. HearsMessage r s e m d) 10 s s' outs outs' a moment item Consumed
  message_taken number heard t is after does = record {
    deed = does.deed;
    entry = does.entry;
    fate_is = does.fate_is;
    next = does.next;
    says = subst (λ (x : Answer). HearsAnswer x m r s entry taken.after does.deed) is (subst (λ (u : TunnelsState). HearsAnswer (Steps number heard) m r s entry u does.deed) after does.says);
    outs_are = does.outs_are;
    few = does.few;
  }

-- What a datagram does -----------------------------------------------------------------------------------------------------

-- control messages to the sender of an entry
abbrev pub answers_to : State → Entry → List (List ℕ) → List OutRecord
answers_to s e frames = tunnel_outs (at_of s e) e.item.from frames

-- All that a datagram of the gateway's end for tunnels may do: what goes out for a message, and what it does to the tunnels and to one session;
-- or a packet of a call or another PPP frame of it.
pub data Did (r : Rules) (s : State) (e : Entry) (d : Deed) : Type 0 where
  Idles : (fate : Fate) → is_forwarded fate ≡ false → d ≡ only s e fate → Did r s e d
  Speaks : (frames : List (List ℕ)) (t : TunnelsState) → AllByRecursion IsSpelled frames → d ≡ handled s e (answers_to s e frames) (with_tunnels s t) → Did r s e d
  Cuts : (frames : List (List ℕ)) (t : TunnelsState) (cleared : Bool) (number : ℕ) → AllByRecursion IsSpelled frames → d ≡ handled s e (answers_to s e frames) (cut_if cleared number (with_tunnels s t)) → Did r s e d
  Comes : (frames : List (List ℕ)) (t : TunnelsState) (n number : ℕ) (tunnel : TunnelState) (call : CallState) (link : LinkState) → AllByRecursion IsSpelled frames → IsLowestVacant s.sessions n → IsNewLink 1500 e.item.random link
      → d ≡ handled s e (answers_to s e frames) (with_session (with_tunnels s t) n (called_session n e.item.from number tunnel call link)) → Did r s e d
  TurnsOne : (frames : List (List ℕ)) (t : TunnelsState) (n : ℕ) (x : Session) (m : LinkService) (c : TunnelCall) (call : CallState) → AllByRecursion IsSpelled frames → value_at s.sessions n ≡ Some x → x.service ≡ Linked m → x.way ≡ Call c
      → d ≡ handled s e (answers_to s e frames) (with_session (with_tunnels s t) n (turned x c call)) → Did r s e d
  PartsOne : (frames : List (List ℕ)) (t : TunnelsState) (n : ℕ) (x : Session) (m : LinkService) (c : TunnelCall) (call : CallState) → AllByRecursion IsSpelled frames → value_at s.sessions n ≡ Some x → x.service ≡ Linked m → x.way ≡ Call c
      → d ≡ handled s e (answers_to s e frames) (with_ended (with_tunnels s t) n x.lease lost_carrier (ended (turned x c call))) → Did r s e d
  ConnectsOne : (frames : List (List ℕ)) (t : TunnelsState) (n : ℕ) (x x' : Session) (m : LinkService) (c : TunnelCall) (call : CallState) (link : LinkState) (outs : List OutRecord) (none : Option ℕ) (beside' : Beside) → AllByRecursion IsSpelled frames
      → value_at s.sessions n ≡ Some x → x.service ≡ Linked m → x.way ≡ Call c → IsNewLink 1500 e.item.random link
      → Drives r (at_of s e) (beside_of (with_tunnels s t) e) (linked_anew (turned x c call) link) (told r e Start) outs none x' beside'
      → d ≡ handled s e (answers_to s e frames ++ outs) (with_driven (with_tunnels s t) n x.lease (Some lost_carrier) x' beside') → Did r s e d
  PassesUp : (p : DataMessage) (info : List ℕ) → IsDataIn e.item.cut e.item.frame.payload p → CarriesOver p info → HearsData r s e (call_of s e.item.from p.tunnel p.session) info d → Did r s e d
  HearsOne : (p : DataMessage) (x : Session) (m : LinkService) → IsDataIn e.item.cut e.item.frame.payload p → call_of s e.item.from p.tunnel p.session ≡ Some x → x.service ≡ Linked m → HearsPpp r s e p.session x m p.ppp d → Did r s e d

module _ (r : Rules) (s : State) (e : Entry) (d : Deed) (t : TunnelsState) where
  -- once the tunnel has taken a message
  abbrev then : State
  then = with_tunnels s t

  makes_did : (v : Option ℕ) (unmade : Bool) (frames : List (List ℕ)) (u : TunnelsState) (number : ℕ) (tunnel : TunnelState) (call : CallState) (next : State) → IsVacancy s v → AllByRecursion IsSpelled frames
      → MakesSession v unmade (called_over e.item.from number tunnel call) e.item.random (with_tunnels s u) next → d ≡ handled s e (answers_to s e frames) next → Did r s e d
  makes_did None unmade frames u number tunnel call next vacant spelled makes h = Speaks frames u spelled (h ∙ ap (λ (q : State). handled s e (answers_to s e frames) q) makes)
  makes_did (Some n) true frames u number tunnel call next vacant spelled makes h = Speaks frames u spelled (h ∙ ap (λ (q : State). handled s e (answers_to s e frames) q) makes)
  makes_did (Some n) false frames u number tunnel call next vacant spelled (link, new, is) h =
      Comes frames u n number tunnel call link spelled vacant new (h ∙ ap (λ (q : State). handled s e (answers_to s e frames) q) is)

  turns_did : (opened over : Bool) (frames : List (List ℕ)) (u : TunnelsState) (n : ℕ) (x : Session) (m : LinkService) (c : TunnelCall) (call : CallState) (more : List OutRecord) (next : State) → AllByRecursion IsSpelled frames
      → value_at s.sessions n ≡ Some x → x.service ≡ Linked m → x.way ≡ Call c → TurnsCall opened over n x c call r (with_tunnels s u) e more next → d ≡ handled s e (answers_to s e frames ++ more) next → Did r s e d
  turns_did true over frames u n x m c call more next spelled at is way h same =
      ConnectsOne frames u n x h.connected m c call h.link more h.none h.beside spelled at is way h.new h.starts (same ∙ ap (λ (q : State). handled s e (answers_to s e frames ++ more) q) h.next)
  turns_did false true frames u n x m c call more next spelled at is way (none, after) same =
      PartsOne frames u n x m c call spelled at is way
      (same ∙ ap (λ (os : List OutRecord). handled s e (answers_to s e frames ++ os) next) none ∙ ap (λ (os : List OutRecord). handled s e os next) (append-nil (answers_to s e frames)) ∙ ap (λ (q : State). handled s e (answers_to s e frames) q) after)
  turns_did false false frames u n x m c call more next spelled at is way (none, after) same =
      TurnsOne frames u n x m c call spelled at is way
      (same ∙ ap (λ (os : List OutRecord). handled s e (answers_to s e frames ++ os) next) none ∙ ap (λ (os : List OutRecord). handled s e os next) (append-nil (answers_to s e frames)) ∙ ap (λ (q : State). handled s e (answers_to s e frames) q) after)

  none_did : (number : ℕ) (said : Said) (m : ControlMessage) → TakesForNone number said m then e d → Did r s e d
  none_did number said m h = Speaks h.step.said.outs (with_step e.moment t number h.step.after) h.spelled h.done

  lives_did : (b : Bool) (number : ℕ) (said : Said) (m : ControlMessage) (x : Session) → value_at s.sessions m.session ≡ Some x → lives_in x.service ≡ b → TakesIfLives b number said m x r then e d → Did r s e d
  lives_did true number said m x at lives h =
      let (made, is) = living x.service lives in
      turns_did h.step.said.opened h.step.said.ended h.step.said.outs (with_step e.moment t number h.step.after) m.session x made h.called (call_after h.called.call m) h.more h.next h.spelled at is h.way_is h.turns h.done
  lives_did false number said m x at lives h = none_did number said m h

  found_did : (found : Option Session) (number : ℕ) (said : Said) (m : ControlMessage) → call_of s e.item.from number m.session ≡ found → TakesFound found number said m r then e d → Did r s e d
  found_did None number said m is h = none_did number said m h
  found_did (Some x) number said m is h = lives_did (lives_in x.service) number said m x (call_number e.item.from number (value_at s.sessions m.session) x is) refl h

  message_did : (b : Bool) (number : ℕ) (said : Said) (m : ControlMessage) → HearsCallMessage b number said m r then e d → Did r s e d
  message_did true number said m h =
      makes_did h.vacancy (h.step.said.ended || h.step.said.left_out) h.step.said.outs (with_step e.moment t number h.step.after) number h.tunnel (call_after (fresh h.tunnel.secret (number_for h.vacancy)) m) h.next h.is_vacancy h.spelled h.makes h.done
  message_did false number said m h = found_did (call_of s e.item.from number m.session) number said m refl h

  step_did : (call : Bool) (number : ℕ) (said : Said) (m : ControlMessage) → TakesStep call number said m r s e t d → Did r s e d
  step_did true number said m h = message_did (is_icrq m) number said m h
  step_did false number said m (spelled, h) = Cuts said.outs t said.cleared number spelled h

module _ (r : Rules) (s : State) (e : Entry) (d : Deed) where
  answer_did : (answer : Answer) (m : ControlMessage) (t : TunnelsState) → HearsAnswer answer m r s e t d → Did r s e d
  answer_did NoTunnel m t h = Idles (Dropped NoSession) refl h
  answer_did NoRequest m t h = Idles Consumed refl h
  answer_did (Steps number said) m t h = step_did r s e d t said.call number said m h

  over_did : (v : Service) (x : Session) (p : DataMessage) → IsDataIn e.item.cut e.item.frame.payload p → call_of s e.item.from p.tunnel p.session ≡ Some x → x.service ≡ v → HearsOver v r s e x p d → Did r s e d
  over_did (Provisioned over) x p came at is h = Idles Consumed refl h
  over_did (Linked m) x p came at is (inl (connected, h)) = HearsOne p x m came at is h
  over_did (Linked m) x p came at is (inr (waits, h)) = Idles Consumed refl h

  for_did : (found : Option Session) (p : DataMessage) → IsDataIn e.item.cut e.item.frame.payload p → call_of s e.item.from p.tunnel p.session ≡ found → HearsFor found r s e p d → Did r s e d
  for_did None p came is h = Idles (Dropped NoSession) refl h
  for_did (Some x) p came is h = over_did x.service x p came is refl h

  pub tunnel_did : HearsTunnel r s e d → Did r s e d
  tunnel_did (inl (neither, h)) = Idles (Dropped Malformed) refl h
  tunnel_did (inr (inl (m, is, h))) = answer_did (heard_by r s e m).answer m (heard_by r s e m).after h
  tunnel_did (inr (inr (p, is, inl (info, carries, h)))) = PassesUp p info is carries h
  tunnel_did (inr (inr (p, is, inr (none, h)))) = for_did (call_of s e.item.from p.tunnel p.session) p is refl h

-- octets do not begin with both messages
pub not_both : (octets : List ℕ) (m : ControlMessage) (d : DataMessage) → IsControl m octets → IsData d octets → ⊥
not_both octets m d h k = omega (arith, h.bits.type, k.type)

-- Tunnels in turn --------------------------------------------------------------------------------------------------------

abbrev pub Act : Type 0
Act = ℕ → TunnelsState → ℕ → Timed

pub tells_its_one : (o : Option Telling) (a : At) (outs outs' : List OutRecord) → TellsIts a o outs → TellsIts a o outs' → outs ≡ outs'
tells_its_one None a outs outs' h k = h ∙ sym k
tells_its_one (Some t) a outs outs' h k = h.1 ∙ sym k.1

-- what they tell is one
pub in_turn_one : (act : Act) (n k : ℕ) (a : At) (now : ℕ) (t : TunnelsState) (outs outs' : List OutRecord) (t' t'' : TunnelsState)
    → TellInTurn act n k a now t outs t' → TellInTurn act n k a now t outs' t'' → (outs ≡ outs') × (t' ≡ t'')
in_turn_one act zero k a now t outs outs' t' t'' h i = (h.0 ∙ sym i.0, h.1 ∙ sym i.1)
in_turn_one act (suc n) k a now t outs outs' t' t'' (first, next, tells, rest, more, are) (first', next', tells', rest', more', are') =
    let one = tells_its_one (act now t k).told a first first' tells.tells tells'.tells in
    let same : next ≡ next' = tells.after ∙ sym tells'.after in
    let moved : TellInTurn act n (k + 1) a now next rest' t'' = subst (λ (u : TunnelsState). TellInTurn act n (k + 1) a now u rest' t'') (sym same) more' in
    let last = in_turn_one act n (k + 1) a now next rest rest' t' t'' more moved in
    (are ∙ ap (λ (os : List OutRecord). os ++ rest) one ∙ ap (λ (os : List OutRecord). first' ++ os) last.0 ∙ sym are', last.1)

-- After the first so many places these are the tunnels and this is what was sent: whatever those after them tell goes on from there.
pub record TellsOn (act : Act) (n : ℕ) (a : At) (now : ℕ) (t₀ t : TunnelsState) (outs₀ outs : List OutRecord) : Type 0 where
  pub sent : List OutRecord
  pub outs_are : outs ≡ outs₀ ++ sent
  pub go_on : (m : ℕ) (more : List OutRecord) (t' : TunnelsState) → TellInTurn act m n a now t more t' → TellInTurn act (n + m) 0 a now t₀ (sent ++ more) t'

pub tells_begin : (act : Act) (a : At) (now : ℕ) (t : TunnelsState) (outs : List OutRecord) → TellsOn act 0 a now t t outs outs
tells_begin act a now t outs = record {
  sent = [];
  outs_are = sym (append-nil outs);
  go_on = λ m more t' h. subst (λ (k : ℕ). TellInTurn act k 0 a now t more t') (sym (zero-add m)) h;
}

module _ (act : Act) (a : At) (now : ℕ) (t₀ t : TunnelsState) (outs₀ outs : List OutRecord) (n : ℕ) where
  pub tells_more : (t₁ : TunnelsState) (outs₁ : List OutRecord) → TellsOn act n a now t₀ t outs₀ outs → ToldOnce a (act now t n) t₁ outs outs₁ → TellsOn act (n + 1) a now t₀ t₁ outs₀ outs₁
  tells_more t₁ outs₁ on told = record {
    sent = on.sent ++ told.more;
    outs_are = more_sent outs₀ on.sent outs told.more outs₁ on.outs_are told.outs_are;
    go_on = λ m more t' h.
        let once : TellInTurn act (suc m) n a now t (told.more ++ more) t' = (told.more, t₁, told.tells, more, h, refl) in
        let all = on.go_on (suc m) (told.more ++ more) t' once in
        let count : n + suc m ≡ n + 1 + m = omega arith in
        subst (λ (outs' : List OutRecord). TellInTurn act (n + 1 + m) 0 a now t₀ outs' t') (sym (append_assoc on.sent told.more more))
        (subst (λ (k : ℕ). TellInTurn act k 0 a now t₀ (on.sent ++ (told.more ++ more)) t') count all);
  }

  pub tells_done : n ≡ 16 → TellsOn act n a now t₀ t outs₀ outs → ToldInTurn act a now t₀ t outs₀ outs
  tells_done all on = record {
    more = on.sent;
    tells = subst (λ (k : ℕ). TellInTurn act k 0 a now t₀ on.sent t) (add-zero n ∙ all)
        (subst (λ (outs' : List OutRecord). TellInTurn act (n + 0) 0 a now t₀ outs' t) (append-nil on.sent) (on.go_on 0 [] t (refl, refl)));
    outs_are = on.outs_are;
  }

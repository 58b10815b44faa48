-- What holds of each change that an entry makes to a shard's state holds of the step.
use Rattle.std.proofs.Common.{◌≡◌, ◌⊎◌, ⊎_elim, inl, inr, ℕ, zero, suc, ◌+◌, ◌*◌, ◌==◌, Bool, true, false, not, ◌&&◌, List, [], ◌∷◌, Option, Some, None, cond, refl, sym, subst, ◌∙◌}
use Rattle.std.specs.Prelude.{fold}
use Rattle.std.specs.List.{range_with_len}
use Rattle.std.proofs.lemmas.Bool.{and_parts}
use Rattle.bng_base.specs.declared.address.Mac.{Mac}
use Rattle.bng_base.specs.declared.address.Peer.{Peer}
use Rattle.bng_base.specs.declared.address.SessionNo.{SessionNo}
use Rattle.bng_base.specs.declared.item.At.{At}
use Rattle.bng_base.specs.declared.item.Entry.{Entry}
use Rattle.bng_base.specs.declared.item.ItemKind.{ItemKind}
use Rattle.bng_base.specs.declared.item.ItemKind.TheVariants.{Access, Core, Tunnel, Verdict, Change, Tick, End}
use Rattle.bng_base.specs.declared.item.OutRecord.{OutRecord}
use Rattle.bng_base.specs.declared.settings.AccessPort.{AccessPort}
use Rattle.bng_base.specs.PppoeGrammar.{PppoeFrame, PppoeTag}
use Rattle.bng_discovery.specs.declared.answers.Answer.{Answer}
use Rattle.bng_discovery.specs.declared.answers.Answer.TheVariants.{Offer, Make, Again, Refuse, Ended, NoSession, Ignore}
use Rattle.bng_discovery.specs.declared.port.PortRules.{PortRules}
use Rattle.bng_l2tp_call.specs.CallState.{CallState}
use Rattle.bng_l2tp_tunnel.specs.TunnelState.{TunnelState}
use Rattle.bng_lns.specs.Timed.{Telling, reminded}
use Rattle.bng_lns.specs.Tunnels.{TunnelsState}
use Rattle.bng_ppp.specs.declared.input.Input.TheVariants.{Start, Timer, Close}
use Rattle.bng_ppp.specs.LinkState.{LinkState}
use Rattle.bng_radius_wire.specs.Grammar.{Packet}
use Rattle.bng_sessions.specs.Sessions.{IsLowestVacant, value_at}
use Rattle.bng_sessions.proofs.SessionLaws.{value_at-with_value}
use Rattle.bng_steps.specs.LinkService.{LinkService}
use Rattle.bng_steps.specs.declared.meters.Meters.{Meters}
use Rattle.bng_steps.specs.declared.rules.Rules.{Rules}
use Rattle.bng_steps.specs.declared.session.Service.{Service}
use Rattle.bng_steps.specs.declared.session.Service.TheVariants.{Provisioned, Linked}
use Rattle.bng_steps.specs.declared.session.Session.{Session}
use Rattle.bng_steps.specs.declared.way.TunnelCall.{TunnelCall}
use Rattle.bng_steps.specs.declared.way.Way.TheVariants.{Call}
use Rattle.bng_steps.specs.Changes.{Applies, Found, HearsChange, Obeys, changed_by, found_by, refusal_of}
use Rattle.bng_steps.specs.Lasting.{IsLapse}
use Rattle.bng_steps.specs.State.{Beside, State, call_of, is_way_of, lives_in, session_of, with_session, with_driven, with_ended, with_tunnels}
use Rattle.bng_steps.specs.Deed.{Deed, at_of, beside_of}
use Rattle.bng_steps.specs.Discovery.{Answers, Discovers, IsNewLink, host_uniq_of, new_session}
use Rattle.bng_steps.specs.Frames.{HearsData, HearsPpp, HearsControl, HearsIn, HearsFrame, HearsAccess, HearsCore}
use Rattle.bng_steps.specs.Calls.{called_session, linked_anew, turned}
use Rattle.bng_steps.specs.Cutting.{cut_at, cut_if, cut_of, cut_off, cut_told, is_cut, numbers_most}
use Rattle.bng_steps.specs.L2tp.{tunnels_most}
use Rattle.bng_steps.specs.Link.{LinkStep, Drives, Told, admin_reset, ended, hears, lost_carrier, nas_request, told, user_request}
use Rattle.bng_steps.specs.Metered.{meters_at, spent_input, spent_output}
use Rattle.bng_steps.specs.Passing.{cause_at, lapsed, looked, passed_at, with_passed}
use Rattle.bng_steps.specs.Step.{Hears, Step}
use Rattle.bng_steps.specs.Timers.{IsTimed, LooksAt, LosesTerm, TimesIn, Reminds, Ticks, Ends, HearsTick, HearsEnd, at_once}
use Rattle.bng_steps.specs.Verdicts.{HearsVerdict, Judges, settled_by}
use Rattle.bng_steps.specs.Wishes.{Decides}
use Rattle.bng_steps.proofs.Changing.{found_is}
use Rattle.bng_steps.proofs.KnownCauses.{lapse_at}
use Rattle.bng_steps.proofs.Naming.{at_number, call_number, living, next_of}
use Rattle.bng_steps.proofs.Tunnelling.{Did, Idles, Speaks, Cuts, Comes, TurnsOne, PartsOne, ConnectsOne, PassesUp, HearsOne, tunnel_did}

-- the subscriber ended the session, or its carrier was lost
abbrev pub IsLost : ℕ → Type 0
IsLost cause = (cause ≡ user_request) ⊎ (cause ≡ lost_carrier)

-- A relation of states that holds where nothing changes, and of two changes one after the other. It holds of a step of the link of a
-- session that stands there, of one of a session that is made, and of one that is lost; of a packet that passes, of a look at a live term that
-- goes on, and of one that ends without its subscriber, whose session's link takes Close, if it has one; of the tunnels, which say nothing of
-- sessions; and of a call that comes, goes on, ends, or is established.
pub record Walks (r : Rules) (R : State → State → Type 0) : Type 1 where
  pub same : (s s' : State) → s' ≡ s → R s s'
  pub then : (s s' s'' : State) → R s s' → R s' s'' → R s s''
  pub driven : (Steps : LinkStep) (e : Entry) (s : State) (n : ℕ) (x x' : Session) (outs : List OutRecord) (cause : Option ℕ) (beside' : Beside) → value_at s.sessions n ≡ Some x
      → Drives r (at_of s e) (beside_of s e) x Steps outs cause x' beside' → R s (with_driven s n x.lease cause x' beside')
  pub made : (Steps : LinkStep) (e : Entry) (s : State) (n : ℕ) (x x' : Session) (outs : List OutRecord) (cause : Option ℕ) (beside' : Beside) → x.lease ≡ None
      → Drives r (at_of s e) (beside_of s e) x Steps outs cause x' beside' → R s (with_driven s n None cause x' beside')
  pub ends : (s : State) (n : ℕ) (x : Session) (m : LinkService) (cause : ℕ) → IsLost cause → value_at s.sessions n ≡ Some x → x.service ≡ Linked m → R s (with_ended s n x.lease cause (ended x))
  pub passes : (s : State) (n : SessionNo) (moment : ℕ) (ms : Meters) → R s (with_passed s n moment ms)
  pub looks : (s : State) (n at : ℕ) (x : Session) → value_at s.sessions n ≡ Some x → R s (with_session s n (looked at x))
  pub lapses : (e : Entry) (s : State) (n : ℕ) (x x' : Session) (outs : List OutRecord) (cause : ℕ) (none : Option ℕ) (beside' : Beside) → value_at s.sessions n ≡ Some x
      → IsLapse cause → Drives r (at_of s e) (beside_of s e) (lapsed x) (told r e Close) outs none x' beside'
      → R s (with_driven s n x.lease (Some cause) x' beside')
  pub lapses_circuit : (e : Entry) (s : State) (n : ℕ) (x : Session) (over : Bool) (cause : ℕ) → value_at s.sessions n ≡ Some x → x.service ≡ Provisioned over → IsLapse cause
      → R s (with_driven s n x.lease (Some cause) (lapsed x) (beside_of s e))
  pub tells : (s : State) (t : TunnelsState) → R s (with_tunnels s t)
  pub comes : (e : Entry) (s : State) (n number : ℕ) (peer : Peer) (t : TunnelState) (c : CallState) (link : LinkState) → IsLowestVacant s.sessions n → IsNewLink 1500 e.item.random link
      → R s (with_session s n (called_session n peer number t c link))
  pub turns : (s : State) (n : ℕ) (x : Session) (c : TunnelCall) (call : CallState) → value_at s.sessions n ≡ Some x → x.way ≡ Call c → R s (with_session s n (turned x c call))
  pub over : (s : State) (n : ℕ) (x : Session) (m : LinkService) (c : TunnelCall) (call : CallState) → value_at s.sessions n ≡ Some x → x.service ≡ Linked m → x.way ≡ Call c
      → R s (with_ended s n x.lease lost_carrier (ended (turned x c call)))
  pub connects : (e : Entry) (s : State) (n : ℕ) (x x' : Session) (m : LinkService) (c : TunnelCall) (call : CallState) (link : LinkState) (outs : List OutRecord) (none : Option ℕ) (beside' : Beside) → value_at s.sessions n ≡ Some x
      → x.service ≡ Linked m → x.way ≡ Call c → IsNewLink 1500 e.item.random link → Drives r (at_of s e) (beside_of s e) (linked_anew (turned x c call) link) (told r e Start) outs none x' beside'
      → R s (with_driven s n x.lease (Some lost_carrier) x' beside')

-- The same by what makes each change: the time that has run out for a session, a frame that its link hears, and discovery, which makes a
-- session where none stood.
pub record WalksBy (r : Rules) (R : State → State → Type 0) : Type 0 where
  pub same : (s s' : State) → s' ≡ s → R s s'
  pub then : (s s' s'' : State) → R s s' → R s' s'' → R s s''
  pub timed : (e : Entry) (s : State) (n : ℕ) (x x' : Session) (outs : List OutRecord) (cause : Option ℕ) (beside' : Beside) → value_at s.sessions n ≡ Some x
      → Drives r (at_of s e) (beside_of s e) x (told r e Timer) outs cause x' beside' → R s (with_driven s n x.lease cause x' beside')
  pub heard : (octets : List ℕ) (e : Entry) (s : State) (n : ℕ) (x x' : Session) (outs : List OutRecord) (cause : Option ℕ) (beside' : Beside) → value_at s.sessions n ≡ Some x
      → Drives r (at_of s e) (beside_of s e) x (hears r e octets) outs cause x' beside' → R s (with_driven s n x.lease cause x' beside')
  pub made : (e : Entry) (s : State) (n port : ℕ) (mac : Mac) (host_uniq : Option (List ℕ)) (link : LinkState) (x' : Session) (outs : List OutRecord) (cause : Option ℕ) (beside' : Beside)
      → IsLowestVacant s.sessions n → IsNewLink 1492 e.item.random link → Drives r (at_of s e) (beside_of s e) (new_session n port mac host_uniq link) (told r e Start) outs cause x' beside' → R s (with_driven s n None cause x' beside')
  pub ends : (s : State) (n : ℕ) (x : Session) (m : LinkService) (cause : ℕ) → IsLost cause → value_at s.sessions n ≡ Some x → x.service ≡ Linked m → R s (with_ended s n x.lease cause (ended x))
  pub passes : (s : State) (n : SessionNo) (moment : ℕ) (ms : Meters) → R s (with_passed s n moment ms)
  pub looks : (s : State) (n at : ℕ) (x : Session) → value_at s.sessions n ≡ Some x → R s (with_session s n (looked at x))
  pub lapses : (e : Entry) (s : State) (n : ℕ) (x x' : Session) (outs : List OutRecord) (cause : ℕ) (none : Option ℕ) (beside' : Beside) → value_at s.sessions n ≡ Some x
      → IsLapse cause → Drives r (at_of s e) (beside_of s e) (lapsed x) (told r e Close) outs none x' beside'
      → R s (with_driven s n x.lease (Some cause) x' beside')
  pub lapses_circuit : (e : Entry) (s : State) (n : ℕ) (x : Session) (over : Bool) (cause : ℕ) → value_at s.sessions n ≡ Some x → x.service ≡ Provisioned over → IsLapse cause
      → R s (with_driven s n x.lease (Some cause) (lapsed x) (beside_of s e))
  pub tells : (s : State) (t : TunnelsState) → R s (with_tunnels s t)
  pub comes : (e : Entry) (s : State) (n number : ℕ) (peer : Peer) (t : TunnelState) (c : CallState) (link : LinkState) → IsLowestVacant s.sessions n → IsNewLink 1500 e.item.random link
      → R s (with_session s n (called_session n peer number t c link))
  pub turns : (s : State) (n : ℕ) (x : Session) (c : TunnelCall) (call : CallState) → value_at s.sessions n ≡ Some x → x.way ≡ Call c → R s (with_session s n (turned x c call))
  pub over : (s : State) (n : ℕ) (x : Session) (m : LinkService) (c : TunnelCall) (call : CallState) → value_at s.sessions n ≡ Some x → x.service ≡ Linked m → x.way ≡ Call c
      → R s (with_ended s n x.lease lost_carrier (ended (turned x c call)))
  pub connects : (e : Entry) (s : State) (n : ℕ) (x x' : Session) (m : LinkService) (c : TunnelCall) (call : CallState) (link : LinkState) (outs : List OutRecord) (none : Option ℕ) (beside' : Beside) → value_at s.sessions n ≡ Some x
      → x.service ≡ Linked m → x.way ≡ Call c → IsNewLink 1500 e.item.random link → Drives r (at_of s e) (beside_of s e) (linked_anew (turned x c call) link) (told r e Start) outs none x' beside'
      → R s (with_driven s n x.lease (Some lost_carrier) x' beside')

pub walks_by : (r : Rules) (R : State → State → Type 0) → Walks r R → WalksBy r R
walks_by r R w = record {
  same = w.same;
  then = w.then;
  timed = λ e s n x x' outs cause beside' at drives. w.driven (told r e Timer) e s n x x' outs cause beside' at drives;
  heard = λ octets e s n x x' outs cause beside' at drives. w.driven (hears r e octets) e s n x x' outs cause beside' at drives;
  made = λ e s n port mac host_uniq link x' outs cause beside' vacant new drives. w.made (told r e Start) e s n (new_session n port mac host_uniq link) x' outs cause beside' refl drives;
  ends = w.ends;
  passes = w.passes;
  looks = w.looks;
  lapses = w.lapses;
  lapses_circuit = w.lapses_circuit;
  tells = w.tells;
  comes = w.comes;
  turns = w.turns;
  over = w.over;
  connects = w.connects;
}

-- and of one that the gateway ends
abbrev pub Stops : (State → State → Type 0) → Type 0
Stops R = (s : State) (n : ℕ) (x : Session) → value_at s.sessions n ≡ Some x → R s (with_ended s n x.lease nas_request (ended x))

module _ (r : Rules) (R : State → State → Type 0) (w : WalksBy r R) where
  -- the live term of a session ends without its subscriber
  pub loses_walk : (v : Service) (cause : ℕ) (e : Entry) (s : State) (n : ℕ) (x : Session) (outs : List OutRecord) (s' : State) → value_at s.sessions n ≡ Some x → x.service ≡ v
      → IsLapse cause → LosesTerm v cause r e s n x outs s' → R s s'
  loses_walk (Provisioned over) cause e s n x outs s' at is lapse (none, next) = subst (R s) (sym next) (w.lapses_circuit e s n x over cause at is lapse)
  loses_walk (Linked m) cause e s n x outs s' at is lapse (x', none, beside', drives, next) = subst (R s) (sym next) (w.lapses e s n x x' outs cause none beside' at lapse drives)

  looks_walk : (o : Option ℕ) (e : Entry) (s : State) (n : ℕ) (x : Session) (outs : List OutRecord) (s' : State) → value_at s.sessions n ≡ Some x
      → cause_at (passed_at s.passed x.number) x.lease e.moment ≡ o → LooksAt o r e s n x outs s' → R s s'
  looks_walk None e s n x outs s' at is (none, next) = subst (R s) (sym next) (w.looks s n (passed_at s.passed x.number) x at)
  looks_walk (Some cause) e s n x outs s' at is h = loses_walk x.service cause e s n x outs s' at refl (lapse_at (passed_at s.passed x.number) x.lease e.moment cause is) h

  times_walk : (v : Service) (e : Entry) (s : State) (n : ℕ) (x : Session) (outs : List OutRecord) (s' : State) → value_at s.sessions n ≡ Some x → TimesIn v r e s n x outs s' → R s s'
  times_walk (Provisioned over) e s n x outs s' at h = looks_walk (cause_at (passed_at s.passed x.number) x.lease e.moment) e s n x outs s' at refl h
  times_walk (Linked m) e s n x outs s' at h =
      let next = with_driven s n x.lease h.cause h.after h.beside in
      w.then s next s' (w.timed e s n x h.after h.first h.cause h.beside at h.drives)
      (looks_walk (cause_at (passed_at s.passed h.after.number) h.after.lease e.moment) e next n h.after h.then s' (value_at-with_value s.sessions n h.after) refl h.looks)

  timed_walk : (e : Entry) (s : State) (n : ℕ) (outs : List OutRecord) (s' : State) → IsTimed r e s n outs s' → R s s'
  timed_walk e s n outs s' (x, at, h) = times_walk x.service e s n x outs s' at h

  ticks_walk : (k : ℕ) (e : Entry) (s : State) (outs : List OutRecord) (s' : State) → Ticks k r e s outs s' → R s s'
  ticks_walk zero e s outs s' h = w.same s s' h.1
  ticks_walk (suc k) e s outs s' (inl h) = w.same s s' h.2
  ticks_walk (suc k) e s outs s' (inr (n, due, first, next, timed, rest, more, are)) = w.then s next s' (timed_walk e s n first next timed) (ticks_walk k e next rest s' more)

  ends_walk : Stops R → (k : ℕ) (e : Entry) (s : State) (outs : List OutRecord) (s' : State) → Ends k r e s outs s' → R s s'
  ends_walk stops zero e s outs s' h = w.same s s' h.1
  ends_walk stops (suc k) e s outs s' (inl h) = w.same s s' h.2
  ends_walk stops (suc k) e s outs s' (inr (n, lowest, x, at, padt, rest, tells, more, are)) =
      w.then s (with_ended s n x.lease nas_request (ended x)) s' (stops s n x at) (ends_walk stops k e (with_ended s n x.lease nas_request (ended x)) rest s' more)

  -- Tunnels ----------------------------------------------------------------------------------------------------------------

  cut_walk : (tunnel : ℕ) (s : State) (n : ℕ) (o : Option Session) → value_at s.sessions n ≡ o → R s (cut_of tunnel s n o)
  cut_walk tunnel s n None at = w.same s s refl
  cut_walk tunnel s n (Some x) at =
      elim (is_cut tunnel x) as (λ (b : Bool). is_cut tunnel x ≡ b → R s (cond b (with_ended s n x.lease lost_carrier (ended x)) s)) [
        | true ↦ λ e.
            let (m, is) = living x.service (and_parts (is_way_of tunnel x.way) (lives_in x.service) e).1 in
            w.ends s n x m lost_carrier (inr refl) at is
        | false ↦ λ e. w.same s s refl
      ] refl

  cuts_walk : (tunnel : ℕ) (ns : List ℕ) (s : State) → R s (fold (cut_at tunnel) s ns)
  cuts_walk tunnel [] s = w.same s s refl
  cuts_walk tunnel (n ∷ ns) s = w.then s (cut_at tunnel s n) (fold (cut_at tunnel) (cut_at tunnel s n) ns) (cut_walk tunnel s n (value_at s.sessions n) refl) (cuts_walk tunnel ns (cut_at tunnel s n))

  cut_off_walk : (tunnel : ℕ) (s : State) → R s (cut_off tunnel s)
  unfolding cut_off
  cut_off_walk tunnel s = cuts_walk tunnel (range_with_len (s.sessions.shard * 1024 + 1) numbers_most) s

  cut_if_walk : (cleared : Bool) (tunnel : ℕ) (s : State) → R s (cut_if cleared tunnel s)
  cut_if_walk cleared tunnel s =
      elim (cleared && not (tunnel == 0)) as (λ (b : Bool). R s (cond b (cut_off tunnel s) s)) [ true ↦ cut_off_walk tunnel s | false ↦ w.same s s refl ]

  cut_told_walk : (o : Option Telling) (s : State) → R s (cut_told o s)
  cut_told_walk None s = w.same s s refl
  cut_told_walk (Some t) s = cut_if_walk t.said.cleared t.number s

  reminds_walk : (n k : ℕ) (a : At) (now : ℕ) (s : State) (outs : List OutRecord) (s' : State) → Reminds n k a now s outs s' → R s s'
  reminds_walk zero k a now s outs s' h = w.same s s' h.1
  reminds_walk (suc n) k a now s outs s' (first, next, one, rest, more, are) =
      let u = with_tunnels s one.tunnels in
      w.then s next s' (w.then s u next (w.tells s one.tunnels) (subst (R u) (sym one.after) (cut_told_walk (reminded now s.tunnels k).told u))) (reminds_walk n (k + 1) a now next rest s' more)

  module _ (s : State) (limited : Bool) (e : Entry) (d : Deed) where
    -- a deed that is this one, which leaves all as it was
    kept : (f : Deed) → d ≡ f → f.next ≡ s → R s d.next
    kept f is next = w.same s d.next (next_of d f is ∙ next)

    after : (s' : State) (f : Deed) → d ≡ f → f.next ≡ s' → R s s' → R s d.next
    after s' f is next h = subst (λ (t : State). R s t) (sym (next_of d f is ∙ next)) h

    answers : (answer : Answer) (number : ℕ) (port : AccessPort) (offers : PortRules) (p : PppoeFrame) (tags : List PppoeTag) → Answers answer r s e number port offers p tags d → R s d.next
    answers Offer number port offers p tags h = kept _ h refl
    answers Make number port offers p tags h =
        after (with_driven s h.session None h.cause h.x h.beside) _ h.done refl (w.made e s h.session number p.src (host_uniq_of tags) h.link h.x h.outs h.cause h.beside h.vacant h.new h.starts)
    answers Again number port offers p tags h = kept _ h.done refl
    answers (Refuse error) number port offers p tags h = kept _ h refl
    answers Ended number port offers p tags h = kept _ h refl
    answers NoSession number port offers p tags h = kept _ h refl
    answers Ignore number port offers p tags h = kept _ h refl

    discovers : (number : ℕ) (p : PppoeFrame) → Discovers r s e number p d → R s d.next
    discovers number p h = answers h.answer number h.port h.offers p h.tags h.does

    packets : (found : Option Session) (info : List ℕ) → HearsData r s e found info d → R s d.next
    packets found info (fate, is, inl (forwards, up)) =
        let ms : Meters = spent_input (meters_at s.meters up.x.number) e.moment up.header.total in
        after (with_passed s up.x.number e.moment ms) _ up.done refl (w.passes s up.x.number e.moment ms)
    packets found info (fate, is, inr (stays, h)) = kept _ h refl

    ppp : (n : ℕ) (x : Session) (made : LinkService) (octets : List ℕ) → value_at s.sessions n ≡ Some x → HearsPpp r s e n x made octets d → R s d.next
    ppp n x made octets at (inl (over, h)) = kept _ h refl
    ppp n x made octets at (inr (live, outs, cause, x', beside', drives, h)) =
        after (with_driven s n x.lease cause x' beside') _ h refl (w.heard octets e s n x x' outs cause beside' at drives)

    control : (v : Service) (x : Session) (p : PppoeFrame) → value_at s.sessions p.session ≡ Some x → x.service ≡ v → HearsControl v r s e x p d → R s d.next
    control (Provisioned over) x p at is h = kept _ h refl
    control (Linked made) x p at is (inl (padt, inl (over, h))) = kept _ h refl
    control (Linked made) x p at is (inl (padt, inr (live, h))) = after (with_ended s p.session x.lease user_request (ended x)) _ h refl (w.ends s p.session x made user_request (inl refl) at is)
    control (Linked made) x p at is (inr (other, h)) = ppp p.session x made p.payload at h

    named : (number : ℕ) (p : PppoeFrame) (found : Option Session) → session_of s number p.src p.session ≡ found → HearsIn found r s e p d → R s d.next
    named number p None is h = kept _ h refl
    named number p (Some x) is h = control x.service x p (at_number number p.src (value_at s.sessions p.session) x is) refl h

    frame : (number : ℕ) (p : PppoeFrame) → HearsFrame r s e number p d → R s d.next
    frame number p (inl (info, carries, h)) = packets (session_of s number p.src p.session) info h
    frame number p (inr (inl (names, no_packet, h))) = named number p (session_of s number p.src p.session) refl h
    frame number p (inr (inr (before, h))) = discovers number p h

    access : (number : ℕ) → HearsAccess r s e number d → R s d.next
    access number (inl (none, h)) = kept _ h refl
    access number (inr (p, is, h)) = frame number p h

    core : HearsCore r s e d → R s d.next
    core (inl (none, h)) = kept _ h refl
    core (inr (v, is, (fate, decides, inl (forwards, down)))) =
        let ms : Meters = spent_output (meters_at s.meters down.x.number) e.moment v.total in
        after (with_passed s down.x.number e.moment ms) _ down.done refl (w.passes s down.x.number e.moment ms)
    core (inr (v, is, (fate, decides, inr (stays, h)))) = kept _ h refl

    tick : HearsTick r s e d → R s d.next
    tick (first, next, spoken, rest, s', ticks, h) = after s' _ h refl (w.then s next s' (reminds_walk tunnels_most 0 (at_of s e) e.moment s first next spoken) (ticks_walk at_once e next rest s' ticks))

    -- of a datagram of the gateway's end for tunnels
    tunnel : Did r s e d → R s d.next
    tunnel (Idles fate goes h) = kept _ h refl
    tunnel (Speaks frames t spelled h) = after (with_tunnels s t) _ h refl (w.tells s t)
    tunnel (Cuts frames t cleared number spelled h) =
        let u = with_tunnels s t in after (cut_if cleared number u) _ h refl (w.then s u (cut_if cleared number u) (w.tells s t) (cut_if_walk cleared number u))
    tunnel (Comes frames t n number peer_tunnel call link spelled vacant new h) =
        let u = with_tunnels s t in
        let y = called_session n e.item.from number peer_tunnel call link in
        after (with_session u n y) _ h refl (w.then s u (with_session u n y) (w.tells s t) (w.comes e u n number e.item.from peer_tunnel call link vacant new))
    tunnel (TurnsOne frames t n x m c call spelled at is way h) =
        let u = with_tunnels s t in after (with_session u n (turned x c call)) _ h refl (w.then s u (with_session u n (turned x c call)) (w.tells s t) (w.turns u n x c call at way))
    tunnel (PartsOne frames t n x m c call spelled at is way h) =
        let u = with_tunnels s t in
        let v = with_ended u n x.lease lost_carrier (ended (turned x c call)) in
        after v _ h refl (w.then s u v (w.tells s t) (w.over u n x m c call at is way))
    tunnel (ConnectsOne frames t n x x' m c call link outs none beside' spelled at is way new drives h) =
        let u = with_tunnels s t in
        let v = with_driven u n x.lease (Some lost_carrier) x' beside' in
        after v _ h refl (w.then s u v (w.tells s t) (w.connects e u n x x' m c call link outs none beside' at is way new drives))
    tunnel (PassesUp p info came carries h) = packets (call_of s e.item.from p.tunnel p.session) info h
    tunnel (HearsOne p x m came at is h) = ppp p.session x m p.ppp (call_number e.item.from p.tunnel (value_at s.sessions p.session) x at) h

    -- of an End
    pub end_walks_by : Stops R → HearsEnd r s e d → R s d.next
    end_walks_by stops (first, next, all, rest, t, spoken, h) = after (with_tunnels next t) _ h refl (w.then s next (with_tunnels next t) (ends_walk stops at_once e s first next all) (w.tells next t))

    -- Of a request for a change: where the relation holds of a term that is under another profile and within other limits, it holds of that.
    module _ (recasts : (p : Packet) (f : Found) → found_by r s p.attributes ≡ Some f → R s (changed_by r s e p f)) where
      applied : (p : Packet) (f : Found) → found_by r s p.attributes ≡ Some f → Applies r s e p f d → R s d.next
      applied p f is (inl (code, h)) = after (changed_by r s e p f) _ h refl (recasts p f is)
      applied p f is (inr (code, outs, s', loses, h)) =
          after s' _ h refl (loses_walk f.session.service admin_reset e s f.term.term.session.0 f.session outs s' (found_is r s p.attributes f is).at refl (inr (inr refl)) loses)

      obeyed : (cause : Option ℕ) (found : Option Found) (p : Packet) → found_by r s p.attributes ≡ found → Obeys cause found r s e p d → R s d.next
      obeyed (Some cause) found p is h = kept _ h refl
      obeyed None None p is h = kept _ h refl
      obeyed None (Some f) p is h = applied p f is h

      pub change_walks_by : HearsChange r s e d → R s d.next
      change_walks_by (inl (none, h)) = kept _ h refl
      change_walks_by (inr (p, reads, h)) = obeyed (refusal_of r p) (found_by r s p.attributes) p refl h

    -- of each other entry that is no verdict
    pub hears_walks_by : (kind : ItemKind) → Hears kind r s limited e d → (kind ≡ Verdict) ⊎ ((kind ≡ End) ⊎ ((kind ≡ Change) ⊎ R s d.next))
    hears_walks_by (Access number) h = inr (inr (inr (access number h)))
    hears_walks_by Core h = inr (inr (inr (core h)))
    hears_walks_by Tunnel h = inr (inr (inr (tunnel (tunnel_did r s e d h))))
    hears_walks_by Verdict h = inl refl
    hears_walks_by Change h = inr (inr (inl refl))
    hears_walks_by Tick h = inr (inr (inr (tick h)))
    hears_walks_by End h = inr (inl refl)

-- the same of a relation that holds of each step of a link
module _ (r : Rules) (R : State → State → Type 0) (w : Walks r R) (s : State) (limited : Bool) (e : Entry) (d : Deed) where
  pub end_walks : Stops R → HearsEnd r s e d → R s d.next
  end_walks stops h = end_walks_by r R (walks_by r R w) s limited e d stops h

  pub change_walks : ((p : Packet) (f : Found) → found_by r s p.attributes ≡ Some f → R s (changed_by r s e p f)) → HearsChange r s e d → R s d.next
  change_walks recasts h = change_walks_by r R (walks_by r R w) s limited e d recasts h

  pub hears_walks : (kind : ItemKind) → Hears kind r s limited e d → (kind ≡ Verdict) ⊎ ((kind ≡ End) ⊎ ((kind ≡ Change) ⊎ R s d.next))
  hears_walks kind h = hears_walks_by r R (walks_by r R w) s limited e d kind h

-- The step makes such changes, or a verdict tells the link of a session something, or a request changes a term: where the relation holds of
-- that too, it holds of the step.
module _ (r : Rules) (R : State → State → Type 0) (w : WalksBy r R) (stops : Stops R) (s : State) (limited : Bool) (d : Deed)
    (judged : (t : Told) → Decides r limited d.entry.item.frame.payload d.entry.claim (Some t) → (h : Judges r s d.entry t d) → R s (settled_by s d.entry.item.target h.x h.question t d.entry.moment h.after h.beside t.lease))
    (changes : d.entry.item.kind ≡ Change → HearsChange r s d.entry d → R s d.next) where
  verdict_walks_by : HearsVerdict r s d.entry limited d → R s d.next
  verdict_walks_by (inl (asks, t, decides, h)) = subst (R s) (sym (next_of d _ h.done)) (judged t decides h)
  verdict_walks_by (inr (inl (asks, decides, h))) = w.same s d.next (next_of d _ h)
  verdict_walks_by (inr (inr (other, none, h))) = w.same s d.next (next_of d _ h)

  pub step_walks_by : Step r s limited d → R s d.next
  step_walks_by h =
      let heard_as : (kind : ItemKind) → d.entry.item.kind ≡ kind → Hears kind r s limited d.entry d = λ kind is. subst (λ (k : ItemKind). Hears k r s limited d.entry d) is h.hears in
      ⊎_elim
      (λ (is : d.entry.item.kind ≡ Verdict). verdict_walks_by (heard_as Verdict is))
      (λ (rest : (d.entry.item.kind ≡ End) ⊎ ((d.entry.item.kind ≡ Change) ⊎ R s d.next)). ⊎_elim
      (λ (is : d.entry.item.kind ≡ End). end_walks_by r R w s limited d.entry d stops (heard_as End is))
      (λ (last : (d.entry.item.kind ≡ Change) ⊎ R s d.next). ⊎_elim (λ (is : d.entry.item.kind ≡ Change). changes is (heard_as Change is)) (λ (walks : R s d.next). walks) last)
      rest)
      (hears_walks_by r R w s limited d.entry d d.entry.item.kind h.hears)

-- A question that a step asks is what its entry claims.
use Rattle.std.proofs.Common.{◌≡◌, ◌⊎◌, inl, inr, ℕ, zero, suc, ◌-◌, ◌^◌, ◌<◌, ◌≤◌, Bool, true, false, List, Option, Some, None, refl, sym, ap, subst, ◌∙◌, arith, [], ◌∷◌, ◌+◌, ◌*◌, not, ◌&&◌, if◌then◌else◌}
use Rattle.std.specs.Prelude.{◌==◌, fold}
use Rattle.std.specs.List.{range_with_len}
use Rattle.std.specs.Option.{option_map, option_and_then}
use Rattle.std.specs.Str.{bytes_eq}
use Rattle.std.proofs.lemmas.Bool.{and_parts, eqb-true, false≢true}
use Rattle.std.proofs.lemmas.Slice.Eq.{bytes_eq-Decides}
use Rattle.bng_base.specs.declared.address.Ip4.{Ip4}
use Rattle.bng_base.specs.declared.address.Mac.{Mac}
use Rattle.bng_base.specs.declared.address.Peer.{Peer}
use Rattle.bng_base.specs.declared.item.Entry.{Entry}
use Rattle.bng_base.specs.declared.item.ItemKind.{ItemKind}
use Rattle.bng_base.specs.declared.item.ItemKind.TheVariants.{Access, Core, Tunnel, Verdict, Change, Tick, End}
use Rattle.bng_base.specs.declared.item.OutRecord.{OutRecord}
use Rattle.bng_base.specs.declared.settings.AccessPort.{AccessPort}
use Rattle.bng_base.specs.PppoeGrammar.{PppoeFrame, PppoeTag}
use Rattle.bng_coa.specs.Wants.{wanted}
use Rattle.bng_discovery.specs.declared.answers.Answer.{Answer}
use Rattle.bng_discovery.specs.declared.answers.Answer.TheVariants.{Offer, Make, Again, Refuse, Ended, NoSession, Ignore}
use Rattle.bng_discovery.specs.declared.port.PortRules.{PortRules}
use Rattle.bng_forward.specs.Fates.{IsFrame}
use Rattle.bng_ppp.specs.declared.input.Input.TheVariants.{Start, Timer, Close}
use Rattle.bng_ppp.specs.Claims.{Claim}
use Rattle.bng_ppp.specs.Phases.{is_begun}
use Rattle.bng_ppp.specs.LinkRelation.{LinkSaid}
use Rattle.bng_ppp.proofs.Claimed.{octets_say}
use Rattle.bng_ppp.proofs.LinkQuestions.{only_frames_ask}
use Rattle.bng_sessions.specs.Sessions.{value_at}
use Rattle.bng_sessions.proofs.SessionLaws.{value_at-with_value}
use Rattle.bng_steps.specs.Claiming.{IsAskedBy, CarriesOn}
use Rattle.bng_l2tp_call.specs.CallState.{CallState}
use Rattle.bng_lns.specs.Places.{same_peer}
use Rattle.bng_lns.specs.Timed.{Telling, reminded}
use Rattle.bng_steps.specs.declared.way.TunnelCall.{TunnelCall}
use Rattle.bng_steps.specs.declared.way.Way.{Way}
use Rattle.bng_steps.specs.declared.way.Way.TheVariants.{Port, Call}
use Rattle.bng_steps.specs.Calls.{called_session, linked_anew, turned}
use Rattle.bng_steps.specs.Cutting.{cut_at, cut_if, cut_of, cut_off, cut_told, is_cut, numbers_most}
use Rattle.bng_steps.specs.L2tp.{tunnels_most}
use Rattle.bng_steps.specs.LinkService.{LinkService, Question}
use Rattle.bng_steps.specs.declared.rules.Rules.{Rules}
use Rattle.bng_base.specs.declared.item.At.{At}
use Rattle.bng_steps.specs.declared.session.Lease.{Lease}
use Rattle.bng_steps.specs.declared.session.Service.{Service}
use Rattle.bng_steps.specs.declared.session.Service.TheVariants.{Provisioned, Linked}
use Rattle.bng_steps.specs.declared.session.Session.{Session}
use Rattle.bng_steps.specs.State.{Beside, State, is_on, session_of, where_on, with_session, with_driven, with_ended, with_tunnels, call_of, circuit_in, is_on_way, is_call_of, is_over_way, where_over}
use Rattle.bng_steps.specs.Changes.{lease_after, place_of}
use Rattle.bng_steps.specs.Deed.{Deed, arrival_in, at_of, beside_of}
use Rattle.bng_steps.specs.Discovery.{Answers, Makes, host_uniq_of, new_session}
use Rattle.bng_steps.specs.Frames.{HearsData, HearsPpp, HearsControl, HearsIn, HearsFrame, HearsAccess, HearsCore}
use Rattle.bng_steps.specs.Granting.{IsSound}
use Rattle.bng_steps.specs.Link.{LinkStep, Drives, Told, admin_reset, count_after, ended, ended_service, hears, nas_request, next_question, question_after, settles, told, lost_carrier}
use Rattle.bng_steps.specs.Passing.{cause_at, lapsed, looked, passed_at}
use Rattle.bng_steps.specs.Questions.{Asking, asking_of, last_asking, last_asking_at, last_in}
use Rattle.bng_steps.specs.Step.{Hears, Step}
use Rattle.bng_steps.specs.Timers.{IsTimed, LooksAt, LosesTerm, TimesIn, Ticks, Ends, at_once, Reminds}
use Rattle.bng_steps.specs.Verdicts.{HearsVerdict, Judges, next_lease, settled_by}
use Rattle.bng_steps.proofs.Changing.{Comes as Requests, change_comes}
use Rattle.bng_steps.proofs.GrantLaws.{if_some, last_there, last_with, step_last}
use Rattle.bng_steps.proofs.LinkSteps.{verdict_of, verdict_steps}
use Rattle.bng_steps.proofs.Naming.{at_number, same_made, call_number, call_stays}
use Rattle.bng_steps.proofs.QuestionLaws.{asks_same, link_asks_same}
use Rattle.bng_steps.proofs.Tunnelling.{Did, Idles, Speaks, Cuts, Comes, TurnsOne, PartsOne, ConnectsOne, PassesUp, HearsOne, tunnel_did}
use Rattle.bng_steps.proofs.Values.{none_some, same_some}

-- Sessions ----------------------------------------------------------------------------------------------------------------

-- a way at an access port
at_port : (port : ℕ) (mac : Mac) (way : Way) → is_on_way port mac way ≡ true → way ≡ Port port mac
at_port port mac (Port p m) e =
    let parts = and_parts (p == port) (bytes_eq m.0 mac.0) e in
    let octets : m.0 ≡ mac.0 = (bytes_eq-Decides m.0 mac.0).0 parts.1 in
    let number : p ≡ port = eqb-true p port parts.0 in
    λ i. Port (number i) (record { 0 = octets i })
at_port port mac (Call c) e = absurd (false≢true e)

-- the session of a frame is on the frame's circuit
on_circuit : (port : ℕ) (mac : Mac) (found : Option Session) (x : Session) → where_on port mac found ≡ Some x → x.way ≡ Port port mac
on_circuit port mac None x is = absurd (none_some x is)
on_circuit port mac (Some y) x is =
    let found = if_some (is_on port mac y) (Some y) x is in
    ap (λ (z : Session). z.way) (sym (same_some y x found.1)) ∙ at_port port mac y.way found.0

same_peer_is : (a b : Peer) → same_peer a b ≡ true → a ≡ b
same_peer_is a b e =
    let parts = and_parts (a.ip.0 == b.ip.0) (a.port == b.port) e in
    let ip = eqb-true a.ip.0 b.ip.0 parts.0 in
    let port = eqb-true a.port b.port parts.1 in
    λ i. record { ip = record { 0 = ip i }; port = port i }

-- a way over a call of this peer's tunnel
record OverCall (peer : Peer) (tunnel : ℕ) (way : Way) : Type 0 where
  called : TunnelCall
  is : way ≡ Call called
  from : called.peer ≡ peer
  number : called.tunnel.0 ≡ tunnel

over_call : (peer : Peer) (tunnel : ℕ) (way : Way) → is_over_way peer tunnel way ≡ true → OverCall peer tunnel way
over_call peer tunnel (Port p m) e = absurd (false≢true e)
over_call peer tunnel (Call c) e =
    let parts = and_parts (same_peer c.peer peer) (c.tunnel.0 == tunnel) e in
    record { called = c; is = refl; from = same_peer_is c.peer peer parts.0; number = eqb-true c.tunnel.0 tunnel parts.1 }

-- the session of a data message is over its call
on_call : (peer : Peer) (tunnel : ℕ) (found : Option Session) (x : Session) → where_over peer tunnel found ≡ Some x → OverCall peer tunnel x.way
on_call peer tunnel None x is = absurd (none_some x is)
on_call peer tunnel (Some y) x is =
    let found = if_some (is_call_of peer tunnel y) (Some y) x is in
    subst (λ (z : Session). OverCall peer tunnel z.way) (same_some y x found.1) (over_call peer tunnel y.way found.0)

-- What a link asked last --------------------------------------------------------------------------------------------------

-- it is what it asks now, or what it asked before
asks_or_keeps : (n : ℕ) (claim : Option Claim) (begun : Bool) (last : Option Question) (q : Question) → question_after n claim begun last ≡ Some q
    → ((c : Claim) × (claim ≡ Some c) × (q ≡ record { number = next_question n; claim = c })) ⊎ (last ≡ Some q)
asks_or_keeps n (Some c) begun last q e = inl (c, refl, sym (same_some _ q e))
asks_or_keeps n None true last q e = inr e
asks_or_keeps n None false last q e = absurd (none_some q e)

module _ (r : Rules) (a : At) (beside : Beside) (x : Session) (Steps : LinkStep) (outs : List OutRecord) (cause : Option ℕ) (x' : Session) (beside' : Beside)
    (h : Drives r a beside x Steps outs cause x' beside') where
  drives_last : (q : Question) → last_in x'.service ≡ Some q
      → ((c : Claim) × (h.says.asked ≡ Some c) × (q ≡ record { number = next_question beside.question_count; claim = c })) ⊎ (h.made.question ≡ Some q)
  drives_last q is = asks_or_keeps beside.question_count h.says.asked (is_begun h.link.auth) h.made.question q (ap (λ (y : Session). last_in y.service) (sym h.session) ∙ is)

  silent_last : h.says.asked ≡ None → (q : Question) → last_in x'.service ≡ Some q → h.made.question ≡ Some q
  silent_last silent q is = elim (drives_last q is) [ inl new ↦ absurd (none_some new.0 (sym silent ∙ new.1)) | inr before ↦ before ]

  same_asking : (q : Question) → asking_of x' q ≡ asking_of x q
  same_asking q = ap (λ (y : Session). asking_of y q) h.session ∙ link_asks_same x h.made beside.question_count h.says h.link q

-- States ------------------------------------------------------------------------------------------------------------------

-- what was asked last was so before
abbrev Keeps : State → State → Type 0
Keeps s s' = (n : ℕ) (a : Asking) → last_asking_at s' n ≡ Some a → last_asking_at s n ≡ Some a

same_keeps : (s s' : State) → s' ≡ s → Keeps s s'
same_keeps s s' e n a is = ap (λ (t : State). last_asking_at t n) (sym e) ∙ is

chain_keeps : (s s' s'' : State) → Keeps s s' → Keeps s' s'' → Keeps s s''
chain_keeps s s' s'' g h n a is = g n a (h n a is)

with_keeps : (s : State) (n : ℕ) (y : Session) → ((q : Question) → last_in y.service ≡ Some q → last_asking_at s n ≡ Some (asking_of y q)) → Keeps s (with_session s n y)
with_keeps s n y own m a is = elim (last_with s n y m a is) [
  | inl here ↦ ap (λ (i : ℕ). last_asking_at s i) here.0 ∙ own here.1 here.2 ∙ ap (λ (b : Asking). Some b) here.3
  | inr before ↦ before
]

same_last : (v : Service) → last_in v ≡ last_in (ended_service v)
same_last (Provisioned l) = refl
same_last (Linked m) = refl

question_of : Service → Option Question
question_of (Provisioned l) = None
question_of (Linked m) = m.question

-- a session whose call goes on keeps its question
turned_last : (s : State) (n : ℕ) (x : Session) (c : TunnelCall) (call : CallState) → value_at s.sessions n ≡ Some x → x.way ≡ Call c → (q : Question) → last_in x.service ≡ Some q → last_asking_at s n ≡ Some (asking_of (turned x c call) q)
turned_last s n x c call at way q is =
    ap (option_and_then last_asking) at ∙ ap (option_map (asking_of x)) is ∙ ap (λ (b : Asking). Some b) (sym (asks_same x (turned x c call) q refl (call_stays x c call way)))

-- a session that ends keeps its question
over_keeps : (s : State) (n : ℕ) (x : Session) → value_at s.sessions n ≡ Some x → Keeps s (with_session s n (ended x))
over_keeps s n x at = with_keeps s n (ended x) (λ q is. ap (option_and_then last_asking) at ∙ ap (option_map (asking_of x)) (same_last x.service ∙ is))

-- and so does one whose link asks nothing
silent_keeps : (r : Rules) (s : State) (n : ℕ) (a : At) (beside : Beside) (x : Session) (Steps : LinkStep) (outs : List OutRecord) (cause : Option ℕ) (x' : Session) (beside' : Beside) → value_at s.sessions n ≡ Some x
    → (h : Drives r a beside x Steps outs cause x' beside') → h.says.asked ≡ None → (q : Question) → last_in x'.service ≡ Some q → last_asking_at s n ≡ Some (asking_of x' q)
silent_keeps r s n a beside x Steps outs cause x' beside' at h silent q is =
    last_there s n x at h.made h.is_made q (silent_last r a beside x Steps outs cause x' beside' h silent q is)
    ∙ ap (λ (b : Asking). Some b) (sym (same_asking r a beside x Steps outs cause x' beside' h q))

-- those of a tunnel that was cleared keep theirs
cut_keeps : (tunnel : ℕ) (s : State) (n : ℕ) (o : Option Session) → value_at s.sessions n ≡ o → Keeps s (cut_of tunnel s n o)
cut_keeps tunnel s n None at = same_keeps s s refl
cut_keeps tunnel s n (Some x) at =
    elim (is_cut tunnel x) as (λ (b : Bool). Keeps s (if b then with_ended s n x.lease lost_carrier (ended x) else s)) [ true ↦ over_keeps s n x at | false ↦ same_keeps s s refl ]

cuts_keep : (tunnel : ℕ) (ns : List ℕ) (s : State) → Keeps s (fold (cut_at tunnel) s ns)
cuts_keep tunnel [] s = same_keeps s s refl
cuts_keep tunnel (n ∷ ns) s =
    chain_keeps s (cut_at tunnel s n) (fold (cut_at tunnel) (cut_at tunnel s n) ns) (cut_keeps tunnel s n (value_at s.sessions n) refl) (cuts_keep tunnel ns (cut_at tunnel s n))

cut_off_keeps : (tunnel : ℕ) (s : State) → Keeps s (cut_off tunnel s)
unfolding cut_off
cut_off_keeps tunnel s = cuts_keep tunnel (range_with_len (s.sessions.shard * 1024 + 1) numbers_most) s

cut_if_keeps : (cleared : Bool) (tunnel : ℕ) (s : State) → Keeps s (cut_if cleared tunnel s)
cut_if_keeps cleared tunnel s = elim (cleared && not (tunnel == 0)) as (λ (b : Bool). Keeps s (if b then cut_off tunnel s else s)) [ true ↦ cut_off_keeps tunnel s | false ↦ same_keeps s s refl ]

cut_told_keeps : (o : Option Telling) (s : State) → Keeps s (cut_told o s)
cut_told_keeps None s = same_keeps s s refl
cut_told_keeps (Some t) s = cut_if_keeps t.said.cleared t.number s

reminds_keep : (n k : ℕ) (a : At) (now : ℕ) (s : State) (outs : List OutRecord) (s' : State) → Reminds n k a now s outs s' → Keeps s s'
reminds_keep zero k a now s outs s' h = same_keeps s s' h.1
reminds_keep (suc n) k a now s outs s' (first, next, one, rest, more, are) =
    let u = with_tunnels s one.tunnels in
    chain_keeps s next s' (subst (Keeps s) (sym one.after) (chain_keeps s u (cut_told (reminded now s.tunnels k).told u) (λ m b is. is) (cut_told_keeps (reminded now s.tunnels k).told u))) (reminds_keep n (k + 1) a now next rest s' more)

-- and so does one that is leased in another way
leased_keeps : (s : State) (n : ℕ) (x : Session) (lease : Option Lease) → value_at s.sessions n ≡ Some x → Keeps s (with_session s n (record x { lease = lease }))
leased_keeps s n x lease at = with_keeps s n (record x { lease = lease }) (λ q is. ap (option_and_then last_asking) at ∙ ap (option_map (asking_of x)) is)

module _ (r : Rules) (e : Entry) where
  -- the live term of a session ends, and its link takes Close, if it has one
  loses_keep : (v : Service) (cause : ℕ) (s : State) (n : ℕ) (x : Session) (outs : List OutRecord) (s' : State) → value_at s.sessions n ≡ Some x → LosesTerm v cause r e s n x outs s' → Keeps s s'
  loses_keep (Provisioned over) cause s n x outs s' at (none, next) = subst (Keeps s) (sym next) (leased_keeps s n x None at)
  loses_keep (Linked m) cause s n x outs s' at (y, none, beside', drives, next) =
      let silent = only_frames_ask r.link e.moment e.item.random Close drives.made.link drives.says drives.link drives.steps refl in
      subst (Keeps s) (sym next) (with_keeps s n y (λ q is.
      last_there s n x at drives.made drives.is_made q (silent_last r (at_of s e) (beside_of s e) (lapsed x) (told r e Close) outs none y beside' drives silent q is)
      ∙ ap (λ (b : Asking). Some b) (sym (same_asking r (at_of s e) (beside_of s e) (lapsed x) (told r e Close) outs none y beside' drives q))))

  looks_keep : (o : Option ℕ) (s : State) (n : ℕ) (x : Session) (outs : List OutRecord) (s' : State) → value_at s.sessions n ≡ Some x → LooksAt o r e s n x outs s' → Keeps s s'
  looks_keep None s n x outs s' at (none, next) =
      let y = looked (passed_at s.passed x.number) x in
      subst (Keeps s) (sym next) (with_keeps s n y (λ q is. ap (option_and_then last_asking) at ∙ ap (option_map (asking_of x)) is))
  looks_keep (Some cause) s n x outs s' at h = loses_keep x.service cause s n x outs s' at h

  times_keep : (v : Service) (s : State) (n : ℕ) (x : Session) (outs : List OutRecord) (s' : State) → value_at s.sessions n ≡ Some x → TimesIn v r e s n x outs s' → Keeps s s'
  times_keep (Provisioned over) s n x outs s' at h = looks_keep (cause_at (passed_at s.passed x.number) x.lease e.moment) s n x outs s' at h
  times_keep (Linked m) s n x outs s' at h =
      let next = with_driven s n x.lease h.cause h.after h.beside in
      chain_keeps s next s'
      (with_keeps s n h.after (silent_keeps r s n (at_of s e) (beside_of s e) x (told r e Timer) h.first h.cause h.after h.beside at h.drives
      (only_frames_ask r.link e.moment e.item.random Timer h.drives.made.link h.drives.says h.drives.link h.drives.steps refl)))
      (looks_keep (cause_at (passed_at s.passed h.after.number) h.after.lease e.moment) next n h.after h.then s' (value_at-with_value s.sessions n h.after) h.looks)

  timed_keeps : (s : State) (n : ℕ) (outs : List OutRecord) (s' : State) → IsTimed r e s n outs s' → Keeps s s'
  timed_keeps s n outs s' (x, at, h) = times_keep x.service s n x outs s' at h

  ticks_keep : (k : ℕ) (s : State) (outs : List OutRecord) (s' : State) → Ticks k r e s outs s' → Keeps s s'
  ticks_keep zero s outs s' h = same_keeps s s' h.1
  ticks_keep (suc k) s outs s' (inl h) = same_keeps s s' h.2
  ticks_keep (suc k) s outs s' (inr (n, due, first, next, timed, rest, more, are)) = chain_keeps s next s' (timed_keeps s n first next timed) (ticks_keep k next rest s' more)

  ends_keep : (k : ℕ) (s : State) (outs : List OutRecord) (s' : State) → Ends k r e s outs s' → Keeps s s'
  ends_keep zero s outs s' h = same_keeps s s' h.1
  ends_keep (suc k) s outs s' (inl h) = same_keeps s s' h.2
  ends_keep (suc k) s outs s' (inr (n, lowest, x, at, padt, rest, with_padt, more, are)) =
      let next = with_ended s n x.lease nas_request (ended x) in
      chain_keeps s next s' (over_keeps s n x at) (ends_keep k next rest s' more)

-- Entries -----------------------------------------------------------------------------------------------------------------

module _ (r : Rules) (s : State) (limited : Bool) (d : Deed) where
  abbrev Heard : Type 0
  Heard = (n : ℕ) (a : Asking) → last_asking_at d.next n ≡ Some a → (last_asking_at s n ≡ Some a) ⊎ IsAskedBy r s d n a

  after : (f : Deed) → d ≡ f → (n : ℕ) (a : Asking) → last_asking_at d.next n ≡ Some a → last_asking_at f.next n ≡ Some a
  after f is n a e = ap (λ (g : Deed). last_asking_at g.next n) (sym is) ∙ e

  keeping : (f : Deed) → d ≡ f → Keeps s f.next → Heard
  keeping f is keeps n a e = inl (keeps n a (after f is n a e))

  still : (f : Deed) → d ≡ f → f.next ≡ s → Heard
  still f is next = keeping f is (same_keeps s f.next next)

  makes : (number : ℕ) (port : AccessPort) (offers : PortRules) (p : PppoeFrame) (tags : List PppoeTag) → Makes r s d.entry number port offers p tags d → Heard
  makes number port offers p tags h =
      keeping _ h.done (with_keeps s h.session h.x (λ q is.
      absurd (none_some q (ap question_in h.starts.is_made
      ∙ silent_last r (at_of s d.entry) (beside_of s d.entry) (new_session h.session number p.src (host_uniq_of tags) h.link) (told r d.entry Start) h.outs h.cause h.x h.beside h.starts
      (only_frames_ask r.link d.entry.moment d.entry.item.random Start h.starts.made.link h.starts.says h.starts.link h.starts.steps refl) q is))))
    where
      question_in : Service → Option Question
      question_in (Provisioned l) = None
      question_in (Linked m) = m.question

  answers : (answer : Answer) (number : ℕ) (port : AccessPort) (offers : PortRules) (p : PppoeFrame) (tags : List PppoeTag) → Answers answer r s d.entry number port offers p tags d → Heard
  answers Offer number port offers p tags h = still _ h refl
  answers Make number port offers p tags h = makes number port offers p tags h
  answers Again number port offers p tags h = still _ h.done refl
  answers (Refuse error) number port offers p tags h = still _ h refl
  answers Ended number port offers p tags h = still _ h refl
  answers NoSession number port offers p tags h = still _ h refl
  answers Ignore number port offers p tags h = still _ h refl

  packets : (found : Option Session) (info : List ℕ) → HearsData r s d.entry found info d → Heard
  packets found info (fate, is, inl (forwards, up)) = keeping _ up.done (λ n a is. is)
  packets found info (fate, is, inr (stays, h)) = still _ h refl

  core : HearsCore r s d.entry d → Heard
  core (inl (none, h)) = still _ h refl
  core (inr (v, is, (fate, decides, inl (forwards, down)))) = keeping _ down.done (λ n a is. is)
  core (inr (v, is, (fate, decides, inr (stays, h)))) = still _ h refl

  -- a verdict asks nothing, whether a term begins or not
  module _ (t : Told) (h : Judges r s d.entry t d) where
    verdict_keeps : (q : Question) → last_in h.after.service ≡ Some q → last_asking_at s d.entry.item.target ≡ Some (asking_of h.after q)
    verdict_keeps =
        silent_keeps r s d.entry.item.target (at_of s d.entry) (beside_of s d.entry) h.x (settles r d.entry t) h.outs h.cause h.after h.beside h.found h.drives
        (only_frames_ask r.link d.entry.moment d.entry.item.random (verdict_of t) h.drives.made.link h.drives.says h.drives.link
        (verdict_steps r.link d.entry.moment d.entry.item.random h.drives.made.link h.drives.says h.drives.link t h.drives.steps) refl)

    settled_keeps : (lease : Option Ip4) → Keeps s (settled_by s d.entry.item.target h.x h.question t d.entry.moment h.after h.beside lease)
    settled_keeps None = with_keeps s d.entry.item.target h.after verdict_keeps
    settled_keeps (Some a) = with_keeps s d.entry.item.target (record h.after { lease = Some (next_lease s t.plan t.limits d.entry.moment a) }) verdict_keeps

  judged : HearsVerdict r s d.entry limited d → Heard
  judged (inl (asks, t, decides, h)) = keeping _ h.done (settled_keeps t h t.lease)
  judged (inr (inl (asks, decides, h))) = still _ h refl
  judged (inr (inr (other, none, h))) = still _ h refl

  -- a request for a change asks nothing
  changes : Requests r s d.entry d → Heard
  changes (inl h) = still _ h refl
  changes (inr (inl (p, f, is, h))) =
      let w = wanted r.profiles p in
      keeping _ h (leased_keeps s f.term.term.session.0 f.session (Some (lease_after f.lease w (place_of f.term.profile w))) is.at)
  changes (inr (inr (p, f, is, outs, s', loses, h))) = keeping _ h (loses_keep r d.entry f.session.service admin_reset s f.term.term.session.0 f.session outs s' is.at loses)

  -- a PPP frame of a session, which its link hears
  module _ (sound : IsSound s) (m : ℕ) (octets : List ℕ) (x : Session) (at : value_at s.sessions m ≡ Some x) (carries : CarriesOn (circuit_in x.way (record { 0 = m })) r d.entry octets) where
    asked_by : (outs : List OutRecord) (cause : Option ℕ) (x' : Session) (beside' : Beside) → (h : Drives r (at_of s d.entry) (beside_of s d.entry) x (hears r d.entry octets) outs cause x' beside')
        → h.made.ended ≡ false → d.next.question_count ≡ beside'.question_count → (q : Question) (c : Claim) → h.says.asked ≡ Some c → q ≡ record { number = next_question s.question_count; claim = c } → (a : Asking) → asking_of x' q ≡ a → IsAskedBy r s d m a
    asked_by outs cause x' beside' h live count q c asks is a here =
        let own : x.number.0 ≡ m = sound.own m x at in
        let asking : a ≡ asking_of x (record { number = next_question s.question_count; claim = c }) =
        sym here ∙ same_asking r (at_of s d.entry) (beside_of s d.entry) x (hears r d.entry octets) outs cause x' beside' h q ∙ ap (asking_of x) is in
        let asked : h.steps.turn.asked ≡ Some c = sym (ap (λ (w : LinkSaid). w.asked) h.steps.said) ∙ asks in
        record {
          x = x;
          found = at;
          made = h.made;
          service = h.is_made;
          live = live;
          number = ap (λ (b : Asking). b.number) asking ∙ (λ i. record { session = record { 0 = own i }; ask = next_question s.question_count });
          count = count ∙ ap (λ (b : Beside). b.question_count) h.count ∙ ap (count_after s.question_count) asks;
          circuit = ap (λ (b : Asking). b.circuit) asking ∙ (λ i. circuit_in x.way (record { 0 = own i }));
          heard = record {
            ppp = octets;
            carries = carries;
            says = octets_say r.link d.entry.moment d.entry.item.random octets h.made.link h.steps.turn a.claim h.steps.heard (asked ∙ ap (λ (b : Asking). Some b.claim) (sym asking));
          };
        }

    ppp : (made : LinkService) → x.service ≡ Linked made → HearsPpp r s d.entry m x made octets d → Heard
    ppp made is_made (inl (gone, h)) n a e = still _ h refl n a e
    ppp made is_made (inr (live, outs, cause, x', beside', drives, h)) n a e =
        elim (last_with s m x' n a (after _ h n a e)) [
          | inl here ↦ elim (drives_last r (at_of s d.entry) (beside_of s d.entry) x (hears r d.entry octets) outs cause x' beside' drives here.1 here.2) [
            | inl new ↦
                let lives : drives.made.ended ≡ false = ap (λ (k : LinkService). k.ended) (same_made x.service drives.made made drives.is_made is_made) ∙ live in
                inr (subst (λ (i : ℕ). IsAskedBy r s d i a) (sym here.0) (asked_by outs cause x' beside' drives lives (ap (λ (g : Deed). g.next.question_count) h) here.1 new.0 new.1 new.2 a here.3))
            | inr before ↦
                inl (ap (λ (i : ℕ). last_asking_at s i) here.0 ∙ last_there s m x at drives.made drives.is_made here.1 before
                ∙ ap (λ (b : Asking). Some b) (sym (same_asking r (at_of s d.entry) (beside_of s d.entry) x (hears r d.entry octets) outs cause x' beside' drives here.1) ∙ here.3))
          ]
          | inr before ↦ inl before
        ]

  -- the frame of a session of an access port
  module _ (sound : IsSound s) (number : ℕ) (kind : d.entry.item.kind ≡ Access number) (p : PppoeFrame) (came : IsFrame r.access number (arrival_in d.entry) p) where
    carries_at : (x : Session) → p.discovery ≡ false → session_of s number p.src p.session ≡ Some x → CarriesOn (circuit_in x.way (record { 0 = p.session })) r d.entry p.payload
    carries_at x data_frame at =
        subst (λ (way : Way). CarriesOn (circuit_in way (record { 0 = p.session })) r d.entry p.payload) (sym (on_circuit number p.src (value_at s.sessions p.session) x at))
        (record { kind = kind; frame = p; came = came; no_discovery = data_frame; from = refl; session_is = refl; ppp_is = refl })

    control : (v : Service) (x : Session) → session_of s number p.src p.session ≡ Some x → x.service ≡ v → HearsControl v r s d.entry x p d → Heard
    control (Provisioned l) x at is h = still _ h refl
    control (Linked made) x at is (inl (padt, inl (gone, h))) = still _ h refl
    control (Linked made) x at is (inl (padt, inr (live, h))) = keeping _ h (over_keeps s p.session x (at_number number p.src (value_at s.sessions p.session) x at))
    control (Linked made) x at is (inr (data_frame, h)) = ppp sound p.session p.payload x (at_number number p.src (value_at s.sessions p.session) x at) (carries_at x data_frame at) made is h

    named : (found : Option Session) → session_of s number p.src p.session ≡ found → HearsIn found r s d.entry p d → Heard
    named None is h = still _ h refl
    named (Some x) is h = control x.service x is refl h

    frame : HearsFrame r s d.entry number p d → Heard
    frame (inl (info, carries, h)) = packets (session_of s number p.src p.session) info h
    frame (inr (inl (names, no_packet, h))) = named (session_of s number p.src p.session) refl h
    frame (inr (inr (before, h))) = answers h.answer number h.port h.offers p h.tags h.does

  access : IsSound s → (number : ℕ) → d.entry.item.kind ≡ Access number → HearsAccess r s d.entry number d → Heard
  access sound number kind (inl (none, h)) = still _ h refl
  access sound number kind (inr (p, is, h)) = frame sound number kind p is h

  -- a datagram of the gateway's end for tunnels
  tunnel : IsSound s → d.entry.item.kind ≡ Tunnel → Did r s d.entry d → Heard
  unfolding question_of
  tunnel sound kind (Idles fate goes h) = still _ h refl
  tunnel sound kind (Speaks frames t spelled h) = keeping _ h (λ n a is. is)
  tunnel sound kind (Cuts frames t cleared number spelled h) = keeping _ h (chain_keeps s (with_tunnels s t) (cut_if cleared number (with_tunnels s t)) (λ n a is. is) (cut_if_keeps cleared number (with_tunnels s t)))
  tunnel sound kind (Comes frames t n number peer_tunnel call link spelled vacant new h) = keeping _ h (with_keeps s n (called_session n d.entry.item.from number peer_tunnel call link) (λ q is. absurd (none_some q is)))
  tunnel sound kind (TurnsOne frames t n x m c call spelled at is way h) = keeping _ h (with_keeps s n (turned x c call) (turned_last s n x c call at way))
  tunnel sound kind (PartsOne frames t n x m c call spelled at is way h) =
      keeping _ h (with_keeps s n (ended (turned x c call)) (λ q last. turned_last s n x c call at way q (same_last x.service ∙ last)))
  tunnel sound kind (ConnectsOne frames t n x x' m c call link outs none beside' spelled at is way new drives h) =
      let u = with_tunnels s t in
      let y = linked_anew (turned x c call) link in
      let silent = only_frames_ask r.link d.entry.moment d.entry.item.random Start drives.made.link drives.says drives.link drives.steps refl in
      keeping _ h (with_keeps s n x' (λ q last. absurd (none_some q (ap question_of drives.is_made ∙ silent_last r (at_of s d.entry) (beside_of u d.entry) y (told r d.entry Start) outs none x' beside' drives silent q last))))
  tunnel sound kind (PassesUp p info came carries h) = packets (call_of s d.entry.item.from p.tunnel p.session) info h
  tunnel sound kind (HearsOne p x m came at is h) =
      let on = on_call d.entry.item.from p.tunnel (value_at s.sessions p.session) x at in
      ppp sound p.session p.ppp x (call_number d.entry.item.from p.tunnel (value_at s.sessions p.session) x at)
      (subst (λ (way : Way). CarriesOn (circuit_in way (record { 0 = p.session })) r d.entry p.ppp) (sym on.is)
      (record { kind = kind; message = p; came = came; from = sym on.from; tunnel_is = sym on.number; session_is = refl; ppp_is = refl })) m is h

  hears_heard : IsSound s → (kind : ItemKind) → d.entry.item.kind ≡ kind → Hears kind r s limited d.entry d → Heard
  hears_heard sound (Access number) is h = access sound number is h
  hears_heard sound Core is h = core h
  hears_heard sound Tunnel is h = tunnel sound is (tunnel_did r s d.entry d h)
  hears_heard sound Verdict is h = judged h
  hears_heard sound Change is h = changes (change_comes r s d.entry d h)
  hears_heard sound Tick is (first, next, spoken, rest, s', ticks, h) = keeping _ h (chain_keeps s next s' (reminds_keep tunnels_most 0 (at_of s d.entry) d.entry.moment s first next spoken) (ticks_keep r d.entry at_once next rest s' ticks))
  hears_heard sound End is (first, next, all, rest, t, stops, h) = keeping _ h (chain_keeps s next (with_tunnels next t) (ends_keep r d.entry at_once s first next all) (λ n a found. found))

  -- the question that a link asked last was so before, or its claim stands in the frame that the entry is
  pub step_heard : IsSound s → Step r s limited d → Heard
  step_heard sound h = hears_heard sound d.entry.item.kind refl h.hears

  -- a question of the same number is the same one
  pub step_same : Step r s limited d → d.next.question_count < 2 ^ 64 - 1 → (n : ℕ) (a b : Asking) → last_asking_at s n ≡ Some a → a.number.ask ≤ s.question_count → last_asking_at d.next n ≡ Some b → b.number ≡ a.number → b ≡ a
  step_same h low n a b was old is same =
      elim (step_last r s limited d h low n b is) [
        | inl before ↦ same_some b a (sym before ∙ was)
        | inr new ↦ let ask = ap (λ q. q.ask) same in absurd (omega (arith, new.0, ask, old))
      ]

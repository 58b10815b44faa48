-- What a step does to the meters of sessions, to the moments of their last packets, and to the terms of which no Start was formed.
use Rattle.std.proofs.Common.{◌≡◌, inl, inr, ℕ, zero, suc, ◌+◌, ◌*◌, ◌==◌, ◌&&◌, Bool, true, false, not, List, [], ◌∷◌, ◌++◌, Option, Some, None, refl, sym, ap, subst, ◌∙◌}
use Rattle.std.specs.Prelude.{fold, if◌then◌else◌, option_map, slice_get, slice_set}
use Rattle.std.specs.List.{range_with_len}
use Rattle.std.proofs.lemmas.Bool.{cases_eq, eq-eqb, ne_eqb}
use Rattle.bng_base.specs.declared.address.Ip4.{Ip4}
use Rattle.bng_base.specs.declared.address.SessionNo.{SessionNo as Number}
use Rattle.bng_base.specs.declared.book.Profile.{Profile}
use Rattle.bng_base.specs.declared.item.Claim.{Claim}
use Rattle.bng_base.specs.declared.item.Entry.{Entry}
use Rattle.bng_base.specs.declared.item.ItemKind.{ItemKind}
use Rattle.bng_base.specs.declared.item.ItemKind.TheVariants.{Access, Core, Tunnel, Verdict, Change, Tick, End}
use Rattle.bng_base.specs.declared.item.At.{At}
use Rattle.bng_base.specs.declared.item.OutRecord.{OutRecord}
use Rattle.bng_base.specs.declared.ipv4.Ipv4.{Ipv4}
use Rattle.bng_base.specs.declared.settings.AccessPort.{AccessPort}
use Rattle.bng_base.specs.declared.settings.NamedRange.{NamedRange}
use Rattle.bng_base.specs.PppoeGrammar.{PppoeFrame, PppoeTag}
use Rattle.bng_coa.specs.Admission.{IsRequestIn}
use Rattle.bng_coa.specs.Wants.{wanted}
use Rattle.bng_discovery.specs.declared.answers.Answer.{Answer}
use Rattle.bng_discovery.specs.declared.answers.Answer.TheVariants.{Offer, Make, Again, Refuse, Ended, NoSession, Ignore}
use Rattle.bng_discovery.specs.declared.port.PortRules.{PortRules}
use Rattle.bng_forward.specs.Fates.{IsFrame, IsCorePacket}
use Rattle.bng_grant.specs.Grants.{Gift}
use Rattle.bng_lns.specs.Timed.{Telling, reminded}
use Rattle.bng_radius_wire.specs.Grammar.{Packet}
use Rattle.bng_sessions.specs.Listed.{values}
use Rattle.bng_sessions.specs.Sessions.{value_at}
use Rattle.bng_steps.specs.LinkService.{LinkService}
use Rattle.bng_steps.specs.declared.meters.Meters.{Meters}
use Rattle.bng_steps.specs.declared.meters.Plan.{Plan}
use Rattle.bng_steps.specs.declared.rules.Rules.{Rules}
use Rattle.bng_steps.specs.declared.session.Service.{Service}
use Rattle.bng_steps.specs.declared.session.Service.TheVariants.{Provisioned, Linked}
use Rattle.bng_steps.specs.declared.session.Session.{Session}
use Rattle.bng_steps.specs.Changes.{Applies, Found, HearsChange, Obeys, found_by, place_of, refusal_of}
use Rattle.bng_steps.specs.Course.{Asks, IsFrom, IsTo, Recasts}
use Rattle.bng_steps.specs.Cutting.{cut_at, cut_if, cut_of, cut_off, cut_told, is_cut, numbers_most}
use Rattle.bng_steps.specs.Deed.{Deed, at_of, arrival_in, handled}
use Rattle.bng_steps.specs.Discovery.{Answers}
use Rattle.bng_steps.specs.Frames.{HearsAccess, HearsControl, HearsCore, HearsData, HearsFrame, HearsIn, HearsPacket, HearsPadt, HearsPpp}
use Rattle.bng_steps.specs.Link.{Told, nas_request, ended}
use Rattle.bng_steps.specs.Metered.{meters_at, meters_of, plan_at, plan_for, plan_in, place_for, spent_input, spent_output}
use Rattle.bng_steps.specs.Passing.{cause_at, passed_at, place_in, with_passed}
use Rattle.bng_steps.specs.State.{State, call_of, leases, session_of, with_driven, with_ended, with_tunnels}
use Rattle.bng_steps.specs.Step.{Hears, Step}
use Rattle.bng_steps.specs.Tenures.{Tenure}
use Rattle.bng_steps.specs.Timers.{Ends, HearsEnd, HearsTick, LooksAt, LosesTerm, Reminds, Ticks, TimesIn, at_once}
use Rattle.bng_steps.specs.L2tp.{tunnels_most}
use Rattle.bng_steps.specs.Verdicts.{HearsVerdict, Judges, next_term, settled_by}
use Rattle.bng_steps.specs.Wishes.{Decides, refused_with, told_if, told_of}
use Rattle.bng_steps.proofs.Changing.{found_is}
use Rattle.bng_steps.proofs.Naming.{at_number, call_number}
use Rattle.bng_steps.proofs.Planning.{in_plan}
use Rattle.bng_steps.proofs.Tunnelling.{Did, Idles, Speaks, Cuts, Comes, TurnsOne, PartsOne, ConnectsOne, PassesUp, HearsOne, tunnel_did}
use Rattle.bng_steps.proofs.Values.{found_is as among_is, none_some, numbered, same_some}

-- what a state has of these
abbrev pub notes : State → List Meters × (List ℕ × List Tenure)
notes s = (s.meters, (s.passed, s.news))

abbrev pub spent_by : Bool → Meters → ℕ → ℕ → Meters
spent_by true ms now octets = spent_input ms now octets
spent_by false ms now octets = spent_output ms now octets

-- all is as it was; a packet passed; a term began; or a term is under another profile
pub data Noted (r : Rules) (s : State) (d : Deed) : Type 0 where
  Stays : notes d.next ≡ notes s → Noted r s d
  Passes : (input : Bool) (k : ℕ) (x : Session) (v : Ipv4) → value_at s.sessions k ≡ Some x → Asks input x.number.0 r s d (d.entry.moment, v.total) false
      → d.next ≡ with_passed s x.number d.entry.moment (spent_by input (meters_at s.meters x.number) d.entry.moment v.total) → Noted r s d
  Starts : (k : ℕ) (x : Session) (plan : Plan) (term : Tenure) → value_at s.sessions k ≡ Some x → term.term.session ≡ x.number → term.profile ≡ plan.profile → plan ≡ plan_at r.profiles plan.profile
      → notes d.next ≡ (slice_set s.meters (place_in x.number) (meters_of plan d.entry.moment), (s.passed, s.news ++ term ∷ [])) → Noted r s d
  Changes : (f : Found) (place : ℕ) → value_at s.sessions f.term.term.session.0 ≡ Some f.session → Recasts r s d f.term.term.session.0 place
      → notes d.next ≡ (slice_set s.meters (place_in f.session.number) (meters_of (plan_at r.profiles place) d.entry.moment), (s.passed, s.news)) → Noted r s d

-- Calls that end with their tunnel -----------------------------------------------------------------------------------------

cut_one_same : (tunnel : ℕ) (s : State) (n : ℕ) (o : Option Session) → notes (cut_of tunnel s n o) ≡ notes s
cut_one_same tunnel s n None = refl
cut_one_same tunnel s n (Some x) =
    elim (is_cut tunnel x) as (λ (b : Bool). notes (if b then with_ended s n x.lease 2 (ended x) else s) ≡ notes s) [ true ↦ refl | false ↦ refl ]

cuts_same : (tunnel : ℕ) (ns : List ℕ) (s : State) → notes (fold (cut_at tunnel) s ns) ≡ notes s
cuts_same tunnel [] s = refl
cuts_same tunnel (n ∷ ns) s = cuts_same tunnel ns (cut_at tunnel s n) ∙ cut_one_same tunnel s n (value_at s.sessions n)

cut_off_same : (tunnel : ℕ) (s : State) → notes (cut_off tunnel s) ≡ notes s
unfolding cut_off
cut_off_same tunnel s = cuts_same tunnel (range_with_len (s.sessions.shard * 1024 + 1) numbers_most) s

cut_if_same : (cleared : Bool) (tunnel : ℕ) (s : State) → notes (cut_if cleared tunnel s) ≡ notes s
cut_if_same cleared tunnel s =
    elim (cleared && not (tunnel == 0)) as (λ (b : Bool). notes (if b then cut_off tunnel s else s) ≡ notes s) [ true ↦ cut_off_same tunnel s | false ↦ refl ]

cut_told_same : (o : Option Telling) (s : State) → notes (cut_told o s) ≡ notes s
cut_told_same None s = refl
cut_told_same (Some t) s = cut_if_same t.said.cleared t.number s

-- Ticks and Ends -----------------------------------------------------------------------------------------------------------

loses_same : (v : Service) (cause : ℕ) (r : Rules) (e : Entry) (s : State) (n : ℕ) (x : Session) (outs : List OutRecord) (s' : State) → LosesTerm v cause r e s n x outs s' → notes s' ≡ notes s
loses_same (Provisioned over) cause r e s n x outs s' (none, is) = ap notes is
loses_same (Linked m) cause r e s n x outs s' (y, none, beside, drives, is) = ap notes is

looks_same : (o : Option ℕ) (r : Rules) (e : Entry) (s : State) (n : ℕ) (x : Session) (outs : List OutRecord) (s' : State) → LooksAt o r e s n x outs s' → notes s' ≡ notes s
looks_same None r e s n x outs s' (none, is) = ap notes is
looks_same (Some cause) r e s n x outs s' h = loses_same x.service cause r e s n x outs s' h

times_same : (v : Service) (r : Rules) (e : Entry) (s : State) (n : ℕ) (x : Session) (outs : List OutRecord) (s' : State) → TimesIn v r e s n x outs s' → notes s' ≡ notes s
times_same (Provisioned over) r e s n x outs s' h = looks_same (cause_at (passed_at s.passed x.number) x.lease e.moment) r e s n x outs s' h
times_same (Linked m) r e s n x outs s' h =
    looks_same (cause_at (passed_at s.passed h.after.number) h.after.lease e.moment) r e (with_driven s n x.lease h.cause h.after h.beside) n h.after h.then s' h.looks

ticks_same : (k : ℕ) (r : Rules) (e : Entry) (s : State) (outs : List OutRecord) (s' : State) → Ticks k r e s outs s' → notes s' ≡ notes s
ticks_same zero r e s outs s' h = ap notes h.1
ticks_same (suc k) r e s outs s' (inl (none, nothing, is)) = ap notes is
ticks_same (suc k) r e s outs s' (inr (n, due, first, next, (x, at, times), rest, more, all)) = ticks_same k r e next rest s' more ∙ times_same x.service r e s n x first next times

reminds_same : (n k : ℕ) (a : At) (now : ℕ) (s : State) (outs : List OutRecord) (s' : State) → Reminds n k a now s outs s' → notes s' ≡ notes s
reminds_same zero k a now s outs s' h = ap notes h.1
reminds_same (suc n) k a now s outs s' (first, next, one, rest, more, all) =
    reminds_same n (k + 1) a now next rest s' more ∙ ap notes one.after ∙ cut_told_same (reminded now s.tunnels k).told (with_tunnels s one.tunnels)

ends_same : (k : ℕ) (r : Rules) (e : Entry) (s : State) (outs : List OutRecord) (s' : State) → Ends k r e s outs s' → notes s' ≡ notes s
ends_same zero r e s outs s' h = ap notes h.1
ends_same (suc k) r e s outs s' (inl (none, nothing, is)) = ap notes is
ends_same (suc k) r e s outs s' (inr (n, low, x, at, padt, rest, tells, more, all)) = ends_same k r e (with_ended s n x.lease nas_request (ended x)) rest s' more

-- The plan of a term that begins -------------------------------------------------------------------------------------------

profile_of : (place : ℕ) (o : Option Profile) → (plan_in place o).profile ≡ place
profile_of place None = refl
profile_of place (Some p) = refl

planned_at : (profiles : List Profile) (o : Option ℕ) (plan : Plan) → option_map (plan_at profiles) o ≡ Some plan → plan ≡ plan_at profiles plan.profile
planned_at profiles None plan e = absurd (none_some plan e)
planned_at profiles (Some k) plan e =
    let is : plan_at profiles k ≡ plan = same_some (plan_at profiles k) plan e in
    let place : k ≡ plan.profile = sym (profile_of k (slice_get profiles k)) ∙ ap (λ (q : Plan). q.profile) is in
    sym is ∙ ap (plan_at profiles) place

if_planned : (profiles : List Profile) (o : Option Plan) (pools : List NamedRange) (limited : Bool) (claim : Claim) (text : List ℕ) (g : Gift) (a : Ip4) → ((plan : Plan) → o ≡ Some plan → plan ≡ plan_at profiles plan.profile)
    → (told_if o pools limited claim text g).lease ≡ Some a → (told_if o pools limited claim text g).plan ≡ plan_at profiles (told_if o pools limited claim text g).plan.profile
if_planned profiles None pools limited claim text g a planned e = absurd (none_some a e)
if_planned profiles (Some plan) pools limited claim text g a planned e =
    subst (λ (q : Plan). q ≡ plan_at profiles q.profile) (sym (in_plan plan pools limited claim text g a e)) (planned plan refl)

decided_plan : (r : Rules) (limited : Bool) (octets : List ℕ) (claim : Claim) (t : Told) (a : Ip4) → Decides r limited octets claim (Some t) → t.lease ≡ Some a → t.plan ≡ plan_at r.profiles t.plan.profile
decided_plan r limited octets claim t a (inl (silent, none, e)) leased = absurd (none_some t (sym e))
decided_plan r limited octets claim t a (inr (inl (v, says, refused, none, e))) leased =
    absurd (none_some a (sym (ap (λ (u : Told). u.lease) (same_some t (refused_with v.text) e)) ∙ leased))
decided_plan r limited octets claim t a (inr (inr (v, says, accepted, g, grants, answers, e))) leased =
    let is = same_some t (told_of r limited claim v.text g) e in
    subst (λ (u : Told). u.plan ≡ plan_at r.profiles u.plan.profile) (sym is)
    (if_planned r.profiles (plan_for r.profiles g.profile) r.pools limited claim v.text g a (λ plan. planned_at r.profiles (place_for r.profiles g.profile) plan) (sym (ap (λ (u : Told). u.lease) is) ∙ leased))

-- Entries ------------------------------------------------------------------------------------------------------------------

module _ (r : Rules) (s : State) (d : Deed) where
  stay : (f : Deed) → d ≡ f → notes f.next ≡ notes s → Noted r s d
  stay f h e = Stays (ap (λ (g : Deed). notes g.next) h ∙ e)

  -- a packet from a subscriber
  data_noted : (found : Option Session) (info : List ℕ) → ((x : Session) → found ≡ Some x → IsFrom d.entry.item.kind r s d.entry x info × ((k : ℕ) × (value_at s.sessions k ≡ Some x))) → HearsData r s d.entry found info d → Noted r s d
  data_noted found info from (fate, is, inl (goes, h)) =
      let its = from h.x h.there in
      Passes true its.1.0 h.x h.header its.1.1
      (record { session = h.x; number = refl; header = h.header; crosses = (info, its.0, h.passed.was); offer_is = refl; fate = ap (λ (f : Deed). f.fate) h.done })
      (ap (λ (f : Deed). f.next) h.done)
  data_noted found info from (fate, is, inr (stays, h)) = stay _ h refl

  ppp_noted : (n : ℕ) (x : Session) (made : LinkService) (octets : List ℕ) → HearsPpp r s d.entry n x made octets d → Noted r s d
  ppp_noted n x made octets (inl (over, h)) = stay _ h refl
  ppp_noted n x made octets (inr (lives, outs, cause, x', beside, drives, h)) = stay _ h refl

  padt_noted : (x : Session) (made : LinkService) (p : PppoeFrame) → HearsPadt s d.entry x made p d → Noted r s d
  padt_noted x made p (inl (over, h)) = stay _ h refl
  padt_noted x made p (inr (lives, h)) = stay _ h refl

  control_noted : (v : Service) (x : Session) (p : PppoeFrame) → HearsControl v r s d.entry x p d → Noted r s d
  control_noted (Provisioned v) x p h = stay _ h refl
  control_noted (Linked made) x p (inl (padt, h)) = padt_noted x made p h
  control_noted (Linked made) x p (inr (other, h)) = ppp_noted p.session x made p.payload h

  in_noted : (found : Option Session) (p : PppoeFrame) → HearsIn found r s d.entry p d → Noted r s d
  in_noted None p h = stay _ h refl
  in_noted (Some x) p h = control_noted x.service x p h

  answers_noted : (answer : Answer) (number : ℕ) (port : AccessPort) (offers : PortRules) (p : PppoeFrame) (tags : List PppoeTag) → Answers answer r s d.entry number port offers p tags d → Noted r s d
  answers_noted Offer number port offers p tags h = stay _ h refl
  answers_noted Make number port offers p tags h = stay _ h.done refl
  answers_noted Again number port offers p tags h = stay _ h.done refl
  answers_noted (Refuse error) number port offers p tags h = stay _ h refl
  answers_noted Ended number port offers p tags h = stay _ h refl
  answers_noted NoSession number port offers p tags h = stay _ h refl
  answers_noted Ignore number port offers p tags h = stay _ h refl

  frame_noted : (number : ℕ) (p : PppoeFrame) → d.entry.item.kind ≡ Access number → IsFrame r.access number (arrival_in d.entry) p → HearsFrame r s d.entry number p d → Noted r s d
  frame_noted number p kind is (inl (info, carries, h)) =
      data_noted (session_of s number p.src p.session) info
      (λ x there. (subst (λ (k : ItemKind). IsFrom k r s d.entry x info) (sym kind) (p, is, carries, there), (p.session, at_number number p.src (value_at s.sessions p.session) x there))) h
  frame_noted number p kind is (inr (inl (names, none, h))) = in_noted (session_of s number p.src p.session) p h
  frame_noted number p kind is (inr (inr (before, h))) = answers_noted h.answer number h.port h.offers p h.tags h.does

  access_noted : (number : ℕ) → d.entry.item.kind ≡ Access number → HearsAccess r s d.entry number d → Noted r s d
  access_noted number kind (inl (none, h)) = stay _ h refl
  access_noted number kind (inr (p, is, h)) = frame_noted number p kind is h

  packet_noted : (v : Ipv4) → d.entry.item.kind ≡ Core → IsCorePacket r.core_peer (arrival_in d.entry) v → HearsPacket r s d.entry v d → Noted r s d
  packet_noted v kind is (fate, row, inl (goes, h)) =
      let at = numbered s.sessions h.x (among_is (leases v.dst) (values s.sessions) h.x h.found).0 in
      Passes false at.0 h.x v at.1
      (record { session = h.x; number = refl; header = v; crosses = subst (λ (k : ItemKind). IsTo k r s d.entry h.x v) (sym kind) (is, h.found); offer_is = refl; fate = ap (λ (f : Deed). f.fate) h.done })
      (ap (λ (f : Deed). f.next) h.done)
  packet_noted v kind is (fate, row, inr (stays, h)) = stay _ h refl

  core_noted : d.entry.item.kind ≡ Core → HearsCore r s d.entry d → Noted r s d
  core_noted kind (inl (none, h)) = stay _ h refl
  core_noted kind (inr (v, is, h)) = packet_noted v kind is h

  did_noted : d.entry.item.kind ≡ Tunnel → Did r s d.entry d → Noted r s d
  did_noted kind (Idles fate f h) = stay _ h refl
  did_noted kind (Speaks frames t spelled h) = stay _ h refl
  did_noted kind (Cuts frames t cleared number spelled h) = stay _ h (cut_if_same cleared number (with_tunnels s t))
  did_noted kind (Comes frames t n number tunnel call link spelled vacant new h) = stay _ h refl
  did_noted kind (TurnsOne frames t n x m c call spelled at is way h) = stay _ h refl
  did_noted kind (PartsOne frames t n x m c call spelled at is way h) = stay _ h refl
  did_noted kind (ConnectsOne frames t n x x' m c call link outs none beside spelled at is way new starts h) = stay _ h refl
  did_noted kind (PassesUp p info came carries h) =
      data_noted (call_of s d.entry.item.from p.tunnel p.session) info
      (λ x there. (subst (λ (k : ItemKind). IsFrom k r s d.entry x info) (sym kind) (p, came, carries, there), (p.session, call_number d.entry.item.from p.tunnel (value_at s.sessions p.session) x there))) h
  did_noted kind (HearsOne p x m came at is h) = ppp_noted p.session x m p.ppp h

  settled_noted : (limited : Bool) (t : Told) (j : Judges r s d.entry t d) (lease : Option Ip4) → t.lease ≡ lease → Decides r limited d.entry.item.frame.payload d.entry.claim (Some t)
      → d ≡ handled s d.entry j.outs (settled_by s d.entry.item.target j.x j.question t d.entry.moment j.after j.beside lease) → Noted r s d
  settled_noted limited t j None leased decides h = stay _ h refl
  settled_noted limited t j (Some a) leased decides h =
      let number : j.after.number ≡ j.x.number = ap (λ (y : Session). y.number) j.drives.session in
      Starts d.entry.item.target j.x t.plan (next_term s j.x j.question t.plan t.class d.entry.moment a) j.found refl refl (decided_plan r limited d.entry.item.frame.payload d.entry.claim t a decides leased)
      (ap (λ (g : Deed). notes g.next) h
      ∙ ap (λ (k : Number). (slice_set s.meters (place_in k) (meters_of t.plan d.entry.moment), (s.passed, s.news ++ next_term s j.x j.question t.plan t.class d.entry.moment a ∷ []))) number)

  verdict_noted : (limited : Bool) → HearsVerdict r s d.entry limited d → Noted r s d
  verdict_noted limited (inl (asks, t, decides, j)) = settled_noted limited t j t.lease refl decides j.done
  verdict_noted limited (inr (inl (asks, decides, h))) = stay _ h refl
  verdict_noted limited (inr (inr (other, claim, h))) = stay _ h refl

  changed_noted : (p : Packet) (f : Found) → d.entry.item.kind ≡ Change → IsRequestIn p d.entry.item.frame.payload → refusal_of r p ≡ None → found_by r s p.attributes ≡ Some f → Applies r s d.entry p f d → Noted r s d
  changed_noted p f kind reads granted its (inl (code, h)) =
      let old = f.term.profile in
      let new = place_of f.term.profile (wanted r.profiles p) in
      let fresh = slice_set s.meters (place_in f.session.number) (meters_of (plan_at r.profiles new) d.entry.moment) in
      let same = ap (λ (g : Deed). notes g.next) h in
      elim (cases_eq old new) [
        | inl is ↦ Stays (same ∙ ap (λ (b : Bool). ((if b then s.meters else fresh), (s.passed, s.news))) (eq-eqb old new is))
        | inr differ ↦
            Changes f new (found_is r s p.attributes f its).at
            (record { kind = kind; packet = p; reads = reads; code = code; granted = granted; found = f; found_is = its; session = refl; wants = refl; other = differ })
            (same ∙ ap (λ (b : Bool). ((if b then s.meters else fresh), (s.passed, s.news))) (ne_eqb old new differ))
      ]
  changed_noted p f kind reads granted its (inr (code, outs, s', loses, h)) = stay _ h (loses_same f.session.service 6 r d.entry s f.term.term.session.0 f.session outs s' loses)

  obeyed_noted : (p : Packet) (cause : Option ℕ) (found : Option Found) → d.entry.item.kind ≡ Change → IsRequestIn p d.entry.item.frame.payload → refusal_of r p ≡ cause → found_by r s p.attributes ≡ found
      → Obeys cause found r s d.entry p d → Noted r s d
  obeyed_noted p (Some cause) found kind reads granted its h = stay _ h refl
  obeyed_noted p None None kind reads granted its h = stay _ h refl
  obeyed_noted p None (Some f) kind reads granted its h = changed_noted p f kind reads granted its h

  change_noted : d.entry.item.kind ≡ Change → HearsChange r s d.entry d → Noted r s d
  change_noted kind (inl (none, h)) = stay _ h refl
  change_noted kind (inr (p, reads, h)) = obeyed_noted p (refusal_of r p) (found_by r s p.attributes) kind reads refl refl h

  tick_noted : HearsTick r s d.entry d → Noted r s d
  tick_noted (first, next, reminds, rest, s', ticks, h) =
      stay _ h (ticks_same at_once r d.entry next rest s' ticks ∙ reminds_same tunnels_most 0 (at_of s d.entry) d.entry.moment s first next reminds)

  end_noted : HearsEnd r s d.entry d → Noted r s d
  end_noted (first, next, ends, rest, t, stops, h) = stay _ h (ends_same at_once r d.entry s first next ends)

  hears_noted : (limited : Bool) (kind : ItemKind) → d.entry.item.kind ≡ kind → Hears kind r s limited d.entry d → Noted r s d
  hears_noted limited (Access number) is h = access_noted number is h
  hears_noted limited Core is h = core_noted is h
  hears_noted limited Tunnel is h = did_noted is (tunnel_did r s d.entry d h)
  hears_noted limited Verdict is h = verdict_noted limited h
  hears_noted limited Change is h = change_noted is h
  hears_noted limited Tick is h = tick_noted h
  hears_noted limited End is h = end_noted h

pub step_noted : (r : Rules) (s : State) (limited : Bool) (d : Deed) → Step r s limited d → Noted r s d
step_noted r s limited d h = hears_noted r s d limited d.entry.item.kind refl h.hears

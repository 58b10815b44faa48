-- What the live terms of a shard know of their packets: none knows of a later one than the last.
use Rattle.std.proofs.Common.{◌≡◌, ◌≢◌, ◌⊎◌, inl, inr, ℕ, zero, suc, ◌+◌, ◌*◌, ◌≤◌, ◌==◌, ◌&&◌, Bool, true, false, not, List, [], ◌∷◌, Option, Some, None, fold, map, refl, sym, ap, subst, ◌∙◌, arith}
use Rattle.std.specs.Prelude.{if◌then◌else◌, slice_index_or, slice_set}
use Rattle.std.specs.List.{AllPairs, Contains, range_with_len}
use Rattle.std.proofs.lemmas.Bool.{cases_eq}
use Rattle.std.proofs.lemmas.List.{get_or-set_same, get_or-set_other}
use Rattle.bng_base.specs.declared.address.Ip4.{Ip4}
use Rattle.bng_base.specs.declared.address.SessionNo.{SessionNo}
use Rattle.bng_base.specs.declared.item.At.{At}
use Rattle.bng_base.specs.declared.item.Entry.{Entry}
use Rattle.bng_base.specs.declared.item.ItemKind.{ItemKind}
use Rattle.bng_base.specs.declared.item.ItemKind.TheVariants.{Access, Core, Tunnel, Verdict, Change, Tick, End}
use Rattle.bng_base.specs.declared.item.OutRecord.{OutRecord}
use Rattle.bng_base.specs.declared.settings.AccessPort.{AccessPort}
use Rattle.bng_base.specs.PppoeGrammar.{PppoeFrame, PppoeTag}
use Rattle.bng_coa.specs.Wants.{wanted}
use Rattle.bng_discovery.specs.declared.answers.Answer.{Answer}
use Rattle.bng_discovery.specs.declared.answers.Answer.TheVariants.{Offer, Make, Again, Refuse, Ended, NoSession, Ignore}
use Rattle.bng_discovery.specs.declared.port.PortRules.{PortRules}
use Rattle.bng_ppp.specs.declared.input.Input.TheVariants.{Close, Start}
use Rattle.bng_radius_wire.specs.Grammar.{Packet}
use Rattle.bng_base.specs.declared.book.Profile.{Profile}
use Rattle.bng_base.specs.declared.settings.Static.{Static}
use Rattle.bng_sessions.specs.Listed.{values}
use Rattle.bng_steps.specs.Opening.{in_order, lease_from, numbered_after, opened_slots}
use Rattle.bng_steps.proofs.InOrder.{apart_of, opened_entries}
use Rattle.bng_steps.proofs.Silent.{none_at_opening}
use Rattle.bng_sessions.specs.Sessions.{Sessions, value_at, with_value}
use Rattle.bng_sessions.proofs.SessionLaws.{value_at-with_value, value_at-with_other}
use Rattle.bng_steps.specs.LinkService.{LinkService}
use Rattle.bng_steps.specs.declared.meters.Meters.{Meters}
use Rattle.bng_steps.specs.declared.rules.Rules.{Rules}
use Rattle.bng_steps.specs.declared.session.Lease.{Lease}
use Rattle.bng_steps.specs.declared.session.Service.{Service}
use Rattle.bng_steps.specs.declared.session.Service.TheVariants.{Provisioned, Linked}
use Rattle.bng_steps.specs.declared.session.Session.{Session}
use Rattle.bng_steps.specs.Calls.{called_session, linked_anew, turned}
use Rattle.bng_steps.specs.Changes.{Applies, Found, HearsChange, Obeys, found_by, lease_after, place_of, refusal_of}
use Rattle.bng_steps.specs.Course.{Stands}
use Rattle.bng_steps.specs.Cutting.{cut_at, cut_if, cut_of, cut_off, is_cut, numbers_most}
use Rattle.bng_steps.specs.Deed.{Deed, at_of, beside_of}
use Rattle.bng_steps.specs.Discovery.{Answers, host_uniq_of, new_session}
use Rattle.bng_steps.specs.Frames.{HearsAccess, HearsControl, HearsCore, HearsData, HearsIn, HearsPpp}
use Rattle.bng_steps.specs.Link.{Drives, LinkStep, Told, ended, hears, nas_request, settles, told}
use Rattle.bng_steps.specs.Passing.{lapsed, passed_at, place_in}
use Rattle.bng_steps.specs.Silence.{Reckons}
use Rattle.bng_steps.specs.State.{Beside, State, call_of, leaves, session_of, settled, with_ended, with_tunnels}
use Rattle.bng_steps.specs.Step.{Hears, Step}
use Rattle.bng_steps.specs.Tenures.{Tenure}
use Rattle.bng_steps.specs.Timers.{Ends, HearsEnd, LosesTerm, at_once}
use Rattle.bng_steps.specs.Verdicts.{HearsVerdict, Judges, next_lease, settled_by}
use Rattle.bng_steps.proofs.Changing.{found_is}
use Rattle.bng_steps.proofs.Limiting.{drives_was}
use Rattle.bng_steps.proofs.Naming.{at_number, call_number}
use Rattle.bng_steps.proofs.Noting.{Noted, Stays, Passes as PassesOne, Starts, Changes, step_noted}
use Rattle.bng_steps.proofs.Overdue.{tick_knows}
use Rattle.bng_steps.proofs.Tunnelling.{Did, Idles, Speaks, Cuts, Comes, TurnsOne, PartsOne, ConnectsOne, PassesUp, HearsOne, tunnel_did}
use Rattle.bng_steps.proofs.Values.{kept_from, none_some, same_some, stands}

-- Sessions that go on ------------------------------------------------------------------------------------------------------

-- the session had the lease before, and its term knows of packets what it knew
record CameFrom (s : State) (n : ℕ) (x : Session) (l : Lease) : Type 0 where
  pub y : Session
  pub lease : Lease
  pub at : value_at s.sessions n ≡ Some y
  pub leased : y.lease ≡ Some lease
  pub number : x.number ≡ y.number
  pub began : l.life.began ≡ lease.life.began
  pub idle : l.life.idle_from ≡ lease.life.idle_from

-- or the term knows of none
abbrev IsCalm : State → ℕ → Session → Lease → Type 0
IsCalm s n x l = CameFrom s n x l ⊎ (l.life.idle_from ≡ l.life.began)

abbrev Calm : State → State → Type 0
Calm s s' = (n : ℕ) (x : Session) (l : Lease) → value_at s'.sessions n ≡ Some x → x.lease ≡ Some l → IsCalm s n x l

came : (s : State) (n : ℕ) (x : Session) (l : Lease) → value_at s.sessions n ≡ Some x → x.lease ≡ Some l → CameFrom s n x l
came s n x l at leased = record { y = x; lease = l; at = at; leased = leased; number = refl; began = refl; idle = refl }

same : (s s' : State) → s'.sessions ≡ s.sessions → Calm s s'
same s s' e n x l at leased = inl (came s n x l (sym (ap (λ (t : Sessions Session). value_at t n) e) ∙ at) leased)

chained : (s s' s'' : State) → Calm s s' → Calm s' s'' → Calm s s''
chained s s' s'' f g n x l at leased =
    elim (g n x l at leased) [
      | inr none ↦ inr none
      | inl on ↦ elim (f n on.y on.lease on.at on.leased) [
        | inr none ↦ inr (on.idle ∙ none ∙ sym on.began)
        | inl was ↦ inl (record { y = was.y; lease = was.lease; at = was.at; leased = was.leased; number = on.number ∙ was.number; began = on.began ∙ was.began; idle = on.idle ∙ was.idle })
      ]
    ]

put : (s s' : State) (n : ℕ) (y : Session) → s'.sessions ≡ with_value s.sessions n y → ((l : Lease) → y.lease ≡ Some l → IsCalm s n y l) → Calm s s'
put s s' n y e its m x l at leased =
    let there : value_at (with_value s.sessions n y) m ≡ Some x = sym (ap (λ (t : Sessions Session). value_at t m) e) ∙ at in
    elim (cases_eq m n) [
      | inl here ↦
          let is : y ≡ x = same_some y x (sym (value_at-with_value s.sessions n y) ∙ subst (λ (k : ℕ). value_at (with_value s.sessions n y) k ≡ Some x) here there) in
          subst (λ (z : Session). IsCalm s m z l) is (subst (λ (k : ℕ). IsCalm s k y l) (sym here) (its l (ap (λ (z : Session). z.lease) is ∙ leased)))
      | inr ne ↦ inl (came s m x l (sym (value_at-with_other s.sessions n y m ne) ∙ there) leased)
    ]

none : (s s' : State) (n : ℕ) (y : Session) → s'.sessions ≡ with_value s.sessions n y → y.lease ≡ None → Calm s s'
none s s' n y e free = put s s' n y e (λ l leased. absurd (none_some l (sym free ∙ leased)))

-- a step of the link of a session that stands there, and of one that has no lease
driven : (r : Rules) (s s' : State) (n : ℕ) (x x' : Session) (outs : List OutRecord) (cause : Option ℕ) (a : At) (beside beside' : Beside) (Steps : LinkStep) → s'.sessions ≡ with_value s.sessions n x' → value_at s.sessions n ≡ Some x
    → Drives r a beside x Steps outs cause x' beside' → Calm s s'
driven r s s' n x x' outs cause a beside beside' Steps is at drives =
    put s s' n x' is
    (λ l leased.
    inl (record { y = x; lease = l; at = at; leased = drives_was r a beside x x' outs cause beside' Steps drives l leased; number = ap (λ (z : Session). z.number) drives.session; began = refl; idle = refl }))

undriven : (r : Rules) (s s' : State) (n : ℕ) (x x' : Session) (outs : List OutRecord) (cause : Option ℕ) (a : At) (beside beside' : Beside) (Steps : LinkStep) → s'.sessions ≡ with_value s.sessions n x' → x.lease ≡ None
    → Drives r a beside x Steps outs cause x' beside' → Calm s s'
undriven r s s' n x x' outs cause a beside beside' Steps is free drives =
    put s s' n x' is (λ l leased. absurd (none_some l (sym free ∙ drives_was r a beside x x' outs cause beside' Steps drives l leased)))

-- Many sessions ------------------------------------------------------------------------------------------------------------

cut_one : (tunnel : ℕ) (s : State) (n : ℕ) (o : Option Session) → Calm s (cut_of tunnel s n o)
cut_one tunnel s n None = same s s refl
cut_one tunnel s n (Some x) =
    elim (is_cut tunnel x) as (λ (b : Bool). Calm s (if b then with_ended s n x.lease 2 (ended x) else s)) [ true ↦ none s (with_ended s n x.lease 2 (ended x)) n (ended x) refl refl | false ↦ same s s refl ]

cuts : (tunnel : ℕ) (ns : List ℕ) (s : State) → Calm s (fold (cut_at tunnel) s ns)
cuts tunnel [] s = same s s refl
cuts tunnel (n ∷ ns) s = chained s (cut_at tunnel s n) (fold (cut_at tunnel) (cut_at tunnel s n) ns) (cut_one tunnel s n (value_at s.sessions n)) (cuts tunnel ns (cut_at tunnel s n))

cuts_off : (tunnel : ℕ) (s : State) → Calm s (cut_off tunnel s)
unfolding cut_off
cuts_off tunnel s = cuts tunnel (range_with_len (s.sessions.shard * 1024 + 1) numbers_most) s

cuts_if : (cleared : Bool) (tunnel : ℕ) (s : State) → Calm s (cut_if cleared tunnel s)
cuts_if cleared tunnel s = elim (cleared && not (tunnel == 0)) as (λ (b : Bool). Calm s (if b then cut_off tunnel s else s)) [ true ↦ cuts_off tunnel s | false ↦ same s s refl ]

ends : (k : ℕ) (r : Rules) (e : Entry) (s : State) (outs : List OutRecord) (s' : State) → Ends k r e s outs s' → Calm s s'
ends zero r e s outs s' h = same s s' (ap (λ (t : State). t.sessions) h.1)
ends (suc k) r e s outs s' (inl (low, nothing, is)) = same s s' (ap (λ (t : State). t.sessions) is)
ends (suc k) r e s outs s' (inr (n, low, x, at, padt, rest, tells, more, all)) =
    let next = with_ended s n x.lease nas_request (ended x) in chained s next s' (none s next n (ended x) refl refl) (ends k r e next rest s' more)

-- An entry that is no Tick -------------------------------------------------------------------------------------------------

module _ (r : Rules) (s : State) (d : Deed) where
  abbrev Goes : Type 0
  Goes = Calm s d.next

  its : (f : Deed) → d ≡ f → d.next.sessions ≡ f.next.sessions
  its f h = ap (λ (g : Deed). g.next.sessions) h

  stay : (f : Deed) → d ≡ f → f.next.sessions ≡ s.sessions → Goes
  stay f h e = same s d.next (its f h ∙ e)

  after : (f : Deed) → d ≡ f → Calm s f.next → Goes
  after f h goes = subst (Calm s) (sym (ap (λ (g : Deed). g.next) h)) goes

  data_goes : (found : Option Session) (info : List ℕ) → HearsData r s d.entry found info d → Goes
  data_goes found info (fate, is, inl (goes, h)) = stay _ h.done refl
  data_goes found info (fate, is, inr (stays, h)) = stay _ h refl

  ppp_goes : (n : ℕ) (x : Session) (made : LinkService) (octets : List ℕ) → value_at s.sessions n ≡ Some x → HearsPpp r s d.entry n x made octets d → Goes
  ppp_goes n x made octets at (inl (over, h)) = stay _ h refl
  ppp_goes n x made octets at (inr (lives, outs, cause, x', beside, drives, h)) =
      driven r s d.next n x x' outs cause (at_of s d.entry) (beside_of s d.entry) beside (hears r d.entry octets) (its _ h) at drives

  control_goes : (v : Service) (x : Session) (p : PppoeFrame) → value_at s.sessions p.session ≡ Some x → HearsControl v r s d.entry x p d → Goes
  control_goes (Provisioned v) x p at h = stay _ h refl
  control_goes (Linked made) x p at (inl (padt, inl (over, h))) = stay _ h refl
  control_goes (Linked made) x p at (inl (padt, inr (lives, h))) = none s d.next p.session (ended x) (its _ h) refl
  control_goes (Linked made) x p at (inr (other, h)) = ppp_goes p.session x made p.payload at h

  in_goes : (number : ℕ) (found : Option Session) (p : PppoeFrame) → session_of s number p.src p.session ≡ found → HearsIn found r s d.entry p d → Goes
  in_goes number None p is h = stay _ h refl
  in_goes number (Some x) p is h = control_goes x.service x p (at_number number p.src (value_at s.sessions p.session) x is) h

  answers_goes : (answer : Answer) (number : ℕ) (port : AccessPort) (offers : PortRules) (p : PppoeFrame) (tags : List PppoeTag) → Answers answer r s d.entry number port offers p tags d → Goes
  answers_goes Offer number port offers p tags h = stay _ h refl
  answers_goes Make number port offers p tags h =
      undriven r s d.next h.session (new_session h.session number p.src (host_uniq_of tags) h.link) h.x h.outs h.cause (at_of s d.entry) (beside_of s d.entry) h.beside (told r d.entry Start) (its _ h.done) refl h.starts
  answers_goes Again number port offers p tags h = stay _ h.done refl
  answers_goes (Refuse error) number port offers p tags h = stay _ h refl
  answers_goes Ended number port offers p tags h = stay _ h refl
  answers_goes NoSession number port offers p tags h = stay _ h refl
  answers_goes Ignore number port offers p tags h = stay _ h refl

  access_goes : (number : ℕ) → HearsAccess r s d.entry number d → Goes
  access_goes number (inl (malformed, h)) = stay _ h refl
  access_goes number (inr (p, is, inl (info, carries, h))) = data_goes (session_of s number p.src p.session) info h
  access_goes number (inr (p, is, inr (inl (names, no_packet, h)))) = in_goes number (session_of s number p.src p.session) p refl h
  access_goes number (inr (p, is, inr (inr (before, h)))) = answers_goes h.answer number h.port h.offers p h.tags h.does

  core_goes : HearsCore r s d.entry d → Goes
  core_goes (inl (malformed, h)) = stay _ h refl
  core_goes (inr (v, is, (fate, row, inl (goes, h)))) = stay _ h.done refl
  core_goes (inr (v, is, (fate, row, inr (stays, h)))) = stay _ h refl

  did_goes : Did r s d.entry d → Goes
  did_goes (Idles fate f h) = stay _ h refl
  did_goes (Speaks frames t spelled h) = stay _ h refl
  did_goes (Cuts frames t cleared number spelled h) =
      let u = with_tunnels s t in after _ h (chained s u (cut_if cleared number u) (same s u refl) (cuts_if cleared number u))
  did_goes (Comes frames t n number tunnel call link spelled vacant new h) = none s d.next n (called_session n d.entry.item.from number tunnel call link) (its _ h) refl
  did_goes (TurnsOne frames t n x m c call spelled at is way h) = put s d.next n (turned x c call) (its _ h) (λ l leased. inl (record { y = x; lease = l; at = at; leased = leased; number = refl; began = refl; idle = refl }))
  did_goes (PartsOne frames t n x m c call spelled at is way h) = none s d.next n (ended (turned x c call)) (its _ h) refl
  did_goes (ConnectsOne frames t n x x' m c call link outs free beside' spelled at is way new drives h) =
      undriven r s d.next n (linked_anew (turned x c call) link) x' outs free (at_of s d.entry) (beside_of (with_tunnels s t) d.entry) beside' (told r d.entry Start) (its _ h) refl drives
  did_goes (PassesUp p info is carries h) = data_goes (call_of s d.entry.item.from p.tunnel p.session) info h
  did_goes (HearsOne p x m is at made h) = ppp_goes p.session x m p.ppp (call_number d.entry.item.from p.tunnel (value_at s.sessions p.session) x at) h

  judged_goes : (t : Told) (j : Judges r s d.entry t d) (lease : Option Ip4) → d.next.sessions ≡ (settled_by s d.entry.item.target j.x j.question t d.entry.moment j.after j.beside lease).sessions → Goes
  judged_goes t j None is =
      undriven r s d.next d.entry.item.target j.x j.after j.outs j.cause (at_of s d.entry) (beside_of s d.entry) j.beside (settles r d.entry t) is j.no_term j.drives
  judged_goes t j (Some a) is =
      let next = next_lease s t.plan t.limits d.entry.moment a in
      put s d.next d.entry.item.target (record j.after { lease = Some next }) is
      (λ l leased. let one : l ≡ next = sym (same_some next l leased) in inr (ap (λ (k : Lease). k.life.idle_from) one ∙ sym (ap (λ (k : Lease). k.life.began) one)))

  verdict_goes : (limited : Bool) → HearsVerdict r s d.entry limited d → Goes
  verdict_goes limited (inl (asks, t, decides, j)) = judged_goes t j t.lease (its _ j.done)
  verdict_goes limited (inr (inl (asks, decides, h))) = stay _ h refl
  verdict_goes limited (inr (inr (other, claim, h))) = stay _ h refl

  loses_goes : (v : Service) (cause n : ℕ) (x : Session) (outs : List OutRecord) (s' : State) → LosesTerm v cause r d.entry s n x outs s' → Calm s s'
  loses_goes (Provisioned over) cause n x outs s' (nothing, is) = none s s' n (lapsed x) (ap (λ (t : State). t.sessions) is) refl
  loses_goes (Linked m) cause n x outs s' (y, free, beside, drives, is) =
      undriven r s s' n (lapsed x) y outs free (at_of s d.entry) (beside_of s d.entry) beside (told r d.entry Close) (ap (λ (t : State). t.sessions) is) refl drives

  applied_goes : (p : Packet) (f : Found) → found_by r s p.attributes ≡ Some f → Applies r s d.entry p f d → Goes
  applied_goes p f is (inl (code, h)) =
      let found = found_is r s p.attributes f is in
      let k = lease_after f.lease (wanted r.profiles p) (place_of f.term.profile (wanted r.profiles p)) in
      put s d.next f.term.term.session.0 (record f.session { lease = Some k }) (its _ h)
      (λ l leased.
      let one : l ≡ k = sym (same_some k l leased) in
      inl (record { y = f.session; lease = f.lease; at = found.at; leased = found.leased; number = refl; began = ap (λ (j : Lease). j.life.began) one; idle = ap (λ (j : Lease). j.life.idle_from) one }))
  applied_goes p f is (inr (code, outs, s', loses, h)) = after _ h (loses_goes f.session.service 6 f.term.term.session.0 f.session outs s' loses)

  obeyed_goes : (p : Packet) (cause : Option ℕ) (found : Option Found) → found_by r s p.attributes ≡ found → Obeys cause found r s d.entry p d → Goes
  obeyed_goes p (Some cause) found is h = stay _ h refl
  obeyed_goes p None None is h = stay _ h refl
  obeyed_goes p None (Some f) is h = applied_goes p f is h

  change_goes : HearsChange r s d.entry d → Goes
  change_goes (inl (other, h)) = stay _ h refl
  change_goes (inr (p, reads, h)) = obeyed_goes p (refusal_of r p) (found_by r s p.attributes) refl h

  end_goes : HearsEnd r s d.entry d → Goes
  end_goes (first, next, goes, rest, t, stops, h) = after _ h (chained s next (with_tunnels next t) (ends at_once r d.entry s first next goes) (same next (with_tunnels next t) refl))

  hears_goes : (limited : Bool) (kind : ItemKind) → Hears kind r s limited d.entry d → (kind ≡ Tick) ⊎ Goes
  hears_goes limited (Access number) h = inr (access_goes number h)
  hears_goes limited Core h = inr (core_goes h)
  hears_goes limited Tunnel h = inr (did_goes (tunnel_did r s d.entry d h))
  hears_goes limited Verdict h = inr (verdict_goes limited h)
  hears_goes limited Change h = inr (change_goes h)
  hears_goes limited Tick h = inl refl
  hears_goes limited End h = inr (end_goes h)

-- Steps --------------------------------------------------------------------------------------------------------------------

-- the moment of a session's last packet does not fall
grows : (r : Rules) (s : State) (d : Deed) → Stands s → ((n : SessionNo) → passed_at s.passed n ≤ d.entry.moment) → Noted r s d → (n : SessionNo) → (passed_at s.passed n ≤ passed_at d.next.passed n) × (passed_at d.next.passed n ≤ d.entry.moment)
grows r s d stands low (Stays e) n = let is : passed_at d.next.passed n ≡ passed_at s.passed n = ap (λ (p : List Meters × (List ℕ × List Tenure)). passed_at p.1.0 n) e in let was = low n in (omega (arith, is), omega (arith, is, was))
grows r s d stands low (Starts k x plan term at session profile plans e) n = let is : passed_at d.next.passed n ≡ passed_at s.passed n = ap (λ (p : List Meters × (List ℕ × List Tenure)). passed_at p.1.0 n) e in let was = low n in (omega (arith, is), omega (arith, is, was))
grows r s d stands low (Changes f place at recasts e) n = let is : passed_at d.next.passed n ≡ passed_at s.passed n = ap (λ (p : List Meters × (List ℕ × List Tenure)). passed_at p.1.0 n) e in let was = low n in (omega (arith, is), omega (arith, is, was))
grows r s d stands low (PassesOne way k x v at asks is) n =
    let was = low n in
    elim (cases_eq (place_in x.number) (place_in n)) [
      | inl here ↦
          let now : passed_at d.next.passed n ≡ d.entry.moment =
          ap (λ (u : State). passed_at u.passed n) is ∙ ap (λ (k : ℕ). slice_index_or (slice_set s.passed (place_in x.number) d.entry.moment) k 0) (sym here)
          ∙ get_or-set_same s.passed (place_in x.number) d.entry.moment 0 (omega (arith, stands.passed)) in (omega (arith, now, was), omega (arith, now))
      | inr ne ↦
          let kept : passed_at d.next.passed n ≡ passed_at s.passed n = ap (λ (u : State). passed_at u.passed n) is ∙ get_or-set_other s.passed (place_in x.number) (place_in n) d.entry.moment 0 (λ e. ne (sym e)) in
          (omega (arith, kept), omega (arith, kept, was))
    ]

pub step_reckons : (r : Rules) (s : State) (limited : Bool) (d : Deed) (moment : ℕ) → Step r s limited d → Stands s → moment ≤ d.entry.moment → Reckons moment s → Reckons d.entry.moment d.next
step_reckons r s limited d moment h stands from reckons =
    let low : (n : SessionNo) → passed_at s.passed n ≤ d.entry.moment = λ n. let was = reckons.passed n in omega (arith, was, from) in
    let rise = grows r s d stands low (step_noted r s limited d h) in
    record {
      passed = λ n. (rise n).1;
      knows = λ n x l at leased. elim (hears_goes r s d limited d.entry.item.kind h.hears) [
        | inl is ↦
            let (y, lease, at_y, leased_y, number, began, idle) = tick_knows r s limited d h is n x l at leased in
            let was = reckons.knows n y lease at_y leased_y in
            let more = (rise y.number).0 in
            let same_one : passed_at d.next.passed x.number ≡ passed_at d.next.passed y.number = ap (passed_at d.next.passed) number in
            omega (arith, was, more, same_one, began, idle)
        | inr goes ↦ elim (goes n x l at leased) [
          | inr fresh ↦ omega (arith, fresh)
          | inl was ↦
              let before = reckons.knows n was.y was.lease was.at was.leased in
              let more = (rise was.y.number).0 in
              let same_one : passed_at d.next.passed x.number ≡ passed_at d.next.passed was.y.number = ap (passed_at d.next.passed) was.number in
              let began = was.began in
              let idle = was.idle in
              omega (arith, before, more, same_one, began, idle)
        ]
      ];
    }

pub settled_reckons : (moment : ℕ) (s : State) → Reckons moment s → Reckons moment (settled s)
settled_reckons moment s h = record { passed = h.passed; knows = λ n x l at leased. h.knows n x l (kept_from (λ (y : Session). not (leaves y)) s.sessions n x at).0 leased }

-- The opening --------------------------------------------------------------------------------------------------------------

-- a circuit's term knows of no packet
fresh_circuit : (now k : ℕ) (cs : List Static) (x : Session) → Contains (map (λ e. e.1) (numbered_after now k cs)) x → (l : Lease) → x.lease ≡ Some l → l.life.idle_from ≡ l.life.began
fresh_circuit now k [] x (i, within, is) l leased = absurd (omega (arith, within))
fresh_circuit now k (c ∷ cs) x (zero, within, is) l leased =
    let one : lease_from now c (k + 1) ≡ l = same_some (lease_from now c (k + 1)) l (ap (λ (y : Session). y.lease) is ∙ leased) in
    sym (ap (λ (j : Lease). j.life.idle_from) one) ∙ ap (λ (j : Lease). j.life.began) one
fresh_circuit now k (c ∷ cs) x (suc i, within, is) l leased = fresh_circuit now (k + 1) cs x (i, omega (arith, within), is) l leased

pub opened_reckons : (number : ℕ) (profiles : List Profile) (circuits : List Static) (now : ℕ) → AllPairs (λ a b. a.session ≢ b.session) circuits → Reckons now (opened_slots number profiles circuits now)
opened_reckons number profiles circuits now apart =
    let s = opened_slots number profiles circuits now in
    let are : values s.sessions ≡ map (λ e. e.1) (numbered_after now 0 (in_order number circuits)) = ap (λ es. map (λ e. e.1) es) (opened_entries number circuits now (apart_of circuits apart)) in
    record {
      passed = λ n. let is = none_at_opening number profiles circuits now n in omega (arith, is);
      knows = λ n x l at leased. let fresh = fresh_circuit now 0 (in_order number circuits) x (subst (λ (xs : List Session). Contains xs x) are (stands s.sessions n x at)) l leased in omega (arith, fresh);
    }

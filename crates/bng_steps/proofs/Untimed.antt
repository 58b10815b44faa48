-- No entry but a Tick ends a live term by Idle Timeout or by Session Timeout.
use Rattle.std.proofs.Common.{◌≡◌, ◌≢◌, ◌⊎◌, inl, inr, ℕ, zero, suc, ◌+◌, ◌*◌, ◌==◌, ◌&&◌, Bool, true, false, not, cond, List, [], ◌∷◌, Option, Some, None, IfSome, is_some, fold, map, refl, sym, ap, subst, arith}
use Rattle.std.specs.Prelude.{if◌then◌else◌}
use Rattle.std.specs.List.{All, AllByRecursion, Contains, range_with_len}
use Rattle.std.proofs.lemmas.Bool.{false≢true}
use Rattle.std.proofs.lemmas.List.Elements.{All-contains, All-contains_itself, All-from_recursion, All-push, recursion_from_All}
use Rattle.bng_base.specs.declared.address.Ip4.{Ip4}
use Rattle.bng_base.specs.declared.item.At.{At}
use Rattle.bng_base.specs.declared.item.Entry.{Entry}
use Rattle.bng_base.specs.declared.item.ItemKind.{ItemKind}
use Rattle.bng_base.specs.declared.item.ItemKind.TheVariants.{Access, Core, Tunnel, Verdict, Change, Tick, End}
use Rattle.bng_base.specs.declared.item.OutRecord.{OutRecord}
use Rattle.bng_base.specs.declared.settings.AccessPort.{AccessPort}
use Rattle.bng_base.specs.PppoeGrammar.{PppoeFrame, PppoeTag}
use Rattle.bng_discovery.specs.declared.answers.Answer.{Answer}
use Rattle.bng_discovery.specs.declared.answers.Answer.TheVariants.{Offer, Make, Again, Refuse, Ended, NoSession, Ignore}
use Rattle.bng_discovery.specs.declared.port.PortRules.{PortRules}
use Rattle.bng_ppp.specs.declared.rules.LinkRules.{LinkRules}
use Rattle.bng_ppp.specs.declared.input.Input.{Input}
use Rattle.bng_ppp.specs.declared.input.Input.TheVariants.{Start, Frame, Timer, Verdict as Settled, Close, Lost}
use Rattle.bng_ppp.specs.Layers.{Turn}
use Rattle.bng_ppp.specs.LinkRelation.{LinkGoes, LinkSaid, LinkSteps}
use Rattle.bng_ppp.specs.LinkState.{LinkState}
use Rattle.bng_radius_wire.specs.Grammar.{Packet}
use Rattle.bng_sessions.specs.Sessions.{value_at}
use Rattle.bng_steps.specs.LinkService.{LinkService}
use Rattle.bng_steps.specs.declared.rules.Rules.{Rules}
use Rattle.bng_steps.specs.declared.session.Lease.{Lease}
use Rattle.bng_steps.specs.declared.session.Service.{Service}
use Rattle.bng_steps.specs.declared.session.Service.TheVariants.{Provisioned, Linked}
use Rattle.bng_steps.specs.declared.session.Session.{Session}
use Rattle.bng_steps.specs.Changes.{Applies, Found, HearsChange, Obeys, found_by, recast_by, refusal_of}
use Rattle.bng_steps.specs.Cutting.{cut_at, cut_if, cut_of, cut_off, is_cut, numbers_most}
use Rattle.bng_steps.specs.Deed.{Deed, at_of, beside_of}
use Rattle.bng_steps.specs.Discovery.{Answers}
use Rattle.bng_steps.specs.Frames.{HearsAccess, HearsControl, HearsCore, HearsData, HearsIn, HearsPpp}
use Rattle.bng_steps.specs.Link.{Drives, Told, ended, hears, nas_request}
use Rattle.bng_steps.specs.State.{Beside, State, call_of, session_of, with_ended, with_tunnels}
use Rattle.bng_steps.specs.Step.{Hears, Step}
use Rattle.bng_steps.specs.Tenures.{Tenure, closed, is_over}
use Rattle.bng_steps.specs.Timers.{Ends, HearsEnd, LosesTerm, at_once}
use Rattle.bng_steps.specs.Verdicts.{HearsVerdict, Judges, settled_by}
use Rattle.bng_steps.proofs.CircuitsKept.{closed_holds}
use Rattle.bng_steps.proofs.LinkSteps.{frame_of, frame_steps}
use Rattle.bng_steps.proofs.Overdue.{OfLink, ended_link, goes_link}
use Rattle.bng_steps.proofs.Tunnelling.{Did, Idles, Speaks, Cuts, Comes, TurnsOne, PartsOne, ConnectsOne, PassesUp, HearsOne, tunnel_did}
use Rattle.bng_steps.proofs.Values.{none_some, same_some}

-- Links --------------------------------------------------------------------------------------------------------------------

any_link : (r : LinkRules) (what : Input) (now : ℕ) (random : List ℕ) (old : LinkState) (t : Turn) (cause : Option ℕ) → LinkGoes r what now random old t cause → OfLink cause
any_link r Start now random old t cause (steps, is) = subst OfLink (sym is) tt
any_link r (Frame octets) now random old t cause (frame, is) = subst OfLink (sym is) (ended_link t.link.live t.left t.ended 1 (inl refl))
any_link r Timer now random old t cause goes = goes_link r now random old t cause goes
any_link r (Settled accepted lease text) now random old t cause (settles, is) = subst OfLink (sym is) tt
any_link r Close now random old t cause (steps, is) = subst OfLink (sym is) tt
any_link r Lost now random old t cause (steps, is) = subst OfLink (sym is) tt

steps_link : (r : LinkRules) (what : Input) (now : ℕ) (random : List ℕ) (old : LinkState) (says : LinkSaid) (new : LinkState) → LinkSteps r what now random old says new → OfLink says.term_ended
steps_link r what now random old says new h = subst OfLink (sym (ap (λ (x : LinkSaid). x.term_ended) h.said)) (any_link r what now random old h.turn h.cause h.goes)

heard_link : (r : Rules) (e : Entry) (a : At) (beside : Beside) (x x' : Session) (outs : List OutRecord) (cause : Option ℕ) (beside' : Beside) (octets : List ℕ) → Drives r a beside x (hears r e octets) outs cause x' beside' → OfLink cause
heard_link r e a beside x x' outs cause beside' octets h =
    subst OfLink (sym h.closes)
    (steps_link r.link (frame_of octets) e.moment e.item.random h.made.link h.says h.link (frame_steps r.link e.moment e.item.random h.made.link h.says h.link octets h.steps))

-- Terms --------------------------------------------------------------------------------------------------------------------

abbrev IsTimeout : ℕ → Type 0
IsTimeout c = (c ≡ 4) ⊎ (c ≡ 5)

-- a term that has ended by a timeout had ended before
abbrev Untimed : List Tenure → Tenure → Type 0
Untimed before t = (c : ℕ) → t.cause ≡ Some c → IsTimeout c → Contains before t

link_untimed : (c : ℕ) → (c ≡ 1) ⊎ (c ≡ 2) → IsTimeout c → ⊥
link_untimed c (inl a) (inl b) = omega (arith, a, b)
link_untimed c (inl a) (inr b) = omega (arith, a, b)
link_untimed c (inr a) (inl b) = omega (arith, a, b)
link_untimed c (inr a) (inr b) = omega (arith, a, b)

six_untimed : IsTimeout 6 → ⊥
six_untimed (inl e) = omega (arith, e)
six_untimed (inr e) = omega (arith, e)

ten_untimed : IsTimeout 10 → ⊥
ten_untimed (inl e) = omega (arith, e)
ten_untimed (inr e) = omega (arith, e)

itself : (ts : List Tenure) → All (Untimed ts) ts
itself ts = λ k t lt c is timeout. All-contains_itself ts k t lt

module _ (before : List Tenure) where
  closes : (lease : Option Lease) (cause : Option ℕ) (ts : List Tenure) → IfSome cause (λ c. IsTimeout c → ⊥) → All (Untimed before) ts → All (Untimed before) (closed lease cause ts)
  closes lease cause ts none h =
      closed_holds (Untimed before) lease cause ts
      (λ l c leased is t same k e timeout. absurd (subst (λ (o : Option ℕ). IfSome o (λ c. IsTimeout c → ⊥)) is none (subst IsTimeout (sym (same_some c k e)) timeout))) h

  by_link : (cause : Option ℕ) → OfLink cause → IfSome cause (λ c. IsTimeout c → ⊥)
  by_link None h = tt
  by_link (Some c) h = link_untimed c h

  one_recast : (serial place : ℕ) (t : Tenure) → Untimed before t → Untimed before (recast_by serial place t)
  one_recast serial place t h = by_test ((t.term.serial == serial) && not (is_over t)) refl
    where
      live : (b : Bool) (o : Option ℕ) → (b && not (is_some o)) ≡ true → (c : ℕ) → o ≡ Some c → ⊥
      live true None e c is = none_some c is
      live true (Some k) e c is = false≢true e
      live false o e c is = false≢true e

      by_test : (b : Bool) → ((t.term.serial == serial) && not (is_over t)) ≡ b → Untimed before (cond b (record t { profile = place }) t)
      by_test true e = λ c is timeout. absurd (live (t.term.serial == serial) t.cause e c is)
      by_test false e = h

  recasts : (serial place : ℕ) (ts : List Tenure) → AllByRecursion (Untimed before) ts → AllByRecursion (Untimed before) (map (recast_by serial place) ts)
  recasts serial place [] h = tt
  recasts serial place (t ∷ ts) h = (one_recast serial place t h.0, recasts serial place ts h.1)

  abbrev Kept : State → Type 0
  Kept s = All (Untimed before) s.terms

  cut_one : (tunnel : ℕ) (s : State) (n : ℕ) (o : Option Session) → Kept s → Kept (cut_of tunnel s n o)
  cut_one tunnel s n None h = h
  cut_one tunnel s n (Some x) h =
      elim (is_cut tunnel x) as (λ (b : Bool). Kept (if b then with_ended s n x.lease 2 (ended x) else s)) [ true ↦ closes x.lease (Some 2) s.terms (link_untimed 2 (inr refl)) h | false ↦ h ]

  cuts : (tunnel : ℕ) (ns : List ℕ) (s : State) → Kept s → Kept (fold (cut_at tunnel) s ns)
  cuts tunnel [] s h = h
  cuts tunnel (n ∷ ns) s h = cuts tunnel ns (cut_at tunnel s n) (cut_one tunnel s n (value_at s.sessions n) h)

  cuts_off : (tunnel : ℕ) (s : State) → Kept s → Kept (cut_off tunnel s)
  unfolding cut_off
  cuts_off tunnel s h = cuts tunnel (range_with_len (s.sessions.shard * 1024 + 1) numbers_most) s h

  cuts_if : (cleared : Bool) (tunnel : ℕ) (s : State) → Kept s → Kept (cut_if cleared tunnel s)
  cuts_if cleared tunnel s h = elim (cleared && not (tunnel == 0)) as (λ (b : Bool). Kept (if b then cut_off tunnel s else s)) [ true ↦ cuts_off tunnel s h | false ↦ h ]

  ends : (k : ℕ) (r : Rules) (e : Entry) (s : State) (outs : List OutRecord) (s' : State) → Kept s → Ends k r e s outs s' → Kept s'
  ends zero r e s outs s' h goes = subst Kept (sym goes.1) h
  ends (suc k) r e s outs s' h (inl (low, nothing, is)) = subst Kept (sym is) h
  ends (suc k) r e s outs s' h (inr (n, low, x, at, padt, rest, tells, more, all)) =
      ends k r e (with_ended s n x.lease nas_request (ended x)) rest s' (closes x.lease (Some nas_request) s.terms ten_untimed h) more

-- Entries ------------------------------------------------------------------------------------------------------------------

module _ (r : Rules) (s : State) (d : Deed) where
  abbrev Goes : Type 0
  Goes = All (Untimed s.terms) d.next.terms

  leads : (f : Deed) → d ≡ f → All (Untimed s.terms) f.next.terms → Goes
  leads f h goes = subst (λ (g : Deed). All (Untimed s.terms) g.next.terms) (sym h) goes

  base : All (Untimed s.terms) s.terms
  base = itself s.terms

  data_goes : (found : Option Session) (info : List ℕ) → HearsData r s d.entry found info d → Goes
  data_goes found info (fate, is, inl (goes, h)) = leads _ h.done base
  data_goes found info (fate, is, inr (stays, h)) = leads _ h base

  ppp_goes : (n : ℕ) (x : Session) (made : LinkService) (octets : List ℕ) → HearsPpp r s d.entry n x made octets d → Goes
  ppp_goes n x made octets (inl (over, h)) = leads _ h base
  ppp_goes n x made octets (inr (lives, outs, cause, x', beside, drives, h)) =
      leads _ h (closes s.terms x.lease cause s.terms (by_link s.terms cause (heard_link r d.entry (at_of s d.entry) (beside_of s d.entry) x x' outs cause beside octets drives)) base)

  control_goes : (v : Service) (x : Session) (p : PppoeFrame) → HearsControl v r s d.entry x p d → Goes
  control_goes (Provisioned v) x p h = leads _ h base
  control_goes (Linked made) x p (inl (padt, inl (over, h))) = leads _ h base
  control_goes (Linked made) x p (inl (padt, inr (lives, h))) = leads _ h (closes s.terms x.lease (Some 1) s.terms (link_untimed 1 (inl refl)) base)
  control_goes (Linked made) x p (inr (other, h)) = ppp_goes p.session x made p.payload h

  in_goes : (found : Option Session) (p : PppoeFrame) → HearsIn found r s d.entry p d → Goes
  in_goes None p h = leads _ h base
  in_goes (Some x) p h = control_goes x.service x p h

  answers_goes : (answer : Answer) (number : ℕ) (port : AccessPort) (offers : PortRules) (p : PppoeFrame) (tags : List PppoeTag) → Answers answer r s d.entry number port offers p tags d → Goes
  answers_goes Offer number port offers p tags h = leads _ h base
  answers_goes Make number port offers p tags h = leads _ h.done base
  answers_goes Again number port offers p tags h = leads _ h.done base
  answers_goes (Refuse error) number port offers p tags h = leads _ h base
  answers_goes Ended number port offers p tags h = leads _ h base
  answers_goes NoSession number port offers p tags h = leads _ h base
  answers_goes Ignore number port offers p tags h = leads _ h base

  access_goes : (number : ℕ) → HearsAccess r s d.entry number d → Goes
  access_goes number (inl (malformed, h)) = leads _ h base
  access_goes number (inr (p, is, inl (info, carries, h))) = data_goes (session_of s number p.src p.session) info h
  access_goes number (inr (p, is, inr (inl (names, no_packet, h)))) = in_goes (session_of s number p.src p.session) p h
  access_goes number (inr (p, is, inr (inr (before, h)))) = answers_goes h.answer number h.port h.offers p h.tags h.does

  core_goes : HearsCore r s d.entry d → Goes
  core_goes (inl (malformed, h)) = leads _ h base
  core_goes (inr (v, is, (fate, row, inl (goes, h)))) = leads _ h.done base
  core_goes (inr (v, is, (fate, row, inr (stays, h)))) = leads _ h base

  did_goes : Did r s d.entry d → Goes
  did_goes (Idles fate f h) = leads _ h base
  did_goes (Speaks frames t spelled h) = leads _ h base
  did_goes (Cuts frames t cleared number spelled h) = leads _ h (cuts_if s.terms cleared number (with_tunnels s t) base)
  did_goes (Comes frames t n number tunnel call link spelled vacant new h) = leads _ h base
  did_goes (TurnsOne frames t n x m c call spelled at is way h) = leads _ h base
  did_goes (PartsOne frames t n x m c call spelled at is way h) = leads _ h (closes s.terms x.lease (Some 2) s.terms (link_untimed 2 (inr refl)) base)
  did_goes (ConnectsOne frames t n x x' m c call link outs free beside' spelled at is way new drives h) = leads _ h (closes s.terms x.lease (Some 2) s.terms (link_untimed 2 (inr refl)) base)
  did_goes (PassesUp p info is carries h) = data_goes (call_of s d.entry.item.from p.tunnel p.session) info h
  did_goes (HearsOne p x m is at made h) = ppp_goes p.session x m p.ppp h

  judged_goes : (t : Told) (j : Judges r s d.entry t d) (lease : Option Ip4) → d.next.terms ≡ (settled_by s d.entry.item.target j.x j.question t d.entry.moment j.after j.beside lease).terms → Goes
  judged_goes t j None is = subst (All (Untimed s.terms)) (sym is) base
  judged_goes t j (Some a) is = subst (All (Untimed s.terms)) (sym is) (All-push (Untimed s.terms) s.terms _ base (λ c e timeout. absurd (none_some c e)))

  verdict_goes : (limited : Bool) → HearsVerdict r s d.entry limited d → Goes
  verdict_goes limited (inl (asks, t, decides, j)) = judged_goes t j t.lease (ap (λ (g : Deed). g.next.terms) j.done)
  verdict_goes limited (inr (inl (asks, decides, h))) = leads _ h base
  verdict_goes limited (inr (inr (other, claim, h))) = leads _ h base

  loses_goes : (v : Service) (n : ℕ) (x : Session) (outs : List OutRecord) (s' : State) → LosesTerm v 6 r d.entry s n x outs s' → All (Untimed s.terms) s'.terms
  loses_goes (Provisioned over) n x outs s' (nothing, is) = subst (λ (t : State). All (Untimed s.terms) t.terms) (sym is) (closes s.terms x.lease (Some 6) s.terms six_untimed base)
  loses_goes (Linked m) n x outs s' (y, free, beside, drives, is) = subst (λ (t : State). All (Untimed s.terms) t.terms) (sym is) (closes s.terms x.lease (Some 6) s.terms six_untimed base)

  applied_goes : (p : Packet) (f : Found) → Applies r s d.entry p f d → Goes
  applied_goes p f (inl (code, h)) = leads _ h (All-from_recursion (Untimed s.terms) _ (recasts s.terms _ _ s.terms (recursion_from_All (Untimed s.terms) s.terms base)))
  applied_goes p f (inr (code, outs, s', loses, h)) = leads _ h (loses_goes f.session.service f.term.term.session.0 f.session outs s' loses)

  obeyed_goes : (p : Packet) (cause : Option ℕ) (found : Option Found) → Obeys cause found r s d.entry p d → Goes
  obeyed_goes p (Some cause) found h = leads _ h base
  obeyed_goes p None None h = leads _ h base
  obeyed_goes p None (Some f) h = applied_goes p f h

  change_goes : HearsChange r s d.entry d → Goes
  change_goes (inl (other, h)) = leads _ h base
  change_goes (inr (p, reads, h)) = obeyed_goes p (refusal_of r p) (found_by r s p.attributes) h

  end_goes : HearsEnd r s d.entry d → Goes
  end_goes (first, next, goes, rest, t, stops, h) = leads _ h (ends s.terms at_once r d.entry s first next base goes)

  hears_goes : (limited : Bool) (kind : ItemKind) → Hears kind r s limited d.entry d → (kind ≡ Tick) ⊎ Goes
  hears_goes limited (Access number) h = inr (access_goes number h)
  hears_goes limited Core h = inr (core_goes h)
  hears_goes limited Tunnel h = inr (did_goes (tunnel_did r s d.entry d h))
  hears_goes limited Verdict h = inr (verdict_goes limited h)
  hears_goes limited Change h = inr (change_goes h)
  hears_goes limited Tick h = inl refl
  hears_goes limited End h = inr (end_goes h)

-- what an entry that is no Tick ends ends by no timeout
pub untimed : (r : Rules) (s : State) (limited : Bool) (d : Deed) (t : Tenure) (c : ℕ) → Step r s limited d → d.entry.item.kind ≢ Tick → Contains d.next.terms t → t.cause ≡ Some c → (c ≡ 4) ⊎ (c ≡ 5) → Contains s.terms t
untimed r s limited d t c h other there is timeout =
    elim (hears_goes r s d limited d.entry.item.kind h.hears) [ inl tick ↦ absurd (other tick) | inr goes ↦ All-contains (Untimed s.terms) d.next.terms t goes there c is timeout ]

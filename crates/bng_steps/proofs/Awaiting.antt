-- No Interim falls due before a moment that is at most a minute away: what each entry keeps of it.
use Rattle.std.proofs.Common.{◌≡◌, ℕ, ◌+◌, ◌≤◌, max, Bool, not, List, Option, Some, None, IfSome, option_map, inl, inr, refl, sym, subst, ◌∙◌, arith}
use Rattle.bng_base.specs.declared.address.Ip4.{Ip4}
use Rattle.bng_base.specs.declared.item.OutRecord.{OutRecord}
use Rattle.bng_ppp.specs.declared.input.Input.TheVariants.{Start, Close}
use Rattle.bng_term.specs.declared.limits.Limits.{Limits}
use Rattle.bng_term.specs.Lifetimes.{HasAllowedInterval, seconds_after}
use Rattle.bng_base.specs.declared.item.ItemKind.{ItemKind}
use Rattle.bng_steps.specs.declared.changes.ChangeAnswer.{ChangeAnswer}
use Rattle.bng_steps.specs.declared.meters.Plan.{Plan}
use Rattle.bng_steps.specs.declared.rules.Rules.{Rules}
use Rattle.bng_base.specs.declared.item.At.{At}
use Rattle.bng_steps.specs.declared.session.Lease.{Lease}
use Rattle.bng_steps.specs.declared.session.Session.{Session}
use Rattle.bng_steps.specs.Calls.{called_session, linked_anew, turned}
use Rattle.bng_steps.specs.Changes.{AnswersKind, AnswersRequest, HearsChange, IsAnswerOf, answer_to}
use Rattle.bng_steps.specs.Deed.{Deed, at_of, beside_of, ignored}
use Rattle.bng_steps.specs.Interims.{AwaitsInterims, Reports, interim_in, reported_at}
use Rattle.bng_steps.specs.Link.{Drives, LinkStep, Told, ended, settles, told}
use Rattle.bng_steps.specs.Passing.{lapsed, looked, looked_on}
use Rattle.bng_steps.specs.State.{Beside, State, leaves, settled}
use Rattle.bng_steps.specs.Step.{Step}
use Rattle.bng_steps.specs.Tenures.{kept_lease}
use Rattle.bng_steps.specs.Verdicts.{Judges, next_lease, settled_by}
use Rattle.bng_steps.proofs.Housing.{with_kept}
use Rattle.bng_steps.proofs.Naming.{next_of}
use Rattle.bng_steps.proofs.Values.{kept_from, none_some}
use Rattle.bng_steps.proofs.Walking.{Stops, Walks, step_walks_by, walks_by}
use Rattle.bng_steps.proofs.Wishing.{decides_allowed}

module _ (t : Reports) where
  -- Leases -----------------------------------------------------------------------------------------------------------------

  -- no Interim is due before that moment by this lease, where the last one of its session was at this moment
  abbrev LeaseAwaits : ℕ → Option Lease → Type 0
  LeaseAwaits at lease = IfSome (interim_in at lease) (λ due. t.next ≤ due)

  kept_awaits : (at : ℕ) (cause : Option ℕ) (lease : Option Lease) → LeaseAwaits at lease → LeaseAwaits at (kept_lease cause lease)
  kept_awaits at None lease h = h
  kept_awaits at (Some cause) lease h = tt

  looked_awaits : (at passed : ℕ) (lease : Option Lease) → LeaseAwaits at lease → LeaseAwaits at (looked_on passed lease)
  looked_awaits at passed None h = h
  looked_awaits at passed (Some l) h = h

  -- an interval that has its minute, from this moment on
  minute_awaits : (at moment : ℕ) (o : Option ℕ) → ((seconds : ℕ) → o ≡ Some seconds → 60 ≤ seconds) → t.next ≤ moment + 60000
      → IfSome (option_map (λ seconds. seconds_after seconds (max moment at)) o) (λ due. t.next ≤ due)
  minute_awaits at moment None long near = tt
  minute_awaits at moment (Some seconds) long near = omega (arith, long seconds refl, near)

  begun_awaits : (at : ℕ) (s : State) (plan : Plan) (limits : Limits) (moment : ℕ) (a : Ip4) → HasAllowedInterval limits → t.next ≤ moment + 60000 → LeaseAwaits at (Some (next_lease s plan limits moment a))
  begun_awaits at s plan limits moment a long near = minute_awaits at moment limits.interim long near

  -- Sessions ---------------------------------------------------------------------------------------------------------------

  abbrev Awaits : Session → Type 0
  Awaits x = LeaseAwaits (reported_at t.last x.number) x.lease

  driven_awaits : (r : Rules) (a : At) (beside : Beside) (x x' : Session) (outs : List OutRecord) (cause : Option ℕ) (beside' : Beside) (Steps : LinkStep) → Drives r a beside x Steps outs cause x' beside' → Awaits x → Awaits x'
  driven_awaits r a beside x x' outs cause beside' Steps d h = subst Awaits (sym d.session) (kept_awaits (reported_at t.last x.number) d.says.term_ended x.lease h)

  none_awaits : (x : Session) → x.lease ≡ None → Awaits x
  none_awaits x none = subst (LeaseAwaits (reported_at t.last x.number)) (sym none) tt

  -- Steps ------------------------------------------------------------------------------------------------------------------

  abbrev Keeps : State → State → Type 0
  Keeps s s' = AwaitsInterims s t → AwaitsInterims s' t

  keeps_walk : (r : Rules) → Walks r Keeps
  keeps_walk r = record {
    same = λ s s' e h. subst (λ (u : State). AwaitsInterims u t) (sym e) h;
    then = λ s s' s'' f g h. g (f h);
    driven = λ Steps e s n x x' outs cause beside' at d h. with_kept Awaits s n x' (driven_awaits r (at_of s e) (beside_of s e) x x' outs cause beside' Steps d (h n x at)) h;
    made = λ Steps e s n x x' outs cause beside' none d h. with_kept Awaits s n x' (driven_awaits r (at_of s e) (beside_of s e) x x' outs cause beside' Steps d (none_awaits x none)) h;
    ends = λ s n x m cause lost at is h. with_kept Awaits s n (ended x) tt h;
    passes = λ s n moment ms h. h;
    looks = λ s n at x found h. with_kept Awaits s n (looked at x) (looked_awaits (reported_at t.last x.number) at x.lease (h n x found)) h;
    lapses = λ e s n x x' outs cause none beside' at over d h.
        with_kept Awaits s n x' (driven_awaits r (at_of s e) (beside_of s e) (lapsed x) x' outs none beside' (told r e Close) d tt) h;
    lapses_circuit = λ e s n x over cause at is lapse h. with_kept Awaits s n (lapsed x) tt h;
    tells = λ s u h. h;
    comes = λ e s n number peer u c link vacant new h. with_kept Awaits s n (called_session n peer number u c link) tt h;
    turns = λ s n x c call at is h. with_kept Awaits s n (turned x c call) (h n x at) h;
    over = λ s n x m c call at is way h. with_kept Awaits s n (ended (turned x c call)) tt h;
    connects = λ e s n x x' m c call link outs none beside' at is way new d h.
        with_kept Awaits s n x' (driven_awaits r (at_of s e) (beside_of s e) (linked_anew (turned x c call) link) x' outs none beside' (told r e Start) d tt) h;
  }

  keeps_stops : Stops Keeps
  keeps_stops s n x at h = with_kept Awaits s n (ended x) tt h

  module _ (r : Rules) (s : State) (limited : Bool) (d : Deed) (near : t.next ≤ d.entry.moment + 60000) where
    judged_keeps : (u : Told) (j : Judges r s d.entry u d) → HasAllowedInterval u.limits → (lease : Option Ip4)
        → Keeps s (settled_by s d.entry.item.target j.x j.question u d.entry.moment j.after j.beside lease)
    judged_keeps u j long None h =
        with_kept Awaits s d.entry.item.target j.after (driven_awaits r (at_of s d.entry) (beside_of s d.entry) j.x j.after j.outs j.cause j.beside (settles r d.entry u) j.drives (none_awaits j.x j.no_term)) h
    judged_keeps u j long (Some a) h =
        let lease = next_lease s u.plan u.limits d.entry.moment a in
        with_kept Awaits s d.entry.item.target (record j.after { lease = Some lease }) (begun_awaits (reported_at t.last j.after.number) s u.plan u.limits d.entry.moment a long near) h

    -- what is no request for a change, and so is not answered, changes nothing
    unanswered_same : (answer : Option ChangeAnswer) → AnswersRequest r s d.entry answer → answer ≡ None → HearsChange r s d.entry d → d.next ≡ s
    unanswered_same answer (inl (no_request, is)) none (inl (other, h)) = next_of d (ignored s d.entry) h
    unanswered_same answer (inl (no_request, is)) none (inr (p, reads, h)) = absurd (no_request p reads)
    unanswered_same answer (inr (p, reads, is)) none h = absurd (none_some (answer_to r s d.entry p) (sym none ∙ is))

    pub awaits_kept : (answer : Option ChangeAnswer) → IsAnswerOf r s d.entry answer → answer ≡ None → Step r s limited d → AwaitsInterims s t → AwaitsInterims d.next t
    awaits_kept answer answered none =
        step_walks_by r Keeps (walks_by r Keeps (keeps_walk r)) keeps_stops s limited d
        (λ u decides j. judged_keeps u j (decides_allowed r limited d.entry.item.frame.payload d.entry.claim u decides) u.lease)
        (λ is h. subst (Keeps s) (sym (unanswered_same answer (subst (λ (k : ItemKind). AnswersKind k r s d.entry answer) is answered) none h)) (λ awaits. awaits))

  pub awaits_settled : (s : State) → AwaitsInterims s t → AwaitsInterims (settled s) t
  awaits_settled s h n x at = h n x (kept_from (λ (y : Session). not (leaves y)) s.sessions n x at).0

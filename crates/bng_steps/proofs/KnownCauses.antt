-- What ends a term ends it by one of the causes that there are: a step of its link, or a timeout.
use Rattle.std.proofs.Common.{◌≡◌, inl, inr, ℕ, Bool, true, false, List, Option, Some, None, IfSome, if◌then◌else◌, refl, sym, ap, subst}
use Rattle.bng_base.specs.declared.item.Entry.{Entry}
use Rattle.bng_base.specs.declared.item.OutRecord.{OutRecord}
use Rattle.bng_ppp.specs.declared.rules.LinkRules.{LinkRules}
use Rattle.bng_ppp.specs.declared.input.Input.{Input}
use Rattle.bng_ppp.specs.declared.input.Input.TheVariants.{Start, Frame, Timer, Verdict, Close, Lost}
use Rattle.bng_ppp.specs.Layers.{Turn}
use Rattle.bng_ppp.specs.LinkRelation.{LinkGoes, LinkSaid, LinkSteps, ended_by}
use Rattle.bng_ppp.specs.LinkState.{LinkState}
use Rattle.bng_ppp.specs.LinkTimers.{IsLossCause}
use Rattle.bng_term.specs.Lifetimes.{is_over}
use Rattle.bng_steps.specs.State.{Beside}
use Rattle.bng_steps.specs.declared.rules.Rules.{Rules}
use Rattle.bng_base.specs.declared.item.At.{At}
use Rattle.bng_steps.specs.declared.session.Lease.{Lease}
use Rattle.bng_steps.specs.declared.session.Session.{Session}
use Rattle.bng_steps.specs.Lasting.{IsCause, IsLapse}
use Rattle.bng_steps.specs.Link.{Drives, hears, told}
use Rattle.bng_steps.specs.Passing.{cause_at, last_passed}
use Rattle.bng_steps.proofs.LinkSteps.{frame_of, frame_steps}
use Rattle.bng_steps.proofs.Values.{none_some}

abbrev IsKnown : Option ℕ → Type 0
IsKnown cause = IfSome cause IsCause

-- Links ------------------------------------------------------------------------------------------------------------------

ended_known : (live left ended : Bool) (cause : ℕ) → IsCause cause → IsKnown (ended_by live left ended cause)
ended_known false left ended cause is = tt
ended_known true true ended cause is = is
ended_known true false true cause is = inl refl
ended_known true false false cause is = tt

loss_known : (old : LinkState) (now cause : ℕ) → IsLossCause old now cause → IsCause cause
loss_known old now cause (inl (finishes, is)) = inl is
loss_known old now cause (inr (goes_on, is)) = inr (inl is)

module _ (r : LinkRules) (now : ℕ) (random : List ℕ) (old : LinkState) (t : Turn) (cause : Option ℕ) where
  none_known : cause ≡ None → IsKnown cause
  none_known is = subst IsKnown (sym is) tt

  by_known : (n : ℕ) → IsCause n → cause ≡ ended_by t.link.live t.left t.ended n → IsKnown cause
  by_known n known is = subst IsKnown (sym is) (ended_known t.link.live t.left t.ended n known)

  goes_known : (what : Input) → LinkGoes r what now random old t cause → IsKnown cause
  goes_known Start (steps, is) = none_known is
  goes_known (Frame octets) (frame, is) = by_known 1 (inl refl) is
  goes_known Timer (reminds, (n, loss, is)) = by_known n (loss_known old now n loss) is
  goes_known (Verdict accepted lease text) (settles, is) = none_known is
  goes_known Close (steps, is) = none_known is
  goes_known Lost (steps, is) = none_known is

steps_known : (r : LinkRules) (what : Input) (now : ℕ) (random : List ℕ) (old : LinkState) (says : LinkSaid) (new : LinkState) → LinkSteps r what now random old says new → IsKnown says.term_ended
steps_known r what now random old says new h = subst IsKnown (sym (ap (λ (x : LinkSaid). x.term_ended) h.said)) (goes_known r now random old h.turn h.cause what h.goes)

module _ (r : Rules) (e : Entry) where
  module _ (a : At) (beside : Beside) (x x' : Session) (outs : List OutRecord) (cause : Option ℕ) (beside' : Beside) where
    -- a step of a link that was told this, and of one that hears these octets
    pub told_known : (what : Input) → Drives r a beside x (told r e what) outs cause x' beside' → IfSome cause IsCause
    told_known what h = subst IsKnown (sym h.closes) (steps_known r.link what e.moment e.item.random h.made.link h.says h.link h.steps)

    pub heard_known : (octets : List ℕ) → Drives r a beside x (hears r e octets) outs cause x' beside' → IfSome cause IsCause
    heard_known octets h =
        subst IsKnown (sym h.closes)
        (steps_known r.link (frame_of octets) e.moment e.item.random h.made.link h.says h.link (frame_steps r.link e.moment e.item.random h.made.link h.says h.link octets h.steps))

-- Timeouts ---------------------------------------------------------------------------------------------------------------

timeout_lapse : (idle session : Bool) → IfSome (if idle then Some 4 else (if session then Some 5 else None)) IsLapse
timeout_lapse true session = inl refl
timeout_lapse false true = inr (inl refl)
timeout_lapse false false = tt

-- a term that is over
pub lapse_at : (at : ℕ) (lease : Option Lease) (now cause : ℕ) → cause_at at lease now ≡ Some cause → IsLapse cause
lapse_at at None now cause is = absurd (none_some cause is)
lapse_at at (Some l) now cause is =
    let limits = l.life.limits in
    subst (λ (o : Option ℕ). IfSome o IsLapse) is (timeout_lapse (is_over limits.idle_timeout (last_passed at l) now) (is_over limits.session_timeout l.life.began now))

-- a term that ends without its subscriber ends by one of the causes that there are
pub lapse_known : (cause : ℕ) → IsLapse cause → IsCause cause
lapse_known cause lapse = inr (inr (inl lapse))

use Rattle.std.proofs.Common.{◌+◌, sym, ap, subst, ◌∙◌, arith}
use Rattle.bng_acct.specs.Queue.{AreWaiting, AllBelow, sheet_at}
use Rattle.bng_acct.specs.Spool.{State, Agree}
use Rattle.bng_acct.proofs.Forgetting.{Forgets, forgets_none, forgets_stop, forgets_other, forgets_waiting}
use Rattle.bng_acct.proofs.spool.Spool.stops_only.Goals as goal
use Rattle.bng_acct.proofs.spool.Spool.stops_only.Goals.{then-not-is_stop, else-not-is_stop}

pub loop-number-init : goal.loop-number-init
loop-number-init c = forgets_none c.args.self.now (subst (λ (s : State). Agree s.sheets s.held) c.self.view_is c.self.invariant.agree)

pub loop-number-preserved : goal.loop-number-preserved
loop-number-preserved c = elim c.if-not-is_stop.branch [
  | then-not-is_stop w ↦
      let old = c.args.self.now in
      let k = c.loop-number.number in
      let e = w.acked.ensures in
      subst (λ (s : State). Forgets old s (k + 1)) (sym w.self-is)
      (forgets_other old c.loop-number.self w.acked.new.self k c.loop-number.invariant (sym w.if-not-is_stop.ensures) e.sets e.waiting e.terms e.agree e.rules)
  | else-not-is_stop w ↦
      let old = c.args.self.now in
      let k = c.loop-number.number in
      subst (λ (s : State). Forgets old s (k + 1)) (sym w.self-is) (forgets_stop old c.loop-number.self k c.loop-number.invariant (sym w.if-not-is_stop.ensures))
]

pub returns-clause-waiting : goal.returns-clause-waiting
returns-clause-waiting c =
    let old = c.args.self.now in
    let k = c.loop-number.number in
    let inside = c.bound-number-end.ensures in
    let below : AllBelow old.sheets k = λ n x e. let under = inside.below n x (ap (λ (s : State). sheet_at s.sheets n) c.self.view_is ∙ e) in omega (arith, under) in
    forgets_waiting old c.loop-number.self k c.loop-number.invariant below (subst (λ (s : State). AreWaiting s.sheets s.waiting) c.self.view_is inside.waiting)

use Rattle.std.proofs.Common.{◌<◌, ◌^◌, subst, arith}
use Rattle.bng_desk.specs.Model.{Desk, HasOneRule}
use Rattle.bng_desk.proofs.Dwindling.{rules_rested}
use Rattle.bng_desk.proofs.desk.Desk.state.Goals as goal

pub returns-clause-rules : goal.returns-clause-rules
returns-clause-rules c = subst (λ (x : Desk). HasOneRule x) c.self.view_is (rules_rested c.self.inside.rules c.self.inside.works.shards.items c.self.invariant.0.rules)

-- each makes fewer that there may still be
pub returns-clause-few : goal.returns-clause-few
returns-clause-few c =
    let kept = c.self.invariant.0 in
    subst (λ (x : Desk). x.endings < 2 ^ 37) c.self.view_is (omega (arith, kept.left, kept.unopened))

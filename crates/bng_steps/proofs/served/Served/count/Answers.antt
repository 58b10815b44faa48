use Rattle.std.proofs.Common.{◌∙◌}
use Rattle.bng_steps.proofs.Values.{used_is}
use Rattle.bng_steps.proofs.served.Served.count.Goals as goal

pub returns-clause-count : goal.returns-clause-count
returns-clause-count g c = rw (← c.self.view_is) (c.count.ensures.used ∙ used_is (g.S.Store.sessions c.self.inside.sessions))

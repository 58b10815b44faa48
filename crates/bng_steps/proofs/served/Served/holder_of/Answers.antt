use Rattle.std.proofs.Common.{◌∙◌}
use Rattle.bng_steps.proofs.served.Served.holder_of.Goals as goal

pub returns : goal.returns
returns g c = rw (← c.self.view_is) c.holder.ensures

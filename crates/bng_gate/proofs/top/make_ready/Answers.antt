use Rattle.std.proofs.Common.{inr, refl}
use Rattle.bng_gate.proofs.top.make_ready.Goals as goal

pub returns-in-None-clause-refused : goal.returns-in-None-clause-refused
returns-in-None-clause-refused g c = inr (refl, (c.in-Ok.config, c.in-Ok.ensures.prepared, c.in-None.ensures.failed))

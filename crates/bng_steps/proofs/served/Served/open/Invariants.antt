use Rattle.std.proofs.Common.{◌-◌}
use Rattle.bng_steps.proofs.Circuits.{Opens}
use Rattle.bng_steps.proofs.served.Served.open.Given as goal

abbrev pub invariant-loop-n : goal.invariant-loop-n
invariant-loop-n g l = Opens l.now l.number l.circuits (l.n - l.first) (g.S.Store.sessions l.sessions) l.begun

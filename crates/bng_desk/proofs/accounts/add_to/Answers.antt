use Rattle.std.proofs.Common.{true, false, arith}
use Rattle.bng_steps.specs.Protocol.{stop_of}
use Rattle.bng_desk.proofs.Lines.{one_said}
use Rattle.bng_desk.proofs.accounts.add_to.Goals as goal

pub overflow_add-line : goal.overflow_add-line
overflow_add-line c = omega (arith, c.requires true, one_said true c.args.line.now (stop_of c.args.ended.now) c.if-line-ended.true)

pub overflow_add-line-then-line-ended : goal.overflow_add-line-then-line-ended
overflow_add-line-then-line-ended c = omega (arith, c.requires false, one_said false c.args.line.now (stop_of c.args.ended.now) c.if-line-ended.true)

use Rattle.std.proofs.Common.{true, false, arith}
use Rattle.bng_engine.specs.Quantities.{Octets, Packets}
use Rattle.bng_desk.proofs.sums.plus_book.Goals as goal

pub overflow_add-result : goal.overflow_add-result
overflow_add-result c = omega (arith, c.requires.low Octets true)

pub overflow_add-result-2 : goal.overflow_add-result-2
overflow_add-result-2 c = omega (arith, c.requires.low Octets false)

pub overflow_add-result-3 : goal.overflow_add-result-3
overflow_add-result-3 c = omega (arith, c.requires.low Packets true)

pub overflow_add-result-4 : goal.overflow_add-result-4
overflow_add-result-4 c = omega (arith, c.requires.low Packets false)

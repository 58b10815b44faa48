use Rattle.std.proofs.Common.{arith}
use Rattle.bng_coa.proofs.Numbers.{none_free}
use Rattle.bng_coa.proofs.requests.ChangeRequests.free_number.Goals as goal

pub unreachable-requires : goal.unreachable-requires
unreachable-requires c = omega (arith, none_free 256 c.args.self.now (λ n lt. c.loop-number.invariant n (omega arith)))

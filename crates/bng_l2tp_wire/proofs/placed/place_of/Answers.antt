use Rattle.std.proofs.Common.{rules}
use Rattle.bng_l2tp_wire.specs.Values.{PlacedAvp, is_of}
use Rattle.bng_l2tp_wire.proofs.Placing.{found_placed}
use Rattle.bng_l2tp_wire.proofs.placed.place_of.Goals as goal

pub returns-then-is_of-clause-vector : goal.returns-then-is_of-clause-vector
returns-then-is_of-clause-vector c = found_placed (λ (p : PlacedAvp). is_of c.args.kind p.avp) _ _ (search rules)

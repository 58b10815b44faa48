use Rattle.std.proofs.Common.{◌≡◌, take}
use Rattle.bng_desk.proofs.Leases.{ClaimedBy}
use Rattle.bng_desk.proofs.opening.claim_all.Given as goal

-- the circuits so far hold their addresses
abbrev pub invariant-loop-circuit : goal.invariant-loop-circuit
invariant-loop-circuit l = record {
  claimed : ClaimedBy (take l.circuit-index l.circuits) l.pool.table;
  ranges : l.pool.ranges ≡ l.fn.pool.ranges;
  shards : l.pool.shards ≡ l.fn.pool.shards;
}

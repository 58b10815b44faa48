use Rattle.std.proofs.Common.{◌≡◌, ◌≤◌, length, take, vec_capacity}
use Rattle.bng_desk.proofs.copying.pools_copied.Given as goal

-- the pools so far were copied
abbrev pub invariant-loop-pool : goal.invariant-loop-pool
invariant-loop-pool l = record {
  same : l.copies.items ≡ take l.pool-index l.pools;
  done : length l.copies.items ≡ l.pool-index;
  room : length l.pools ≤ vec_capacity l.copies;
}

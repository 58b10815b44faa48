use Rattle.std.proofs.Common.{◌≡◌, ◌<◌, ℕ, Some, slice_index_or}
use Rattle.bng_base.specs.declared.settings.Static.{Static}
use Rattle.bng_pool.specs.Tables.{entry}
use Rattle.bng_shard_tests.proofs.shard.terms.are_held.Given as goal

-- those that were looked at are held
abbrev pub invariant-loop-circuit : goal.invariant-loop-circuit
invariant-loop-circuit l = (k : ℕ) (d : Static) → k < l.circuit-index → entry l.pool.table (slice_index_or l.circuits k d).address.0 ≡ Some 1

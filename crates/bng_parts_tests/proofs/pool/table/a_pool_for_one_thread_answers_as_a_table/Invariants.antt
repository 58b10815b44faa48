use Rattle.std.proofs.Common.{◌≡◌, length}
use Rattle.bng_parts_tests.proofs.pool.table.a_pool_for_one_thread_answers_as_a_table.Given as goal

abbrev pub invariant-loop-call : goal.invariant-loop-call
invariant-loop-call g l = (length l.pool.ranges ≡ 2) × (l.pool.shards ≡ 3)

use Rattle.std.proofs.Common.{length}
use Rattle.bng_engine.proofs.Walks.{Walked}
use Rattle.bng_desk.proofs.Readying.{IsMadeReady}
use Rattle.bng_desk.proofs.round.prepare_all.Given as goal

abbrev pub invariant-loop-number : goal.invariant-loop-number
invariant-loop-number l = Walked (IsMadeReady l.items l.free (length l.initial.shards)) l.initial.shards l.shards l.number

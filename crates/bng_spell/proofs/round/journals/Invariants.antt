use Rattle.std.proofs.Common.{◌≤◌, length}
use Rattle.bng_spell.specs.Many.{AreJournals}
use Rattle.bng_spell.proofs.round.journals.Given as goal

abbrev pub invariant-loop-shard : goal.invariant-loop-shard
invariant-loop-shard l = AreJournals l.moment l.shard l.whole l.at l.journals.items l.next × (l.next ≤ length l.whole)

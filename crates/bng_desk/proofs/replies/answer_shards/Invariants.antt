use Rattle.bng_desk.proofs.CoaLaws.{GivesThem}
use Rattle.bng_desk.proofs.replies.answer_shards.Given as goal

-- those of the shards so far were told
abbrev pub invariant-loop-shard : goal.invariant-loop-shard
invariant-loop-shard g l = let told = g.P.Plant.told in GivesThem l.initial.shards l.shards l.shard-index (told l.fn.plant) (told l.plant) l.fn.coa l.coa

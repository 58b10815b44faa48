use Rattle.std.proofs.Common.{length}
use Rattle.bng_desk.proofs.CoaLaws.{GivesFirst}
use Rattle.bng_desk.proofs.replies.answer_shard.Given as goal

-- the first of them were told
abbrev pub invariant-loop-ask : goal.invariant-loop-ask
invariant-loop-ask g l = let told = g.P.Plant.told in GivesFirst l.fn.shard l.shard (told l.fn.plant) (told l.plant) l.fn.coa l.coa

-- how many are left
abbrev pub decreases-loop-ask : goal.decreases-loop-ask
decreases-loop-ask g l = length l.shard.state.changed

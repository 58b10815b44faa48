use Rattle.std.proofs.Common.{take}
use Rattle.bng_desk.specs.Model.{keys_in}
use Rattle.bng_desk.specs.Round.{terms_in}
use Rattle.bng_desk.specs.Taking.{BooksStarts, states_of}
use Rattle.bng_desk.proofs.opening.accounts.Given as goal

-- the Starts of the terms in the shards so far were formed
abbrev pub invariant-loop-shard : goal.invariant-loop-shard
invariant-loop-shard l = BooksStarts (terms_in (states_of l.shards)) l.now l.wall (keys_in (take l.shard-index l.shards)) l.initial.accounts l.accounts

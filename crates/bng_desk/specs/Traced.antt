-- A round of the desk as a trace holds it.
use Rattle.std.specs.Prelude.{List, map}
use Rattle.bng_base.specs.declared.item.Entry.{Entry}
use Rattle.bng_engine.specs.Rounds.{ShardRound}
use Rattle.bng_engine.specs.Views.{ShardView}
use Rattle.bng_pool.specs.Plain.{PlainView}
use Rattle.bng_pool.specs.Tables.{entry}
use Rattle.bng_steps.specs.Protocol.{Handled, ShardState}
use Rattle.bng_steps.specs.Rounds.{Standing}
use Rattle.bng_desk.specs.Round.{Round, handled_states}

-- what its shards did, each with its allowance
abbrev pub rounds_in : List (ShardView ShardState Handled) → List (ShardRound Handled)
rounds_in shards = map (λ v. record { allowance = v.allowance; journal = v.journal }) shards

-- how the shards stood when it opened
abbrev pub standing_before : List (ShardView ShardState Entry) → PlainView → Standing
standing_before shards pool = record { states = map (λ v. v.state) shards; holder = entry pool.table }

-- and once its entries were handled
abbrev pub standing_after : List (ShardView ShardState Entry) → Round → Standing
standing_after shards round = record { states = handled_states shards round.shards; holder = entry round.claimed.table }

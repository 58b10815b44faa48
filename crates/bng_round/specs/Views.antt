-- What clauses see of a shard in its place in a round.
use Rattle.std.specs.Prelude.{ℕ, Bool, List, length, nat_le}
use Rattle.std.specs.List.{flat_map}
use Rattle.bng_base.specs.declared.item.Entry.{Entry}
use Rattle.bng_engine.specs.Views.{ShardView}
use Rattle.bng_pool.specs.Seats.{SeatView}
use Rattle.bng_round.specs.declared.mark.Done.{Done}
use Rattle.bng_steps.specs.Protocol.{ShardState, Handled, claimed_by}

-- a shard as it shows itself, and as the engine sees it: with the effects of its entries
abbrev pub Shown : Type 0
Shown = ShardView ShardState Entry

abbrev pub Sight : Type 0
Sight = ShardView ShardState Handled

-- A shard and its seat at the words of the addresses. Of a round that is going on: how long each worker's list of items is, the moment, and
-- what the last entry came to.
pub record PlacedView : Type 0 where
  pub shard : Shown
  pub hold : SeatView
  pub lists : List ℕ
  pub moment : ℕ
  pub last : Done

-- the shard's allowance of new terms is used up by the entries of its journal
abbrev pub is_limited : Shown → Bool
is_limited v = nat_le v.allowance (length (flat_map (λ (e : Entry). claimed_by e.claim) v.journal))

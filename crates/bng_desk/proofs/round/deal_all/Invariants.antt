use Rattle.std.proofs.Common.{◌≡◌, ℕ, ◌+◌, ◌*◌, ◌≤◌, length, take, vec_capacity}
use Rattle.std.specs.List.{All}
use Rattle.bng_steps.specs.Protocol.{terms_of}
use Rattle.bng_shard.specs.Handling.{AreHeld}
use Rattle.bng_steps.specs.Sums.{IsLow}
use Rattle.bng_desk.specs.Counting.{Within}
use Rattle.bng_desk.specs.Taking.{Deals}
use Rattle.bng_desk.proofs.round.deal_all.Given as goal

-- the items so far were handed to their shards
abbrev pub invariant-loop-item : goal.invariant-loop-item
invariant-loop-item l = record {
  deals : Deals l.rules l.fn.pool l.pool l.now (take l.item-index l.fn.lists.items.items) l.fn.shards l.shards l.loose.items l.fn.drops l.drops l.fn.tally l.tally;
  held : All (λ v. AreHeld v.number (terms_of v.state) l.pool.table) l.shards;
  place : l.place ≡ l.item-index;
  room : All (λ v. length l.fn.lists.items.items ≤ v.room + l.item-index) l.shards;
  loose : length l.loose.items ≤ l.item-index;
  loose_room : vec_capacity l.loose ≡ vec_capacity l.fn.lists.loose;
  drops : (most : ℕ) → Within most l.fn.drops → Within (most + l.item-index) l.drops;
  tally : (most : ℕ) → IsLow most l.fn.tally → IsLow (most + 4160 * l.item-index) l.tally;
}

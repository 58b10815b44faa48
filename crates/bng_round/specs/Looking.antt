-- What a look at the words of the addresses says of where an item is handled.
use Rattle.std.specs.Prelude.{◌≡◌, ℕ, List, Some, length, slice_get}
use Rattle.bng_base.specs.declared.item.Item.{Item}
use Rattle.bng_pool.specs.Ranges.{HasAddress}
use Rattle.bng_pool.specs.Seats.{PoolView, SeatView as Hold, Holds, Notes, IsInRound}
use Rattle.bng_round.specs.Asking.{Goes, IsHold}
use Rattle.bng_round.specs.Views.{PlacedView}
use Rattle.bng_steps.specs.declared.destination.Destination.{Destination}
use Rattle.bng_steps.specs.declared.destination.Destination.TheVariants.{Loose as LeadsNowhere, Stands as LeadsTo, Holder}
use Rattle.bng_steps.specs.declared.rules.Rules.{Rules}
use Rattle.bng_steps.specs.declared.whose.Whose.{Whose}
use Rattle.bng_steps.specs.declared.whose.Whose.TheVariants.{Loose, Stands}
use Rattle.bng_steps.specs.Destinations.{IsDestination}
use Rattle.bng_turn.specs.Views.{TurnView}

-- Each turn was opened round a shard whose seat at the words of this pool has the shard's number, and what it held then has words. The pools
-- of its rules are the pool's ranges.
pub record IsGround (turns : List (TurnView PlacedView)) (p : PoolView) : Type 0 where
  pub shards : p.shards ≡ length turns
  pub holds : (s : ℕ) (t : TurnView PlacedView) → slice_get turns s ≡ Some t → IsHold p t.opening.shard.state.rules.pools t.opening.hold × (t.opening.hold.number ≡ s)
  pub within : (s : ℕ) (t : TurnView PlacedView) (a : ℕ) → slice_get turns s ≡ Some t → Holds t.opening.hold.held a → HasAddress p.ranges a

-- a worker's seat in the phase of the shards' seats, which was told all that these held at the opening
pub record IsLooker (turns : List (TurnView PlacedView)) (p : PoolView) (q : Hold) : Type 0 where
  pub pool : q.pool ≡ p
  pub round : IsInRound q
  pub phase : (s : ℕ) (t : TurnView PlacedView) → slice_get turns s ≡ Some t → t.opening.hold.phase ≡ q.phase
  pub heard : (s : ℕ) (t : TurnView PlacedView) (a : ℕ) → slice_get turns s ≡ Some t → Holds t.opening.hold.held a → Notes q.notes a s q.phase

-- what came of where an item leads, where a seat that looked before knows this now: to a holder, the shard that it noted; or that it had
-- noted none
abbrev pub IsFoundNow : Destination → Whose → Hold → Hold → Type 0
IsFoundNow (LeadsNowhere fate) whose q q' = whose ≡ Loose fate
IsFoundNow (LeadsTo shard) whose q q' = whose ≡ Stands shard
IsFoundNow (Holder address fate) (Loose f) q q' = (f ≡ fate) × (HasAddress q.pool.ranges address.0 → (k : ℕ) → ¬ (Notes q.notes address.0 k q.phase))
IsFoundNow (Holder address fate) (Stands n) q q' = Notes q'.notes address.0 n q'.phase

-- Whose an item is by one look of a worker's seat, if it leads to the holder of an address.
pub record Finds (r : Rules) (item : Item) (whose : Whose) (q q' : Hold) : Type 0 where
  pub destination : Destination
  pub leads : IsDestination r item destination
  pub goes : Goes q q'
  pub found : IsFoundNow destination whose q q'

-- what came of where an item leads, in a round of these turns: to a holder, the shard that the worker's seat noted; or no shard held the
-- address at the opening
abbrev pub WasFound : List (TurnView PlacedView) → Hold → Destination → Whose → Type 0
WasFound turns q (LeadsNowhere fate) whose = whose ≡ Loose fate
WasFound turns q (LeadsTo shard) whose = whose ≡ Stands shard
WasFound turns q (Holder address fate) (Loose f) = (f ≡ fate) × ((s : ℕ) (t : TurnView PlacedView) → slice_get turns s ≡ Some t → ¬ (Holds t.opening.hold.held address.0))
WasFound turns q (Holder address fate) (Stands n) = Notes q.notes address.0 n q.phase

pub record IsSeen (r : Rules) (turns : List (TurnView PlacedView)) (q : Hold) (item : Item) (whose : Whose) : Type 0 where
  pub destination : Destination
  pub leads : IsDestination r item destination
  pub found : WasFound turns q destination whose

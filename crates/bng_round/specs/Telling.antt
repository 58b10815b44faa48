-- What the seats at the words of the addresses tell each other when a round is opened and when it is closed.
use Rattle.std.specs.Prelude.{◌≡◌, ℕ, List, Some, slice_get}
use Rattle.bng_pool.specs.Ranges.{HasAddress}
use Rattle.bng_pool.specs.Seats.{PoolView, SeatView as Hold, Holds, Notes, IsInRound, IsLearned}
use Rattle.bng_round.specs.Asking.{Goes, IsNoted}
use Rattle.bng_round.specs.Views.{PlacedView}

-- a seat of the pool, in this phase of a round
pub record IsAt (p : PoolView) (phase : ℕ) (q : Hold) : Type 0 where
  pub pool : q.pool ≡ p
  pub round : IsInRound q
  pub phase_is : q.phase ≡ phase

-- the shards' seats, each with its shard's number, and the workers' are at one phase of a round
pub record AreAt (p : PoolView) (phase : ℕ) (shards : List PlacedView) : Type 0 where
  pub holds : (s : ℕ) (g : PlacedView) → slice_get shards s ≡ Some g → IsAt p phase g.hold × (g.hold.number ≡ s)

abbrev pub LookersAt : PoolView → ℕ → List Hold → Type 0
LookersAt p phase qs = (j : ℕ) (q : Hold) → slice_get qs j ≡ Some q → IsAt p phase q

-- the seat knows all that the other holds and noted
pub record Knows (h q : Hold) : Type 0 where
  pub held : (a : ℕ) → Holds q.held a → Notes h.notes a q.number q.phase
  pub notes : (a k p : ℕ) → Notes q.notes a k p → Notes h.notes a k p

-- it knows all of each of these shards' seats
abbrev pub KnowsAll : Hold → List PlacedView → Type 0
KnowsAll h shards = (s : ℕ) (g : PlacedView) → slice_get shards s ≡ Some g → Knows h g.hold

-- and of each of these seats
abbrev pub KnowsEach : Hold → List Hold → Type 0
KnowsEach h qs = (j : ℕ) (q : Hold) → slice_get qs j ≡ Some q → Knows h q

-- each of the seats knows at least what it knew
abbrev pub EachGoes : List Hold → List Hold → Type 0
EachGoes qs qs' = (j : ℕ) (q q' : Hold) → slice_get qs j ≡ Some q → slice_get qs' j ≡ Some q' → Goes q q'

-- each knows all of the shards' seats
abbrev pub EachKnows : List Hold → List PlacedView → Type 0
EachKnows qs shards = (j : ℕ) (q : Hold) → slice_get qs j ≡ Some q → KnowsAll q shards

-- a shard whose seat was told all that another knew: nothing else of it changed, and what it knows agrees
pub record IsTold (h : Hold) (g g' : PlacedView) : Type 0 where
  pub rest : g' ≡ record g { hold = g'.hold }
  pub held : g'.hold.held ≡ g.hold.held
  pub goes : Goes g.hold g'.hold
  pub heard : (a k p : ℕ) → Notes h.notes a k p → Notes g'.hold.notes a k p
  pub learned : IsLearned g'.hold
  pub within : (a : ℕ) → Holds g'.hold.held a → HasAddress g'.hold.pool.ranges a

abbrev pub AllTold : Hold → List PlacedView → List PlacedView → Type 0
AllTold h shards shards' = (s : ℕ) (g g' : PlacedView) → slice_get shards s ≡ Some g → slice_get shards' s ≡ Some g' → IsTold h g g'

-- no two shards hold one address
abbrev pub AreApart : List PlacedView → Type 0
AreApart shards = (i j a : ℕ) (g h : PlacedView) → slice_get shards i ≡ Some g → slice_get shards j ≡ Some h → Holds g.hold.held a → Holds h.hold.held a → i ≡ j

-- some shard holds the address
abbrev pub IsHeldBySome : List PlacedView → ℕ → Type 0
IsHeldBySome shards a = (k : ℕ) × (g : PlacedView) × (slice_get shards k ≡ Some g) × Holds g.hold.held a

-- whoever was noted as the holder of an address holds it
abbrev pub HolderHolds : List PlacedView → Hold → Type 0
HolderHolds shards q = (a k : ℕ) (g : PlacedView) → Notes q.notes a k q.phase → slice_get shards k ≡ Some g → Holds g.hold.held a

-- a shard whose seat knows more: nothing else of it changed
pub record KnowsMore (g g' : PlacedView) : Type 0 where
  pub rest : g' ≡ record g { hold = g'.hold }
  pub held : g'.hold.held ≡ g.hold.held
  pub goes : Goes g.hold g'.hold

abbrev pub EachKnowsMore : List PlacedView → List PlacedView → Type 0
EachKnowsMore shards shards' = (s : ℕ) (g g' : PlacedView) → slice_get shards s ≡ Some g → slice_get shards' s ≡ Some g' → KnowsMore g g'

-- What each shard noted, and what each worker's seat noted, is so. What a shard holds has words.
pub record AreAgreed (shards shards' : List PlacedView) (lookers : List Hold) : Type 0 where
  pub apart : AreApart shards'
  pub within : (s a : ℕ) (g : PlacedView) → slice_get shards' s ≡ Some g → Holds g.hold.held a → HasAddress g.hold.pool.ranges a
  pub of_shards : (s a : ℕ) (g : PlacedView) → slice_get shards s ≡ Some g → IsNoted g.hold a → IsHeldBySome shards' a
  pub of_lookers : (j : ℕ) (q : Hold) → slice_get lookers j ≡ Some q → HolderHolds shards' q

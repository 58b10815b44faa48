-- What a shard's seat at the words of the addresses knows before and after what was asked of them.
use Rattle.std.specs.Prelude.{◌≡◌, ℕ, ◌<◌, List, ◌∷◌, Some, slice_get}
use Rattle.std.specs.List.{AllByRecursion}
use Rattle.bng_base.specs.declared.book.Range.{Range}
use Rattle.bng_base.specs.declared.item.Claim.{Claim}
use Rattle.bng_base.specs.declared.item.Claim.TheVariants.{NoClaim, Claimed, Held, Exhausted}
use Rattle.bng_base.specs.declared.settings.NamedRange.{NamedRange}
use Rattle.bng_base.specs.Ranges.{InRange}
use Rattle.bng_engine.specs.Terms.{Term}
use Rattle.bng_pool.specs.Seats.{PoolView, SeatView, Holds, Notes, IsInRound, Claims, Scans}
use Rattle.bng_steps.specs.declared.wish.Wish.{Wish}
use Rattle.bng_steps.specs.declared.wish.Wish.TheVariants.{Nothing, Address, Pool}

-- a seat of the same pool, at the same phase, that knows at least what it knew
pub record Goes (q q' : SeatView) : Type 0 where
  pub pool : q'.pool ≡ q.pool
  pub number : q'.number ≡ q.number
  pub phase : q'.phase ≡ q.phase
  pub full : q'.full ≡ q.full
  pub notes : (a k p : ℕ) → Notes q.notes a k p → Notes q'.notes a k p

-- the seat knows a shard that holds the address in this phase
abbrev pub IsNoted : SeatView → ℕ → Type 0
IsNoted q a = (k : ℕ) × (k < q.pool.shards) × Notes q.notes a k q.phase

-- nobody of whom the seat knows held the address, itself among them, and it holds it now
pub record Takes (a : ℕ) (q q' : SeatView) : Type 0 where
  pub goes : Goes q q'
  pub held : q'.held ≡ a ∷ q.held
  pub free : ¬ (Holds q.held a)
  pub unnoted : (k : ℕ) → ¬ (Notes q.notes a k q.phase)

-- the seat holds what it held
pub record Stays (q q' : SeatView) : Type 0 where
  pub goes : Goes q q'
  pub held : q'.held ≡ q.held

-- What an answer says of the seat before and after, whatever was asked: an address that was claimed is the seat's from then on, and was nobody's of whom it
-- knew; of one that was told to be held, and of each of a range that was exhausted, the seat knows a holder.
abbrev pub Asks : Claim → SeatView → SeatView → Type 0
Asks NoClaim q q' = q' ≡ q
Asks (Claimed a) q q' = Takes a.0 q q'
Asks (Held a) q q' = Stays q q' × IsNoted q' a.0
Asks (Exhausted n) q q' = Stays q q' × ((r : Range) → slice_get q.pool.ranges n ≡ Some r → (a : ℕ) → InRange r a → IsNoted q' a)

-- What was asked of the words for this wish, once, and what was answered: nothing; the address, whose word was free or was not; or the
-- addresses of the pool by rising number, until one was free or none was left.
abbrev pub IsAskedFor : Wish → Claim → SeatView → SeatView → Type 0
IsAskedFor Nothing claim q q' = (claim ≡ NoClaim) × (q' ≡ q)
IsAskedFor (Address a) claim q q' = Claims a claim q q'
IsAskedFor (Pool k) claim q q' = (r : Range) × (slice_get q.pool.ranges k ≡ Some r) × Scans r k claim q q'

-- each pool of the rules is a range of the words, at its place
abbrev pub HasPools : List NamedRange → List Range → Type 0
HasPools pools ranges = (k : ℕ) (p : NamedRange) → slice_get pools k ≡ Some p → slice_get ranges k ≡ Some p.range

-- the seat holds the address of each of these terms
abbrev pub AreHeldBy : SeatView → List Term → Type 0
AreHeldBy q terms = AllByRecursion (λ (t : Term). Holds q.held t.key.address.0) terms

-- a shard's seat at the words of this pool, in a round; the pools of the rules are their ranges
pub record IsHold (p : PoolView) (pools : List NamedRange) (q : SeatView) : Type 0 where
  pub pool : q.pool ≡ p
  pub shard : q.number < p.shards
  pub round : IsInRound q
  pub pools_are : HasPools pools p.ranges

-- The ranges of addresses of the pools.
use Rattle.std.specs.Prelude.{◌≡◌, ◌<◌, ◌≤◌, ◌+◌, ◌-◌, ◌⊎◌, ℕ, List, [], ◌∷◌, length, slice_get, Some}
use Rattle.toml.specs.Data.{Data}
use Rattle.bng_base.specs.declared.address.Ip4.{Ip4}
use Rattle.bng_base.specs.declared.book.Range.{Range}
use Rattle.bng_base.specs.Ranges.{InRange, size_of}
use Rattle.bng_schema.specs.declared.keys.Field.TheVariants.{GatewayAddress, PoolFirst, PoolLast}
use Rattle.bng_schema.specs.declared.keys.Key.{Key}
use Rattle.bng_schema.specs.declared.keys.Key.TheVariants.{Whole, Of}
use Rattle.bng_schema.specs.Forms.{StandsAt, EachPlace, IsAddress}

-- some range has the address
abbrev pub HasAddress : List Range → ℕ → Type 0
HasAddress ranges a = (k : ℕ) × (r : Range) × (slice_get ranges k ≡ Some r) × InRange r a

-- some address is in both
abbrev pub Meets : Range → Range → Type 0
Meets r q = (a : ℕ) × InRange r a × InRange q a

-- how many addresses the ranges have
abbrev pub address_count : List Range → ℕ
address_count [] = 0
address_count (r ∷ rs) = size_of r + address_count rs

-- the range is what stands at the pool of this place
abbrev pub IsRangeAt : Data → ℕ → Range → Type 0
IsRangeAt document place r = StandsAt document (Of PoolFirst place) (λ d. IsAddress d r.first) × StandsAt document (Of PoolLast place) (λ d. IsAddress d r.last)

-- the ranges are those of the first pools, this many
pub record AreRangesOf (document : Data) (many : ℕ) (ranges : List Range) : Type 0 where
  pub all : length ranges ≡ many
  pub are : EachPlace (IsRangeAt document) ranges

-- it has the gateway's own address
abbrev pub HasOwn : Data → Range → Type 0
HasOwn document r = (own : Ip4) × StandsAt document (Of GatewayAddress 0) (λ d. IsAddress d own) × InRange r own.0

-- it has an address of a pool before this place
abbrev pub MeetsEarlier : Data → ℕ → Range → Type 0
MeetsEarlier document place r = (i : ℕ) × (i < place) × (q : Range) × IsRangeAt document i q × Meets q r

-- with those of the pools before this place its addresses are more than 262,144
abbrev pub AreTooMany : Data → ℕ → Range → Type 0
AreTooMany document place r = (earlier : List Range) × AreRangesOf document place earlier × (262144 < address_count earlier + size_of r)

-- the range may not stand at this place: it ends before it begins, has the gateway's own address or one of an earlier pool, or is
-- too long
abbrev pub IsUnfit : Data → ℕ → Range → Type 0
IsUnfit document place r = (r.last.0 < r.first.0) ⊎ HasOwn document r ⊎ MeetsEarlier document place r ⊎ AreTooMany document place r

-- the range that ends at the key is unfit
abbrev pub HasBadRange : Data → Key → Type 0
HasBadRange document (Whole t) = ⊥
HasBadRange document (Of PoolLast place) = (r : Range) × IsRangeAt document place r × IsUnfit document place r
HasBadRange document (Of field place) = ⊥

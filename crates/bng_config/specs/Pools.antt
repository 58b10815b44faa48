-- Pools of addresses.
use Rattle.std.specs.Prelude.{◌≡◌, ◌≢◌, ℕ, ◌≤◌, List, length, map, slice_get, Some}
use Rattle.bng_base.specs.declared.book.Range.{Range}
use Rattle.bng_base.specs.declared.settings.NamedRange.{NamedRange}
use Rattle.bng_base.specs.Ranges.{InRange}
use Rattle.bng_schema.specs.Ranges.{address_count}

-- no address is in two of the ranges
abbrev pub AreApart : List Range → Type 0
AreApart ranges = (i j : ℕ) (r q : Range) → i ≢ j → slice_get ranges i ≡ Some r → slice_get ranges j ≡ Some q → (a : ℕ) → InRange r a → InRange q a → ⊥

-- at most 16 ranges apart, none of which ends before it begins, with at most 262,144 addresses
pub record ArePools (ranges : List Range) : Type 0 where
  pub few : length ranges ≤ 16
  pub ordered : (k : ℕ) (r : Range) → slice_get ranges k ≡ Some r → r.first.0 ≤ r.last.0
  pub apart : AreApart ranges
  pub addresses : address_count ranges ≤ 262144

-- the ranges of the pools
abbrev pub ranges_of : List NamedRange → List Range
ranges_of pools = map (λ p. p.range) pools

-- Ranges of addresses.
use Rattle.std.specs.Prelude.{ℕ, ◌+◌, ◌-◌, ◌≤◌}
use Rattle.bng_base.specs.declared.book.Range.{Range}

-- the address is the range's
abbrev pub InRange : Range → ℕ → Type 0
InRange r a = (r.first.0 ≤ a) × (a ≤ r.last.0)

-- how many addresses it has
abbrev pub size_of : Range → ℕ
size_of r = r.last.0 + 1 - r.first.0

-- Attributes by their types (RFC 2865 section 5).
use Rattle.std.specs.Prelude.{◌==◌, ℕ, Bool, List}
use Rattle.std.specs.List.{list_any}
use Rattle.bng_radius_wire.specs.Attributes.{Field}

abbrev pub is_among : List ℕ → ℕ → Bool
is_among kinds kind = list_any (λ k. k == kind) kinds

abbrev pub has_kind : ℕ → Field → Bool
has_kind kind f = f.kind == kind

-- whether one of the attributes is of this type
abbrev pub has_some : ℕ → List Field → Bool
has_some kind fs = list_any (has_kind kind) fs

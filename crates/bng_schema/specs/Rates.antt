-- The numbers of a profile's meters (RFC 2697).
use Rattle.std.specs.Prelude.{◌≡◌, ◌⊎◌, ℕ, pos, Some, None}
use Rattle.toml.specs.Data.{Data, integer}
use Rattle.bng_schema.specs.declared.keys.Field.{Field}
use Rattle.bng_schema.specs.declared.keys.Field.TheVariants.{ProfileUpCir, ProfileUpCbs, ProfileUpEbs, ProfileDownCir, ProfileDownCbs, ProfileDownEbs}
use Rattle.bng_schema.specs.declared.keys.Key.{Key}
use Rattle.bng_schema.specs.declared.keys.Key.TheVariants.{Whole, Of}
use Rattle.bng_schema.specs.Keys.{path_of, value_at}

-- nothing stands at the field, and something does
abbrev pub IsAbsent : Data → Field → ℕ → Type 0
IsAbsent document field place = value_at (path_of (Of field place)) document ≡ None

abbrev pub IsThere : Data → Field → ℕ → Type 0
IsThere document field place = (d : Data) × (value_at (path_of (Of field place)) document ≡ Some d)

abbrev pub IsZero : Data → Field → ℕ → Type 0
IsZero document field place = value_at (path_of (Of field place)) document ≡ Some (integer (pos 0))

-- of a direction's numbers the one at the field is not there, and another one is
abbrev pub IsMissed : Data → ℕ → Field → Field → Field → Type 0
IsMissed document place field one other = IsAbsent document field place × (IsThere document one place ⊎ IsThere document other place)

-- both bursts are 0
abbrev pub HasNoBurst : Data → ℕ → Field → Field → Type 0
HasNoBurst document place committed excess = IsZero document committed place × IsZero document excess place

-- of a direction's numbers some are there, and not the one at the key; or both bursts are 0, which is told at the committed one
abbrev pub IsPartial : Data → Key → Type 0
IsPartial document (Whole t) = ⊥
IsPartial document (Of ProfileUpCir place) = IsMissed document place ProfileUpCir ProfileUpCbs ProfileUpEbs
IsPartial document (Of ProfileUpCbs place) = IsMissed document place ProfileUpCbs ProfileUpCir ProfileUpEbs ⊎ HasNoBurst document place ProfileUpCbs ProfileUpEbs
IsPartial document (Of ProfileUpEbs place) = IsMissed document place ProfileUpEbs ProfileUpCir ProfileUpCbs
IsPartial document (Of ProfileDownCir place) = IsMissed document place ProfileDownCir ProfileDownCbs ProfileDownEbs
IsPartial document (Of ProfileDownCbs place) = IsMissed document place ProfileDownCbs ProfileDownCir ProfileDownEbs ⊎ HasNoBurst document place ProfileDownCbs ProfileDownEbs
IsPartial document (Of ProfileDownEbs place) = IsMissed document place ProfileDownEbs ProfileDownCir ProfileDownCbs
IsPartial document (Of field place) = ⊥

-- The L2TP access concentrators, which need a tunnel.
use Rattle.std.specs.Prelude.{◌≡◌, ◌≤◌, None}
use Rattle.toml.specs.Data.{Data}
use Rattle.bng_schema.specs.declared.keys.Key.{Key}
use Rattle.bng_schema.specs.declared.keys.Key.TheVariants.{Whole, Of}
use Rattle.bng_schema.specs.declared.keys.Table.TheVariants.{Tunnel, Lac}
use Rattle.bng_schema.specs.Keys.{path_of, value_at, entries}

-- there are LACs, and there is no tunnel
abbrev pub IsUntunnelled : Data → Key → Type 0
IsUntunnelled document (Whole Lac) = (1 ≤ entries document Lac) × (value_at (path_of (Whole Tunnel)) document ≡ None)
IsUntunnelled document (Whole t) = ⊥
IsUntunnelled document (Of field place) = ⊥

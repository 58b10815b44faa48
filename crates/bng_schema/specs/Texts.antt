-- How keys and names are written.
use Rattle.std.specs.Prelude.{ℕ, ◌+◌, List, [], ◌∷◌, ◌++◌, map, Option, None, Some}
use Rattle.std.specs.Fmt.{decimal}
use Rattle.std.specs.List.{join_with_byte}
use Rattle.bng_schema.specs.declared.keys.Table.{Table}
use Rattle.bng_schema.specs.declared.keys.Key.{Key}
use Rattle.bng_schema.specs.Keys.{Step, named, placed, entry_path, path_of}
use Rattle.bng_schema.specs.Checks.{Mention}

-- a place is written from 1 on
abbrev pub step_text : Step → List ℕ
step_text (named name) = name
step_text (placed place) = decimal (place + 1)

-- steps are written with dots between
abbrev pub path_text : List Step → List ℕ
path_text steps = join_with_byte 46 (map step_text steps)

abbrev pub key_text : Key → List ℕ
key_text key = path_text (path_of key)

-- where a name stands that is unknown
abbrev pub unknown_path : Option (Table × ℕ) → List ℕ → List Step
unknown_path None name = named name ∷ []
unknown_path (Some (t, place)) name = entry_path t place ++ named name ∷ []

abbrev pub unknown_text : Mention → List ℕ
unknown_text m = path_text (unknown_path m.entry m.name)

-- Files in memory.
use Rattle.std.specs.Prelude.{ℕ, List, [], Bool, nat_eq, slice_get, unwrap_or, option_map}
use Rattle.std.specs.String.{string_bytes}
use Rattle.std.specs.Cmp.Lexicographic.{pointwise}
use Rattle.bng_base.specs.Told.{FileRead}
use Rattle.bng_plant.specs.declared.memory_file.MemoryFile.{MemoryFile}

-- the file has this name
abbrev pub is_named : List ℕ → MemoryFile → Bool
is_named name file = pointwise nat_eq (string_bytes file.name) name

-- the name of the file at this place
abbrev pub name_at : List MemoryFile → ℕ → List ℕ
name_at files i = unwrap_or (option_map (λ (f : MemoryFile). string_bytes f.name) (slice_get files i)) []

-- what the file at this place contains
abbrev pub contents_at : List MemoryFile → ℕ → List ℕ
contents_at files i = unwrap_or (option_map (λ (f : MemoryFile). f.contents.items) (slice_get files i)) []

-- what is told of a read of the file at this place
abbrev pub read_at : List MemoryFile → ℕ → FileRead
read_at files i = record { name = name_at files i; text = contents_at files i }

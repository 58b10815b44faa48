-- What a file of a list is called and contains.
use Rattle.std.proofs.Common.{◌≡◌, ℕ, ◌<◌, List, [], ◌∷◌, Option, Some, None, IfSome, length, get_or, refl, sym}
use Rattle.std.specs.List.{position}
use Rattle.std.specs.String.{string_bytes}
use Rattle.std.proofs.lemmas.List.Quantifiers.{position-Some}
use Rattle.std.proofs.lemmas.Option.{slice_get-get_or, slice_get_read}
use Rattle.std.proofs.lemmas.Slice.Eq.{bytes_eq-Decides}
use Rattle.bng_plant.specs.MemoryFile.{contents_at, is_named, name_at}
use Rattle.bng_plant.specs.declared.memory_file.MemoryFile.{MemoryFile}

-- the file that is read at a place is the one there
pub contents_there : (files : List MemoryFile) (i : ℕ) (f : MemoryFile) → i < length files → f ≡ get_or files i f → f.contents.items ≡ contents_at files i
contents_there files i f h e = rw (slice_get_read files (length files) i f refl h e) refl

-- the file that is found by a name has that name
named_at : (name : List ℕ) (files : List MemoryFile) (i : ℕ) → position (is_named name) files ≡ Some i → name_at files i ≡ name
named_at name [] i found = absurd cc
named_at name (f ∷ files) i found =
    let at = position-Some (is_named name) (f ∷ files) i f found in
    rw (slice_get-get_or (f ∷ files) i f at.0) ((bytes_eq-Decides (string_bytes (get_or (f ∷ files) i f).name) name).0 at.1)

pub named_there : (name : List ℕ) (files : List MemoryFile) (place : Option ℕ) → place ≡ position (is_named name) files → IfSome place (λ i. name_at files i ≡ name)
named_there name files None found = tt
named_there name files (Some i) found = named_at name files i (sym found)

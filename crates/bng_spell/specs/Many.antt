-- Lines that are repeated, and the last fields of lines.
use Rattle.std.specs.Prelude.{◌≡◌, ◌+◌, ℕ, List, [], ◌∷◌, ◌++◌, codes, length}
use Rattle.std.specs.List.{flat_map, AllByRecursion}
use Rattle.bng_base.specs.declared.item.Entry.{Entry}
use Rattle.bng_spell.specs.Fields.{numbers_text, octets_text}
use Rattle.bng_spell.specs.Kept.{IsEntry}
use Rattle.bng_spell.specs.Lines.{entry_line}
use Rattle.bng_spell.specs.Standing.{Stands, Lacks}

-- these lines stand from this place on, and no further one behind them
pub record AreLines {X : Type 0} (Fits : X → Type 0) (text : X → List ℕ) (whole : List ℕ) (at : ℕ) (lines : List X) (next : ℕ) : Type 0 where
  pub fit : AllByRecursion Fits lines
  pub stand : Stands whole at (flat_map text lines) next
  pub no_more : Lacks Fits text whole next

-- numbers and the line's end
abbrev pub numbers_line_text : List ℕ → List ℕ
numbers_line_text numbers = numbers_text numbers ++ codes "\n"

-- octets and the line's end
abbrev pub octets_line_text : List ℕ → List ℕ
octets_line_text octets = octets_text octets ++ codes "\n"

-- from this shard on, the lines of each journal stand behind those of the one before, and no further line of a shard behind its
-- journal
abbrev pub AreJournalsFrom : ℕ → ℕ → List ℕ → ℕ → List (List Entry) → ℕ → Type 0
AreJournalsFrom moment shard whole at [] next = at ≡ next
AreJournalsFrom moment shard whole at (journal ∷ journals) next =
    (mid : ℕ) × AreLines (IsEntry moment) (entry_line shard) whole at journal mid × AreJournalsFrom moment (shard + 1) whole mid journals next

-- the journals of so many shards
abbrev pub AreJournals : ℕ → ℕ → List ℕ → ℕ → List (List Entry) → ℕ → Type 0
AreJournals moment shards whole at journals next = (length journals ≡ shards) × AreJournalsFrom moment 0 whole at journals next

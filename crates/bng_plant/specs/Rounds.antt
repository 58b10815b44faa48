-- Rounds in flat lists.
use Rattle.std.specs.Prelude.{◌≡◌, ℕ, List, [], ◌∷◌, drop, length}
use Rattle.bng_base.specs.declared.item.Entry.{Entry}
use Rattle.bng_base.specs.declared.item.Item.{Item}
use Rattle.bng_base.specs.declared.item.Loose.{Loose}
use Rattle.bng_base.specs.declared.item.OutRecord.{OutRecord}
use Rattle.bng_base.specs.declared.round.RoundRecord.{RoundRecord}
use Rattle.bng_plant.specs.declared.head.Head.{Head}
use Rattle.bng_plant.specs.declared.parts.Parts.{Parts}
use Rattle.bng_plant.specs.Parts.{parts_of, room_of}

-- the first of some lists
abbrev pub first : {X : Type 0} → List (List X) → List X
first [] = []
first (xs ∷ xss) = xs

-- the rounds with these heads: the list that stands at its place among the lists of each kind belongs to a round
abbrev pub rounds_of : List Head → List (List ℕ) → List (List (List Entry)) → List (List Loose) → List (List OutRecord) → List (List Item) → List RoundRecord
rounds_of [] allowances journals loose outs refused = []
rounds_of (h ∷ heads) allowances journals loose outs refused =
    record {
      number = h.number;
      moment = h.moment;
      wall = h.wall;
      allowances = first allowances;
      journals = first journals;
      loose = first loose;
      outs = first outs;
      refused = first refused;
    } ∷ rounds_of heads (drop 1 allowances) (drop 1 journals) (drop 1 loose) (drop 1 outs) (drop 1 refused)

-- one part for each of so many rounds, and room for the parts of so many more
abbrev pub IsColumn : {X : Type 0} → Parts X → ℕ → ℕ → Type 0
IsColumn p rounds room = (length (parts_of p) ≡ rounds) × ((room_of p).parts ≡ room)

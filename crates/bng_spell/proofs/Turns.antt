-- Items that are put one after the other.
use Rattle.std.proofs.Common.{◌≡◌, ℕ, ◌+◌, ◌<◌, List, length, take, get_or, ap, ◌∙◌}
use Rattle.std.specs.List.{flat_map}
use Rattle.bng_base.specs.Told.{SinkTold}
use Rattle.bng_base.specs.declared.item.Entry.{Entry}
use Rattle.bng_spell.specs.Lines.{entry_line, entry_lines}
use Rattle.bng_spell.specs.Spelling.{Pending, Adds}
use Rattle.bng_spell.proofs.Spellings.{adds_as, adds_turn, adds_journal}

-- the text of this item behind those of the items before it
pub item_turn : {X : Type 0} {a b c : SinkTold} {p q r : Pending} (f : X → List ℕ) (xs : List X) (i : ℕ) (x : X) → i < length xs → x ≡ get_or xs i x → Adds a b p q (flat_map f (take i xs)) → Adds b c q r (f x)
    → Adds a c p r (flat_map f (take (i + 1) xs))
item_turn f xs i x within is so_far one = adds_turn f xs i x within so_far (adds_as one (ap f is))

-- the lines of this journal behind those of the journals before it
pub journal_turn : {a b c : SinkTold} {p q r : Pending} (js : List (List Entry)) (i : ℕ) (j k : List Entry) → i < length js → j ≡ get_or js i j → k ≡ j → Adds a b p q (entry_lines 0 (take i js))
    → Adds b c q r (flat_map (entry_line i) k) → Adds a c p r (entry_lines 0 (take (i + 1) js))
journal_turn js i j k within is same so_far one = adds_journal js i j within so_far (adds_as one (ap (λ (t : List Entry). flat_map (entry_line i) t) (same ∙ is)))

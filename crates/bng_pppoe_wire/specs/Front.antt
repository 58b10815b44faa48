-- What octets of a list of tags begin with.
use Rattle.std.specs.Prelude.{◌≡◌, ℕ, List, ◌++◌}
use Rattle.bng_base.specs.PppoeGrammar.{PppoeTag, tag_text, TagFits, IsEnd}
use Rattle.bng_pppoe_wire.specs.declared.front.Front.{Front}
use Rattle.bng_pppoe_wire.specs.declared.front.Front.TheVariants.{One, End, Nothing}
use Rattle.bng_pppoe_wire.specs.View.{tag_of}

-- a tag, and what stands after it
pub record Begins (tag : PppoeTag) (next rest : List ℕ) : Type 0 where
  pub fits : TagFits tag
  pub spelled : rest ≡ tag_text tag ++ next

abbrev pub IsFront : Front → List ℕ → Type 0
IsFront (One tag next) rest = Begins (tag_of tag) next.now rest
IsFront End rest = IsEnd rest
IsFront Nothing rest = (¬ (IsEnd rest)) × ((tag : PppoeTag) (next : List ℕ) → ¬ (Begins tag next rest))

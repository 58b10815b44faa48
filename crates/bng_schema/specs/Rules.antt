-- The rules that a document may break at a key. Only the lowest rule that is broken is told, and a relation means what is said
-- of it where no lower rule is broken; elsewhere it may hold or not.
use Rattle.std.specs.Prelude.{⊤, ◌≡◌, ℕ, ◌≤◌, List, [], ◌∷◌, None, IsTrue}
use Rattle.arrayvec.specs.ArrayVec.{ArrayVec}
use Rattle.toml.specs.Data.{Data, Items, array}
use Rattle.bng_base.specs.declared.settings.AuthKind.{AuthKind}
use Rattle.bng_schema.specs.declared.keys.Key.{Key}
use Rattle.bng_schema.specs.declared.keys.Form.{Form}
use Rattle.bng_schema.specs.declared.keys.Form.TheVariants.{TableList, ServiceList, KindList, AddressList}
use Rattle.bng_schema.specs.declared.rule.Rule.{Rule}
use Rattle.bng_schema.specs.declared.rule.Rule.TheVariants.{C4, C5, C6, C7, C8, C9, C10, C11, C12, C13, C14}
use Rattle.bng_schema.specs.Keys.{row, path_of, value_at, item_count}
use Rattle.bng_schema.specs.Forms.{StandsAt, HasType, HasNumberOutside, HasBadText, AreKinds}
use Rattle.bng_schema.specs.Repeats.{IsRepeated}
use Rattle.bng_schema.specs.Ranges.{HasBadRange}
use Rattle.bng_schema.specs.Rates.{IsPartial}
use Rattle.bng_schema.specs.Lacs.{IsUntunnelled}
use Rattle.bng_schema.specs.Circuits.{IsBadCircuit}

-- a table or a key that must be there, and is not
abbrev pub IsMissing : Data → Key → Type 0
IsMissing document key = IsTrue (row key).needed × (value_at (path_of key) document ≡ None)

-- what stands at the key is of another type, or a text outside its form
abbrev pub HasOtherType : Data → Key → Type 0
HasOtherType document key = StandsAt document key (λ d. ¬ HasType (row key).form d)

-- a number outside its range stands at the key
abbrev pub IsOutOfRange : Data → Key → Type 0
IsOutOfRange document key = StandsAt document key (λ d. HasNumberOutside document (row key).form d)

-- a text of a wrong length, or with an octet outside its set, stands at the key, or is an item of the list there
abbrev pub HasWrongLength : Data → Key → Type 0
HasWrongLength document key = StandsAt document key (λ d. HasBadText (row key).form d)

-- as many items as the form allows
abbrev pub IsCount : Form → ℕ → Type 0
IsCount (TableList least most) n = (least ≤ n) × (n ≤ most)
IsCount ServiceList n = n ≤ 8
IsCount KindList n = (1 ≤ n) × (n ≤ 2)
IsCount (AddressList least most) n = (least ≤ n) × (n ≤ most)
IsCount form n = ⊤

-- a list of another number of items
pub record HasWrongCount (form : Form) (d : Data) : Type 0 where
  pub items : Items
  pub is : d ≡ array items
  pub wrong : ¬ IsCount form (item_count items)

-- a list that is too long, or an empty one that must have an item, stands at the key
abbrev pub IsWrongCount : Data → Key → Type 0
IsWrongCount document key = StandsAt document key (λ d. HasWrongCount (row key).form d)

-- where a list of one or two texts stands: another text than `chap` and `pap`, or one of them twice
abbrev pub HasWrongKinds : Form → Data → Type 0
HasWrongKinds KindList d = (kinds : ArrayVec AuthKind) → ¬ AreKinds d kinds
HasWrongKinds form d = ⊥

-- the ways to authenticate that stand at the key are none
abbrev pub IsNoWay : Data → Key → Type 0
IsNoWay document key = StandsAt document key (λ d. HasWrongKinds (row key).form d)

-- the document breaks the rule at the key
abbrev pub Breaks : Data → Rule → Key → Type 0
Breaks document C4 key = IsMissing document key
Breaks document C5 key = HasOtherType document key
Breaks document C6 key = IsOutOfRange document key
Breaks document C7 key = HasWrongLength document key
Breaks document C8 key = IsWrongCount document key
Breaks document C9 key = IsNoWay document key
Breaks document C10 key = IsRepeated document key
Breaks document C11 key = HasBadRange document key
Breaks document C12 key = IsPartial document key
Breaks document C13 key = IsUntunnelled document key
Breaks document C14 key = IsBadCircuit document key

-- the order of the rules
abbrev pub rules_in_order : List Rule
rules_in_order = C4 ∷ C5 ∷ C6 ∷ C7 ∷ C8 ∷ C9 ∷ C10 ∷ C11 ∷ C12 ∷ C13 ∷ C14 ∷ []

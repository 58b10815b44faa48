-- What is looked at in a document, in its order: first the names that are not known, and then rule after rule each key.
use Rattle.std.specs.Prelude.{◌≡◌, ℕ, List, [], ◌∷◌, ◌++◌, map, Any, Option, None, Some, option_map}
use Rattle.std.specs.List.{flat_map}
use Rattle.toml.specs.Data.{Data, Members, no_members, member, table}
use Rattle.bng_schema.specs.declared.keys.Table.{Table}
use Rattle.bng_schema.specs.declared.keys.Key.{Key}
use Rattle.bng_schema.specs.declared.keys.Key.TheVariants.{Whole, Of}
use Rattle.bng_schema.specs.declared.rule.Rule.{Rule}
use Rattle.bng_schema.specs.declared.unknown.Unknown.{Unknown}
use Rattle.bng_schema.specs.First.{NoneOf, IsFirstOf}
use Rattle.bng_schema.specs.Keys.{row, tables, fields, entry_path, value_at, entries, of_entries, keys}
use Rattle.bng_schema.specs.Rules.{Breaks, rules_in_order}

-- a name that the document has: in the entry of a table at a place, or in the document itself
pub record Mention : Type 0 where
  pub entry : Option (Table × ℕ)
  pub name : List ℕ

abbrev pub mention : Option (Table × ℕ) → List ℕ → Mention
mention entry name = record { entry = entry; name = name }

-- the names of the members, which ascend in the order of their octets
abbrev pub member_names : Members → List (List ℕ)
member_names no_members = []
member_names (member name d more) = name ∷ member_names more

-- the names in a value: none where it is no table
abbrev pub names_in : Option Data → List (List ℕ)
names_in (Some (table members)) = member_names members
names_in other = []

-- the names of an entry, of the entries of a table, and of the document: those of the entries come before those of the tables
abbrev pub entry_mentions : Data → Table → ℕ → List Mention
entry_mentions document t place = map (mention (Some (t, place))) (names_in (value_at (entry_path t place) document))

abbrev pub table_mentions : Data → Table → List Mention
table_mentions document t = of_entries (entry_mentions document t) (entries document t)

unfoldable pub mentions : Data → List Mention
mentions document = flat_map (table_mentions document) tables ++ map (mention None) (names_in (Some document))

-- the key is called so
pub record IsNamed (key : Key) (name : List ℕ) : Type 0 where
  pub is : (row key).name ≡ name

-- a key of the table has the name, whatever the place of the entry, and a table
abbrev pub HasField : Table → List ℕ → Type 0
HasField t name = Any (λ f. IsNamed (Of f 0) name) (fields t)

abbrev pub HasTable : List ℕ → Type 0
HasTable name = Any (λ t. IsNamed (Whole t) name) tables

-- a name that no key of its table has, or no table
abbrev pub IsUnknownIn : Option Table → List ℕ → Type 0
IsUnknownIn (Some t) name = ¬ HasField t name
IsUnknownIn None name = ¬ HasTable name

abbrev pub IsUnknown : Mention → Type 0
IsUnknown m = IsUnknownIn (option_map (λ e. e.0) m.entry) m.name

-- what is told of an unknown name
abbrev pub mention_of : Unknown → Mention
mention_of u = record { entry = u.entry; name = u.name.now }

-- the first unknown name of the document, and that it has none
abbrev pub IsFirstUnknown : Data → Mention → Type 0
IsFirstUnknown document m = IsFirstOf IsUnknown (mentions document) m

abbrev pub IsKnown : Data → Type 0
IsKnown document = NoneOf IsUnknown (mentions document)

-- the rule at each key
abbrev pub rule_checks : Data → Rule → List (Rule × Key)
rule_checks document r = map (λ k. (r, k)) (keys document)

-- each rule at each key
unfoldable pub checks : Data → List (Rule × Key)
checks document = flat_map (rule_checks document) rules_in_order

abbrev pub IsBroken : Data → Rule × Key → Type 0
IsBroken document check = Breaks document check.0 check.1

-- the first rule that the document breaks, at the first key at which it does, and that it breaks none
abbrev pub IsFirstBroken : Data → Rule → Key → Type 0
IsFirstBroken document r k = IsFirstOf (IsBroken document) (checks document) (r, k)

abbrev pub IsSound : Data → Type 0
IsSound document = NoneOf (IsBroken document) (checks document)

-- Steps into a document, and how many entries a table has.
use Rattle.std.proofs.Common.{◌≡◌, ℕ, suc, Bool, true, false, List, [], ◌∷◌, ◌++◌, length, Option, Some, None, option_map, option_and_then, Vec, Bor, Global, refl, sym, ap, ◌∙◌}
use Rattle.std.proofs.lemmas.Option.{same_Some}
use Rattle.toml.specs.Data.{Data, Items, string, integer, float, boolean, datetime, array, table, get, at, as_array}
use Rattle.toml.specs.View.{view, items_view, array_view}
use Rattle.toml.specs.declared.value.Value.{Value}
use Rattle.bng_schema.specs.declared.keys.Table.{Table}
use Rattle.bng_schema.specs.declared.keys.Field.{Field}
use Rattle.bng_schema.specs.declared.keys.Key.TheVariants.{Whole, Of}
use Rattle.bng_schema.specs.Keys.{Step, named, placed, table_row, field_row, is_list, path_if, entry_path, path_of, value_at, item_count, count_of, entry_count, entries}

pub ended : (o : Option Data) → option_and_then (value_at []) o ≡ o
ended None = refl
ended (Some d) = refl

then_append : (xs ys : List Step) → ((d : Data) → value_at (xs ++ ys) d ≡ option_and_then (value_at ys) (value_at xs d))
    → (o : Option Data) → option_and_then (value_at (xs ++ ys)) o ≡ option_and_then (value_at ys) (option_and_then (value_at xs) o)
then_append xs ys each None = refl
then_append xs ys each (Some d) = each d

pub value_at-append : (xs ys : List Step) (d : Data) → value_at (xs ++ ys) d ≡ option_and_then (value_at ys) (value_at xs d)
value_at-append [] ys d = refl
value_at-append (named name ∷ xs) ys d = then_append xs ys (λ e. value_at-append xs ys e) (get name d)
value_at-append (placed place ∷ xs) ys d = then_append xs ys (λ e. value_at-append xs ys e) (at place d)

-- what is found at a name
pub found_named : (r : Option (Bor Value)) (name wanted : List ℕ) (d : Data) → name ≡ wanted → option_map (λ v. view v.now) r ≡ get name d
    → option_map (λ v. view v.now) r ≡ value_at (named wanted ∷ []) d
found_named r name wanted d same found = found ∙ ap (λ n. get n d) same ∙ sym (ended (get wanted d))

pub seen : (r : Option (Bor Value)) (v : Bor Value) (o : Option Data) → r ≡ Some v → option_map (λ v. view v.now) r ≡ o → o ≡ Some (view v.now)
seen r v o is found = sym found ∙ ap (option_map (λ v. view v.now)) is

pub unseen : (r : Option (Bor Value)) (o : Option Data) → r ≡ None → option_map (λ v. view v.now) r ≡ o → o ≡ None
unseen r o is found = sym found ∙ ap (option_map (λ v. view v.now)) is

-- what stands at a key of an entry, where there is one, and where there is none
module _ (document : Data) (f : Field) (place : ℕ) (t : Table) (entry : Option (Bor Value)) (of : t ≡ (field_row f).table)
    (at_entry : option_map (λ v. view v.now) entry ≡ value_at (entry_path t place) document) where
  entry_found : value_at (path_of (Of f place)) document ≡ option_and_then (value_at (named (field_row f).name ∷ [])) (option_map (λ v. view v.now) entry)
  entry_found =
      value_at-append (entry_path (field_row f).table place) (named (field_row f).name ∷ []) document
      ∙ ap (option_and_then (value_at (named (field_row f).name ∷ []))) (sym (at_entry ∙ ap (λ u. value_at (entry_path u place) document) of))

  pub field_found : (v : Bor Value) (r : Option (Bor Value)) (name : List ℕ) → entry ≡ Some v → name ≡ (field_row f).name → option_map (λ v. view v.now) r ≡ get name (view v.now)
      → option_map (λ v. view v.now) r ≡ value_at (path_of (Of f place)) document
  field_found v r name is same found =
      found_named r name (field_row f).name (view v.now) same found
      ∙ sym (entry_found ∙ ap (λ o. option_and_then (value_at (named (field_row f).name ∷ [])) (option_map (λ v. view v.now) o)) is)

  pub field_absent : entry ≡ None → None ≡ value_at (path_of (Of f place)) document
  field_absent is = sym (entry_found ∙ ap (λ o. option_and_then (value_at (named (field_row f).name ∷ [])) (option_map (λ v. view v.now) o)) is)

-- the entry of a table
module _ (document : Data) (t : Table) (place : ℕ) (r : Option (Bor Value)) (found : option_map (λ v. view v.now) r ≡ value_at (path_of (Whole t)) document) where
  whole : get (table_row t).name document ≡ option_map (λ v. view v.now) r
  whole = sym (found ∙ ended (get (table_row t).name document))

  pub listed_entry : (v : Bor Value) (e : Option (Bor Value)) → r ≡ Some v → is_list t ≡ true → option_map (λ v. view v.now) e ≡ at place (view v.now)
      → option_map (λ v. view v.now) e ≡ value_at (entry_path t place) document
  listed_entry v e is listed at_place =
      at_place ∙ sym (ended (at place (view v.now)))
      ∙ sym (ap (option_and_then (value_at (placed place ∷ []))) (whole ∙ ap (option_map (λ v. view v.now)) is))
      ∙ sym (ap (λ b. value_at (path_if b (table_row t).name place) document) listed)

  pub own_entry : (v : Bor Value) → r ≡ Some v → is_list t ≡ false → Some (view v.now) ≡ value_at (entry_path t place) document
  own_entry v is single =
      ap (option_map (λ v. view v.now)) (sym is) ∙ found ∙ sym (ap (λ b. value_at (path_if b (table_row t).name place) document) single)

  absent_if : r ≡ None → (b : Bool) → None ≡ value_at (path_if b (table_row t).name place) document
  absent_if is true = sym (ap (option_and_then (value_at (placed place ∷ []))) (whole ∙ ap (option_map (λ v. view v.now)) is))
  absent_if is false = ap (option_map (λ v. view v.now)) (sym is) ∙ found

  pub absent_entry : r ≡ None → None ≡ value_at (entry_path t place) document
  absent_entry is = absent_if is (is_list t)

-- how many entries it has
module _ (document : Data) (t : Table) (r : Option (Bor Value)) (found : option_map (λ v. view v.now) r ≡ value_at (path_of (Whole t)) document) where
  pub listed_count : (v : Bor Value) (n : ℕ) → r ≡ Some v → is_list t ≡ true → n ≡ count_of (as_array (view v.now)) → n ≡ entries document t
  listed_count v n is listed count =
      count ∙ ap (λ o. entry_count true o) (sym (seen r v (value_at (path_of (Whole t)) document) is found))
      ∙ sym (ap (λ b. entry_count b (value_at (path_of (Whole t)) document)) listed)

  pub own_count : (v : Bor Value) → r ≡ Some v → is_list t ≡ false → 1 ≡ entries document t
  own_count v is single =
      ap (λ o. entry_count false o) (sym (seen r v (value_at (path_of (Whole t)) document) is found))
      ∙ sym (ap (λ b. entry_count b (value_at (path_of (Whole t)) document)) single)

  pub no_count : r ≡ None → 0 ≡ entries document t
  no_count is = ap (λ o. entry_count (is_list t) o) (sym (unseen r (value_at (path_of (Whole t)) document) is found))

count_view : (vs : List Value) → item_count (items_view vs) ≡ length vs
count_view [] = refl
count_view (v ∷ vs) = ap suc (count_view vs)

-- the items of a value that is a list, and of one that is none
module _ (d : Data) (r : Option (Bor (Vec Value Global))) (found : option_map (λ v. array_view v.now) r ≡ as_array d) where
  pub items_of_list : (list : Bor (Vec Value Global)) → r ≡ Some list → as_array d ≡ Some (items_view list.now.items)
  items_of_list list is = sym found ∙ ap (option_map (λ v. array_view v.now)) is

  pub items_counted : (list : Bor (Vec Value Global)) → r ≡ Some list → item_count (items_view list.now.items) ≡ length list.now.items
  items_counted list is = count_view list.now.items

  pub list_counted : (list : Bor (Vec Value Global)) → r ≡ Some list → length list.now.items ≡ count_of (as_array d)
  list_counted list is = sym (count_view list.now.items) ∙ sym (ap count_of (items_of_list list is))

  pub items_of_none : r ≡ None → as_array d ≡ None
  items_of_none is = sym found ∙ ap (option_map (λ v. array_view v.now)) is

  pub none_counted : r ≡ None → 0 ≡ count_of (as_array d)
  none_counted is = sym (ap count_of (items_of_none is))

pub array_of : (d : Data) (items : Items) → as_array d ≡ Some items → d ≡ array items
array_of (string s) items e = cc
array_of (integer z) items e = cc
array_of (float x) items e = cc
array_of (boolean b) items e = cc
array_of (datetime t) items e = cc
array_of (array ds) items e = ap array (same_Some ds items e)
array_of (table ms) items e = cc

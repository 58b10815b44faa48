-- The names of a document, part by part.
use Rattle.std.proofs.Common.{◌≡◌, ℕ, List, [], ◌∷◌, ◌++◌, map, Option, Some, None, option_map, Bor, string_bytes, refl, sym, ap, subst}
use Rattle.std.proofs.lemmas.Option.{same_Some}
use Rattle.toml.specs.Data.{Data, Members, string, integer, float, boolean, datetime, array, table, as_table}
use Rattle.toml.specs.View.{view, members_view}
use Rattle.toml.specs.declared.value.Value.{Value}
use Rattle.toml.proofs.Views.{Entry}
use Rattle.bng_schema.specs.declared.keys.Table.{Table}
use Rattle.bng_schema.specs.First.{NoneOf, IsFirstOf}
use Rattle.bng_schema.specs.Keys.{entry_path, value_at}
use Rattle.bng_schema.specs.Checks.{mention, member_names, names_in, entry_mentions, IsUnknown, IsUnknownIn}
use Rattle.bng_schema.proofs.Finding.{seen, unseen}
use Rattle.bng_schema.proofs.Firsts.{none_map, first_map, first_here, first_back, none_append}

-- the names of a value that is a table, and of one that is none
pub names_of_table : (d : Data) (those : Members) → as_table d ≡ Some those → names_in (Some d) ≡ member_names those
names_of_table (string s) those e = cc
names_of_table (integer z) those e = cc
names_of_table (float x) those e = cc
names_of_table (boolean b) those e = cc
names_of_table (datetime t) those e = cc
names_of_table (array ds) those e = cc
names_of_table (table ms) those e = ap member_names (same_Some ms those e)

pub no_names : (d : Data) → as_table d ≡ None → names_in (Some d) ≡ []
no_names (string s) e = refl
no_names (integer z) e = refl
no_names (float x) e = refl
no_names (boolean b) e = refl
no_names (datetime t) e = refl
no_names (array ds) e = refl
no_names (table ms) e = cc

-- the names of an entry
module _ (document : Data) (t : Table) (place : ℕ) (r : Option (Bor Value)) (found : option_map (λ v. view v.now) r ≡ value_at (entry_path t place) document) where
  pub entry_first : (v : Bor Value) (name : List ℕ) → r ≡ Some v → IsFirstOf (IsUnknownIn (Some t)) (names_in (Some (view v.now))) name
      → IsFirstOf IsUnknown (entry_mentions document t place) (mention (Some (t, place)) name)
  entry_first v name is first =
      subst (λ o. IsFirstOf IsUnknown (map (mention (Some (t, place))) (names_in o)) (mention (Some (t, place)) name)) (sym (seen r v (value_at (entry_path t place) document) is found))
      (first_map IsUnknown (mention (Some (t, place))) (names_in (Some (view v.now))) name first)

  pub entry_none : (v : Bor Value) → r ≡ Some v → NoneOf (IsUnknownIn (Some t)) (names_in (Some (view v.now))) → NoneOf IsUnknown (entry_mentions document t place)
  entry_none v is none =
      subst (λ o. NoneOf IsUnknown (map (mention (Some (t, place))) (names_in o))) (sym (seen r v (value_at (entry_path t place) document) is found))
      (none_map IsUnknown (mention (Some (t, place))) (names_in (Some (view v.now))) none)

  pub no_entry : r ≡ None → NoneOf IsUnknown (entry_mentions document t place)
  no_entry is = subst (λ o. NoneOf IsUnknown (map (mention (Some (t, place))) (names_in o))) (sym (unseen r (value_at (entry_path t place) document) is found)) tt

-- the names of the members, one after the other
pub member_names-append : (xs ys : List Entry) → member_names (members_view (xs ++ ys)) ≡ member_names (members_view xs) ++ member_names (members_view ys)
member_names-append [] ys = refl
member_names-append (x ∷ xs) ys = ap (λ ns. string_bytes x.0 ∷ ns) (member_names-append xs ys)

module _ (P : List ℕ → Type 0) (done rest : List Entry) (e : Entry) where
  pub member_first : NoneOf P (member_names (members_view done)) → P (string_bytes e.0) → IsFirstOf P (member_names (members_view (done ++ e ∷ rest))) (string_bytes e.0)
  member_first none here =
      subst (λ ns. IsFirstOf P ns (string_bytes e.0)) (sym (member_names-append done (e ∷ rest)))
      (first_back P (member_names (members_view done)) (member_names (members_view (e ∷ rest))) (string_bytes e.0) none (first_here P (string_bytes e.0) (member_names (members_view rest)) here))

  pub member_next : NoneOf P (member_names (members_view done)) → ¬ P (string_bytes e.0) → NoneOf P (member_names (members_view (done ++ e ∷ [])))
  member_next none here =
      subst (NoneOf P) (sym (member_names-append done (e ∷ []))) (none_append P (member_names (members_view done)) (string_bytes e.0 ∷ []) none (here, tt))

-- The items of a list of the document, place by place.
use Rattle.std.proofs.Common.{◌≡◌, ℕ, zero, suc, List, [], ◌∷◌, get_or, Some, None, Bool, false, ◌↔◌, IsTrue, refl, sym, ap, subst, ◌∙◌, arith}
use Rattle.std.specs.List.{All, Any}
use Rattle.std.proofs.lemmas.Option.{same_Some}
use Rattle.toml.specs.Data.{Data, string, integer, float, boolean, datetime, array, table, at, get_item, as_array}
use Rattle.toml.specs.View.{view, items_view}
use Rattle.toml.specs.declared.value.Value.{Value}
use Rattle.toml.proofs.Views.{get_item_within}
use Rattle.bng_schema.specs.Forms.{IsListOf, HasWrongText, HasWrongItem}
use Rattle.bng_schema.proofs.Finding.{array_of}

module _ (P : Data → Type 0) where
  item_has : (vs : List Value) → All (λ v. P (view v)) vs → (i : ℕ) (x : Data) → get_item i (items_view vs) ≡ Some x → P x
  item_has [] all i x e = cc
  item_has (v ∷ vs) all zero x e = subst P (same_Some (view v) x e) (all 0 v (omega arith))
  item_has (v ∷ vs) all (suc i) x e = item_has vs (λ k d less. all (suc k) d (omega arith)) i x e

  all_have : (vs : List Value) → ((i : ℕ) (x : Data) → get_item i (items_view vs) ≡ Some x → P x) → All (λ v. P (view v)) vs
  all_have vs each = λ k d less. each k (view (get_or vs k d)) (sym (get_item_within vs k d less))

  some_item : (vs : List Value) → Any (λ v. P (view v)) vs → (i : ℕ) × (x : Data) × (get_item i (items_view vs) ≡ Some x) × P x
  some_item vs (k, v, less, is, has) = (k, view v, sym (get_item_within vs k v less) ∙ ap (λ u. Some (view u)) is, has)

  one_later : (v : Value) (vs : List Value) → Any (λ v. P (view v)) vs → Any (λ v. P (view v)) (v ∷ vs)
  one_later v vs (k, u, less, is, has) = (suc k, u, omega arith, is, has)

  some_value : (vs : List Value) (i : ℕ) (x : Data) → get_item i (items_view vs) ≡ Some x → P x → Any (λ v. P (view v)) vs
  some_value [] i x e has = cc
  some_value (v ∷ vs) zero x e has = (0, v, omega arith, refl, subst P (sym (same_Some (view v) x e)) has)
  some_value (v ∷ vs) (suc i) x e has = one_later v vs (some_value vs i x e has)

  -- a value is a list of such items where all of its values are
  module _ (d : Data) (vs : List Value) (b : Bool) (list : as_array d ≡ Some (items_view vs)) where
    is_array : d ≡ array (items_view vs)
    is_array = array_of d (items_view vs) list

    list_of_all : All (λ v. P (view v)) vs → IsListOf P d
    list_of_all all = record {
      items = items_view vs;
      is = is_array;
      each = λ i x e. item_has vs all i x (sym (ap (at i) is_array) ∙ e);
    }

    all_of_list : IsListOf P d → All (λ v. P (view v)) vs
    all_of_list h = all_have vs (λ i x e. h.each i x (ap (at i) is_array ∙ e))

    pub is_list_of : (IsTrue b ↔ All (λ v. P (view v)) vs) → (IsTrue b ↔ IsListOf P d)
    is_list_of h = (λ t. list_of_all (h.0 t), λ l. h.1 (all_of_list l))

  pub no_list_of : (d : Data) → as_array d ≡ None → (IsTrue false ↔ IsListOf P d)
  no_list_of d none = (λ t. cc, λ l. let both = sym none ∙ ap as_array l.is in cc)

-- only a list has an item at a place
no_item : (d : Data) → as_array d ≡ None → (i : ℕ) (x : Data) → at i d ≡ Some x → ⊥
no_item (string s) none i x e = cc
no_item (integer z) none i x e = cc
no_item (float f) none i x e = cc
no_item (boolean b) none i x e = cc
no_item (datetime t) none i x e = cc
no_item (array ds) none i x e = cc
no_item (table ms) none i x e = cc

-- a list has a wrong item where some of its values is wrong
module _ (P : List ℕ → Type 0) (d : Data) where
  pub is_wrong_list : (vs : List Value) (b : Bool) → as_array d ≡ Some (items_view vs) → (IsTrue b ↔ Any (λ v. HasWrongText P (view v)) vs) → (IsTrue b ↔ HasWrongItem P d)
  is_wrong_list vs b list h =
      let is = array_of d (items_view vs) list in (
        λ t. let some = some_item (HasWrongText P) vs (h.0 t) in record { place = some.0; item = some.1; there = ap (at some.0) is ∙ some.2; wrong = some.3 },
        λ w. h.1 (some_value (HasWrongText P) vs w.place w.item (sym (ap (at w.place) is) ∙ w.there) w.wrong),
      )

  pub no_wrong_list : as_array d ≡ None → (IsTrue false ↔ HasWrongItem P d)
  no_wrong_list none = (λ t. cc, λ w. absurd (no_item d none w.place w.item w.there))

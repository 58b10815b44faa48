-- A list of values that spells a list of texts, place by place.
use Rattle.std.proofs.Common.{◌≡◌, ℕ, zero, suc, ◌+◌, ◌<◌, ◌≤◌, List, [], ◌∷◌, ◌++◌, length, get_or, take, map, sym, ap, ◌∙◌, arith, inl, inr, ◌⊎◌}
use Rattle.std.proofs.lemmas.List.{length-map, take_more, map_push}
use Rattle.arrayvec.specs.ArrayVec.{ArrayVec}
use Rattle.toml.specs.Data.{string, array}
use Rattle.toml.specs.View.{view, items_of, items_view}
use Rattle.toml.specs.declared.value.Value.{Value}
use Rattle.bng_base.specs.declared.address.Ip4.{Ip4}
use Rattle.bng_base.specs.declared.settings.AuthKind.{AuthKind}
use Rattle.bng_schema.specs.Address.{address_text}
use Rattle.bng_schema.specs.Forms.{AreServices, AreAddresses, AreKinds, list_of, kind_text}
use Rattle.bng_schema.proofs.Spellings.{items_once, string_once, kind_once}

module _ {X : Type 0} (text : X → List ℕ) where
  pub listed : (vs : List Value) (xs : List X) → array (items_view vs) ≡ list_of text xs → map view vs ≡ map (λ x. string (text x)) xs
  listed vs xs e =
      let items : items_of (map view vs) ≡ items_of (map (λ x. string (text x)) xs) = cc in
      items_once _ _ items

  pub as_many : (vs : List Value) (xs : List X) → array (items_view vs) ≡ list_of text xs → length vs ≡ length xs
  as_many vs xs e = sym (length-map vs view) ∙ ap length (listed vs xs e) ∙ length-map xs (λ x. string (text x))

  spelt : (vs : List Value) (xs : List X) (i : ℕ) (v : Value) (d : X) → map view vs ≡ map (λ x. string (text x)) xs → i < length vs → v ≡ get_or vs i v
      → view v ≡ string (text (get_or xs i d))
  spelt [] xs i v d e less at = absurd (omega arith)
  spelt (w ∷ vs) [] i v d e less at = cc
  spelt (w ∷ vs) (x ∷ xs) zero v d e less at =
      let heads : view w ≡ string (text x) = cc in
      ap view at ∙ heads
  spelt (w ∷ vs) (x ∷ xs) (suc i) v d e less at =
      let tails : map view vs ≡ map (λ x. string (text x)) xs = cc in
      spelt vs xs i v d tails (omega arith) at

  -- what each value spells
  pub spells : (vs : List Value) (xs : List X) (i : ℕ) (v : Value) (d : X) → array (items_view vs) ≡ list_of text xs → i < length vs → v ≡ get_or vs i v
      → view v ≡ string (text (get_or xs i d))
  spells vs xs i v d e = spelt vs xs i v d (listed vs xs e)

  -- one value more
  pub spells_more : (vs : List Value) (xs ys : List X) (i : ℕ) (v : Value) (x : X) → i < length vs → v ≡ get_or vs i v → map view (take i vs) ≡ map (λ x. string (text x)) xs
      → view v ≡ string (text x) → ys ≡ xs ++ x ∷ [] → map view (take (i + 1) vs) ≡ map (λ x. string (text x)) ys
  spells_more vs xs ys i v x less at before here more =
      let taken : take (i + 1) vs ≡ take i vs ++ v ∷ [] = take_more vs i v less ∙ ap (λ u. take i vs ++ u ∷ []) (sym at) in
      let left = ap (map view) taken ∙ map_push view (take i vs) v in
      let right = ap (map (λ x. string (text x))) more ∙ map_push (λ x. string (text x)) xs x in
      cc

pub too_many : (vs : List Value) (s : ArrayVec (ArrayVec ℕ)) → 8 < length vs → ¬ AreServices (array (items_view vs)) s
too_many vs s more h =
    let same = as_many (λ x. x.items) vs s.items h.list in
    let few = h.few in
    omega arith

pub three : (vs : List Value) (k : ArrayVec AuthKind) → 3 ≤ length vs → ¬ AreKinds (array (items_view vs)) k
three vs k more h =
    let same = as_many kind_text vs k.items h.list in
    let few = h.few in
    omega arith

-- a kind that stands at two places
pub twice : (vs : List Value) (first second : Value) (kind : AuthKind) (k : ArrayVec AuthKind) → 2 ≤ length vs → first ≡ get_or vs 0 first → second ≡ get_or vs 1 second
    → view first ≡ string (kind_text kind) → view second ≡ string (kind_text kind) → ¬ AreKinds (array (items_view vs)) k
twice vs first second kind k long at_first at_second is_first is_second h =
    let same = as_many kind_text vs k.items h.list in
    let one = kind_once _ _ (string_once _ _ (sym (spells kind_text vs k.items 0 first kind h.list (omega arith) at_first) ∙ is_first)) in
    let other = kind_once _ _ (string_once _ _ (sym (spells kind_text vs k.items 1 second kind h.list (omega arith) at_second) ∙ is_second)) in
    h.different 0 1 kind (omega arith) (omega arith) (one ∙ sym other)

-- too few or too many addresses
pub other_many : (vs : List Value) (least most : ℕ) (a : ArrayVec Ip4) → (length vs < least) ⊎ (most < length vs) → ¬ AreAddresses least most (array (items_view vs)) a
other_many vs least most a (inl fewer) h =
    let same = as_many address_text vs a.items h.list in
    let some = h.some in
    omega arith
other_many vs least most a (inr more) h =
    let same = as_many address_text vs a.items h.list in
    let few = h.few in
    omega arith

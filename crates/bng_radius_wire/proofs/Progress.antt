-- How far a loop over attributes has come.
use Rattle.std.proofs.Common.{◌≡◌, ℕ, suc, ◌+◌, ◌-◌, ◌<◌, ◌≤◌, List, [], ◌∷◌, ◌++◌, length, get_or, take, drop, refl, sym, ap, ◌∙◌, arith, length-append}
use Rattle.std.proofs.lemmas.List.{take_at, drop_at, take-append-drop, length-take, length-drop, take_all}
use Rattle.bng_base.specs.Pieces.{IsCode}
use Rattle.bng_radius_wire.specs.declared.views.Attribute.{Attribute}
use Rattle.bng_radius_wire.specs.Attributes.{Field, field, fields, text, Fits}

same_value : (a b x y : List ℕ) → length a ≡ length b → a ++ x ≡ b ++ y → (a ≡ b) × (x ≡ y)
same_value a b x y len e = (
  sym (take_at a x (length a) refl) ∙ ap (take (length a)) e ∙ take_at b y (length a) (sym len),
  sym (drop_at a x (length a) refl) ∙ ap (drop (length a)) e ∙ drop_at b y (length a) (sym len),
)

pub is_code : IsCode Fits text
is_code = record {
  nonempty = λ f. omega arith;
  splits = λ a b x y fa fb e.
      let kinds : a.kind ≡ b.kind = cc in
      let lengths : 2 + length a.value ≡ 2 + length b.value = cc in
      let values : a.value ++ x ≡ b.value ++ y = cc in
      let same = same_value a.value b.value x y (omega arith) values in
      let made : ℕ → List ℕ → Field = λ k v. record { kind = k; value = v } in
      (ap (λ (k : ℕ). made k a.value) kinds ∙ ap (made b.kind) same.0, same.1);
}

-- What the first two octets of the rest say. `after` is what a slice pattern binds behind them.
pub opened : (rest after value next : List ℕ) (size : ℕ) → 2 ≤ length rest → after ≡ take (length rest - 2) (drop 2 rest) → size ≡ get_or rest 1 0
    → 2 ≤ size → size - 2 ≤ length after → value ≡ take (size - 2) after → next ≡ drop (size - 2) after
    → rest ≡ text (record { kind = get_or rest 0 0; value = value }) ++ next
opened (kind ∷ second ∷ others) after value next size two is_after is_size least there is_value is_next =
    let all : after ≡ others = is_after ∙ take_all (length (kind ∷ second ∷ others) - 2) others (omega arith) in
    let len : 2 + length value ≡ second = omega (arith, ap length is_value, length-take (size - 2) after) in
    let back : value ++ next ≡ others = ap (λ (v : List ℕ). v ++ next) is_value ∙ ap (λ (n : List ℕ). take (size - 2) after ++ n) is_next ∙ take-append-drop (size - 2) after ∙ all in
    ap (λ (r : List ℕ). kind ∷ second ∷ r) (sym back) ∙ ap (λ (n : ℕ). kind ∷ n ∷ (value ++ next)) (sym len)
opened (kind ∷ []) after value next size two is_after is_size least there is_value is_next = absurd (omega arith)
opened [] after value next size two is_after is_size least there is_value is_next = absurd (omega arith)

pub too_short : (rest : List ℕ) → length rest < 2 → (f : Field) (next : List ℕ) → Fits f → rest ≡ text f ++ next → ⊥
too_short rest short f next fits e = omega (arith, ap length e)

pub small_length : (rest : List ℕ) → get_or rest 1 0 < 2 → (f : Field) (next : List ℕ) → Fits f → rest ≡ text f ++ next → ⊥
small_length rest small f next fits e = omega (arith, ap (λ (r : List ℕ). get_or r 1 0) e)

pub large_length : (rest after : List ℕ) → after ≡ take (length rest - 2) (drop 2 rest) → length after < get_or rest 1 0 - 2 → (f : Field) (next : List ℕ) → Fits f → rest ≡ text f ++ next → ⊥
large_length rest after is_after large f next fits e =
    omega (arith, ap (λ (r : List ℕ). get_or r 1 0) e, ap length e, ap length is_after, length-take (length rest - 2) (drop 2 rest), length-drop 2 rest, length-append f.value next)

pub fields-push : (os : List Attribute) (o : Attribute) → fields (os ++ o ∷ []) ≡ fields os ++ field o ∷ []
fields-push [] o = refl
fields-push (x ∷ os) o = ap (λ (r : List Field). field x ∷ r) (fields-push os o)

pub length-fields : (os : List Attribute) → length (fields os) ≡ length os
length-fields [] = refl
length-fields (x ∷ os) = ap suc (length-fields os)

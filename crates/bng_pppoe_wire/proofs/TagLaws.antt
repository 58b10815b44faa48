-- Tags are read in one way, and so is what follows them.
use Rattle.std.proofs.Common.{◌≡◌, ℕ, ◌+◌, ◌*◌, ◌/◌, ◌%◌, ◌<◌, ◌≤◌, List, ◌∷◌, ◌++◌, length, get_or, take, drop, refl, sym, ap, subst, ◌∙◌, arith}
use Rattle.std.proofs.lemmas.List.{take_at, drop_at, take-append-drop, length-take}
use Rattle.bng_base.specs.Pieces.{IsCode}
use Rattle.bng_base.specs.PppoeGrammar.{PppoeTag, tag_text, TagFits, IsEnd, AreTags}
use Rattle.bng_base.proofs.PieceLaws.{Stuck, same_split}

same_value : (a b x y : List ℕ) → length a ≡ length b → a ++ x ≡ b ++ y → (a ≡ b) × (x ≡ y)
same_value a b x y len e = (
  sym (take_at a x (length a) refl) ∙ ap (take (length a)) e ∙ take_at b y (length a) (sym len),
  sym (drop_at a x (length a) refl) ∙ ap (drop (length a)) e ∙ drop_at b y (length a) (sym len),
)

pub tag_code : IsCode TagFits tag_text
tag_code = record {
  nonempty = λ t. omega arith;
  splits = λ a b x y fa fb e.
      let k1 : a.kind / 256 % 256 ≡ b.kind / 256 % 256 = cc in
      let k0 : a.kind % 256 ≡ b.kind % 256 = cc in
      let n1 : length a.value / 256 % 256 ≡ length b.value / 256 % 256 = cc in
      let n0 : length a.value % 256 ≡ length b.value % 256 = cc in
      let values : a.value ++ x ≡ b.value ++ y = cc in
      let kinds : a.kind ≡ b.kind = omega (arith, fa.kind, fb.kind) in
      let sizes : length a.value ≡ length b.value = omega (arith, fa.size, fb.size) in
      let same = same_value a.value b.value x y sizes values in
      let made : ℕ → List ℕ → PppoeTag = λ k v. record { kind = k; value = v } in
      (ap (λ (k : ℕ). made k a.value) kinds ∙ ap (made b.kind) same.0, same.1);
}

-- no tag begins the end of a list
pub end_stuck : (rest : List ℕ) → IsEnd rest → Stuck TagFits tag_text rest
end_stuck rest end t next fits e =
    let same : IsEnd (tag_text t ++ next) = subst IsEnd e end in
    let zeros = same (omega arith) in
    let high : t.kind / 256 % 256 ≡ 0 = ap (λ (xs : List ℕ). get_or xs 0 0) zeros in
    let low : t.kind % 256 ≡ 0 = ap (λ (xs : List ℕ). get_or xs 1 0) zeros in
    omega (arith, high, low, fits.kind, fits.not_end)

-- octets list their tags in one way
pub one_tags : (a b : List PppoeTag) (bytes : List ℕ) → AreTags a bytes → AreTags b bytes → a ≡ b
one_tags a b bytes x y =
    (same_split TagFits tag_text tag_code a b x.rest y.rest x.fit y.fit (end_stuck x.rest x.end) (end_stuck y.rest y.end) (sym x.spelled ∙ y.spelled)).0

-- the four octets before a value, and the value after them
pub opened : (k1 k0 n1 n0 : ℕ) (after : List ℕ) → k1 < 256 → k0 < 256 → n1 < 256 → n0 < 256 → n1 * 256 + n0 ≤ length after
    → k1 ∷ k0 ∷ n1 ∷ n0 ∷ after ≡ tag_text (record { kind = k1 * 256 + k0; value = take (n1 * 256 + n0) after }) ++ drop (n1 * 256 + n0) after
opened k1 k0 n1 n0 after h1 h0 g1 g0 there =
    let size = n1 * 256 + n0 in
    let long : length (take size after) ≡ size = omega (arith, length-take size after) in
    let a : k1 ≡ (k1 * 256 + k0) / 256 % 256 = omega arith in
    let b : k0 ≡ (k1 * 256 + k0) % 256 = omega arith in
    let d : n1 ≡ length (take size after) / 256 % 256 = omega (arith, long) in
    let f : n0 ≡ length (take size after) % 256 = omega (arith, long) in
    ap (λ (x : ℕ). x ∷ k0 ∷ n1 ∷ n0 ∷ after) a
    ∙ ap (λ (x : ℕ). ((k1 * 256 + k0) / 256 % 256) ∷ x ∷ n1 ∷ n0 ∷ after) b
    ∙ ap (λ (x : ℕ). ((k1 * 256 + k0) / 256 % 256) ∷ ((k1 * 256 + k0) % 256) ∷ x ∷ n0 ∷ after) d
    ∙ ap (λ (x : ℕ). ((k1 * 256 + k0) / 256 % 256) ∷ ((k1 * 256 + k0) % 256) ∷ (length (take size after) / 256 % 256) ∷ x ∷ after) f
    ∙ ap (λ (xs : List ℕ). ((k1 * 256 + k0) / 256 % 256) ∷ ((k1 * 256 + k0) % 256) ∷ (length (take size after) / 256 % 256) ∷ (length (take size after) % 256) ∷ xs) (sym (take-append-drop size after))

use Rattle.std.proofs.Common.{◌≡◌, ℕ, List, [], ◌∷◌, ◌++◌, length, slice_index_or, refl, ap, ◌∙◌, arith, rules}
use Rattle.bng_desk.proofs.random.joined.Goals as goal

abbrev members : List ℕ → List ℕ
members xs = slice_index_or xs 0 0 ∷ slice_index_or xs 1 0 ∷ slice_index_or xs 2 0 ∷ slice_index_or xs 3 0 ∷ []

-- a list of four is its four members
four : (xs : List ℕ) → length xs ≡ 4 → members xs ≡ xs
four [] is = absurd (omega arith)
four (a ∷ []) is = absurd (omega arith)
four (a ∷ b ∷ []) is = absurd (omega arith)
four (a ∷ b ∷ c ∷ []) is = absurd (omega arith)
four (a ∷ b ∷ c ∷ d ∷ []) is = refl
four (a ∷ b ∷ c ∷ d ∷ e ∷ xs) is = absurd (omega arith)

pub returns : goal.returns
returns c =
    let a = c.args.a in
    let b = c.args.b in
    let x = c.args.c in
    let d = c.args.d in
    ap (λ (xs : List ℕ). xs ++ members b ++ members x ++ members d) (four a (search rules))
    ∙ ap (λ (xs : List ℕ). a ++ xs ++ members x ++ members d) (four b (search rules))
    ∙ ap (λ (xs : List ℕ). a ++ b ++ xs ++ members d) (four x (search rules))
    ∙ ap (λ (xs : List ℕ). a ++ b ++ x ++ xs) (four d (search rules))

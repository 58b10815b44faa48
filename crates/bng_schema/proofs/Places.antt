-- Entries that are read one after the other.
use Rattle.std.proofs.Common.{◌≡◌, ℕ, zero, suc, List, [], ◌∷◌, ◌++◌, length, refl, sym, subst, arith}
use Rattle.bng_schema.specs.Forms.{EachPlace}

pub each_none : {X : Type 0} (P : ℕ → X → Type 0) (xs : List X) → length xs ≡ 0 → EachPlace P xs
each_none P xs none i d less = absurd (omega arith)

-- one more at the end
pub each_push : {X : Type 0} (P : ℕ → X → Type 0) (xs : List X) (n : ℕ) (x : X) → length xs ≡ n → EachPlace P xs → P n x → EachPlace P (xs ++ x ∷ [])
each_push P [] n x long each last zero d less = subst (λ m. P m x) (sym long) last
each_push P [] n x long each last (suc i) d less = absurd (omega arith)
each_push P (y ∷ ys) n x long each last zero d less = each 0 d (omega arith)
each_push P (y ∷ ys) n x long each last (suc i) d less =
    each_push (λ m. P (suc m)) ys (length ys) x refl (λ m e h. each (suc m) e (omega arith)) (subst (λ m. P m x) (sym long) last) i d (omega arith)

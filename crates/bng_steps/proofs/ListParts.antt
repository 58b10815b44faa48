-- Lists with one element less, and with one more at the end.
use Rattle.std.proofs.Common.{zero, suc, List, [], ◌∷◌, ◌++◌, inl, inr, arith}
use Rattle.std.specs.List.{All, AllPairs}
use Rattle.bng_engine.specs.Lists.{AnyOf}

module _ {X : Type 0} where
  pub all_left : (P : X → Type 0) (before after : List X) (x : X) → All P (before ++ x ∷ after) → All P (before ++ after)
  all_left P [] after x h k d lt = h (suc k) d (omega (arith, lt))
  all_left P (b ∷ before) after x h zero d lt = h zero d (omega arith)
  all_left P (b ∷ before) after x h (suc k) d lt = all_left P before after x (λ j e within. h (suc j) e (omega (arith, within))) k d (omega (arith, lt))

  pub pairs_left : (R : X → X → Type 0) (before after : List X) (x : X) → AllPairs R (before ++ x ∷ after) → AllPairs R (before ++ after)
  pairs_left R [] after x h i j d lt within = h (suc i) (suc j) d (omega (arith, lt)) (omega (arith, within))
  pairs_left R (b ∷ before) after x h i zero d lt within = absurd (omega (arith, lt))
  pairs_left R (b ∷ before) after x h zero (suc j) d lt within = all_left (R b) before after x (λ k e l. h zero (suc k) e (omega arith) (omega (arith, l))) j d (omega (arith, within))
  pairs_left R (b ∷ before) after x h (suc i) (suc j) d lt within =
      pairs_left R before after x (λ k l e below inside. h (suc k) (suc l) e (omega (arith, below)) (omega (arith, inside))) i j d (omega (arith, lt)) (omega (arith, within))

  pub any_more : (P : X → Type 0) (xs ys : List X) → AnyOf P xs → AnyOf P (xs ++ ys)
  any_more P [] ys any = absurd any
  any_more P (x ∷ xs) ys (inl is) = inl is
  any_more P (x ∷ xs) ys (inr later) = inr (any_more P xs ys later)

  pub any_last : (P : X → Type 0) (xs : List X) (x : X) → P x → AnyOf P (xs ++ x ∷ [])
  any_last P [] x is = inl is
  any_last P (y ∷ xs) x is = inr (any_last P xs x is)

  -- another one of them
  pub any_left : (P : X → Type 0) (before after : List X) (x : X) → (P x → ⊥) → AnyOf P (before ++ x ∷ after) → AnyOf P (before ++ after)
  any_left P [] after x other (inl is) = absurd (other is)
  any_left P [] after x other (inr later) = later
  any_left P (b ∷ before) after x other (inl is) = inl is
  any_left P (b ∷ before) after x other (inr later) = inr (any_left P before after x other later)

-- The first of a list of which something holds.
use Rattle.std.specs.Prelude.{◌≡◌, List, ◌∷◌, ◌++◌}
use Rattle.std.specs.List.{AllByRecursion}

-- it holds of none
abbrev pub NoneOf : {X : Type 0} → (X → Type 0) → List X → Type 0
NoneOf P xs = AllByRecursion (λ x. ¬ P x) xs

-- it holds of this one, and of none before it
pub record IsFirstOf {X : Type 0} (P : X → Type 0) (xs : List X) (x : X) : Type 0 where
  pub before : List X
  pub after : List X
  pub place : xs ≡ before ++ x ∷ after
  pub kept : NoneOf P before
  pub broken : P x

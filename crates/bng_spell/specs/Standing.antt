-- What stands at a place of a text.
use Rattle.std.specs.Prelude.{◌≡◌, ◌≢◌, ◌≤◌, ℕ, List, ◌++◌, length, drop}

-- the text that stands at this place, and the place behind it
pub record Stands (whole : List ℕ) (at : ℕ) (text : List ℕ) (next : ℕ) : Type 0 where
  pub is : drop at whole ≡ text ++ drop next whole
  pub within : next ≤ length whole

-- no text of this form stands there
abbrev pub Lacks : {X : Type 0} → (X → Type 0) → (X → List ℕ) → List ℕ → ℕ → Type 0
Lacks {X} Fits text whole at = (x : X) (rest : List ℕ) → Fits x → drop at whole ≢ text x ++ rest

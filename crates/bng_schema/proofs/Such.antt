-- Tests of the one thing that stands at a key.
use Rattle.std.proofs.Common.{◌≡◌, ℕ, ℤ, Bool, false, List, ◌↔◌, IsTrue, sym, subst, ◌∙◌}
use Rattle.toml.specs.Data.{Data}
use Rattle.bng_schema.specs.declared.keys.Field.{Field}
use Rattle.bng_schema.specs.declared.keys.Key.{Key}
use Rattle.bng_schema.specs.Repeats.{HasText}
use Rattle.bng_schema.specs.Circuits.{HasNumber}

-- there is one such thing, and this is said of it; or there is none
module _ {X : Type 0} (P Q : X → Type 0) where
  pub one_such : ((x y : X) → P x → P y → x ≡ y) → (x : X) (b : Bool) → P x → (IsTrue b ↔ Q x) → (IsTrue b ↔ ((y : X) × P y × Q y))
  one_such once x b is h = (λ t. (x, is, h.0 t), λ w. h.1 (subst Q (once w.0 x w.1 is) w.2))

  pub none_such : ((x : X) → ¬ P x) → (IsTrue false ↔ ((y : X) × P y × Q y))
  none_such none = (λ t. cc, λ w. absurd (none w.0 w.1))

pub text_once : (document : Data) (key : Key) (s t : List ℕ) → HasText document key s → HasText document key t → s ≡ t
text_once document key s t a b = let both = sym a ∙ b in cc

pub number_once : (document : Data) (field : Field) (place : ℕ) (m n : ℤ) → HasNumber document field place m → HasNumber document field place n → m ≡ n
number_once document field place m n a b = let both = sym a ∙ b in cc

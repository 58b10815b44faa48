-- What the reading of a text or an integer at a key says of the key.
use Rattle.std.proofs.Common.{◌≡◌, ℕ, ℤ, List, Option, Some, None, option_map, option_and_then, IfSome, IfNone, sym, ap, ◌∙◌}
use Rattle.toml.specs.Data.{Data, string, integer, as_str, as_integer}
use Rattle.bng_schema.proofs.Tests.{string_of, integer_of}

text_here : (o : Option Data) (s : List ℕ) → Some s ≡ option_and_then as_str o → o ≡ Some (string s)
text_here (Some d) s e = ap Some (string_of d s (sym e))
text_here None s e = cc

no_text_here : (o : Option Data) → None ≡ option_and_then as_str o → (text : List ℕ) → o ≡ Some (string text) → ⊥
no_text_here o e text is =
    let both = e ∙ ap (option_and_then as_str) is in
    cc

number_here : (o : Option Data) (z : ℤ) → Some z ≡ option_and_then as_integer o → o ≡ Some (integer z)
number_here (Some d) z e = ap Some (integer_of d z (sym e))
number_here None z e = cc

no_number_here : (o : Option Data) → None ≡ option_and_then as_integer o → (z : ℤ) → o ≡ Some (integer z) → ⊥
no_number_here o e z is =
    let both = e ∙ ap (option_and_then as_integer) is in
    cc

-- a text that was read
module _ {A : Type 0} (f : A → List ℕ) where
  pub text_found : (r : Option A) (o : Option Data) → option_map f r ≡ option_and_then as_str o → IfSome r (λ s. o ≡ Some (string (f s)))
  text_found (Some s) o e = text_here o (f s) e
  text_found None o e = tt

  pub text_not_found : (r : Option A) (o : Option Data) → option_map f r ≡ option_and_then as_str o → IfNone r ((text : List ℕ) → o ≡ Some (string text) → ⊥)
  text_not_found (Some s) o e = tt
  text_not_found None o e = no_text_here o e

-- an integer that was read
pub number_found : (r : Option ℤ) (o : Option Data) → r ≡ option_and_then as_integer o → IfSome r (λ z. o ≡ Some (integer z))
number_found (Some z) o e = number_here o z e
number_found None o e = tt

pub number_not_found : (r : Option ℤ) (o : Option Data) → r ≡ option_and_then as_integer o → IfNone r ((z : ℤ) → o ≡ Some (integer z) → ⊥)
number_not_found (Some z) o e = tt
number_not_found None o e = no_number_here o e

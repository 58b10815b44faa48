-- What stands at the front of a text.
use Rattle.std.specs.Prelude.{◌≡◌, ◌≢◌, ℕ, ◌<◌, List, ◌∷◌, ◌++◌, length, slice_index}
use Rattle.std.specs.Fmt.{decimal}
use Rattle.bng_schema.specs.Address.{octet_text}

-- a decimal number below 256 and this mark, and then the rest
pub record BeginsWithNumber (mark : ℕ) (text : List ℕ) (n : ℕ) (rest : List ℕ) : Type 0 where
  pub front : text ≡ decimal n ++ mark ∷ rest
  pub octet : n < 256

-- two hexadecimal digits and this mark, and then the rest
pub record BeginsWithOctet (mark : ℕ) (text : List ℕ) (n : ℕ) (rest : List ℕ) : Type 0 where
  pub front : text ≡ octet_text n ++ mark ∷ rest
  pub octet : n < 256

-- no plus sign, and no leading zero
pub record IsPlain (text : List ℕ) : Type 0 where
  pub sign : slice_index text 0 ≢ 43
  pub lead : slice_index text 0 ≡ 48 → length text ≡ 1

-- The text of an Ethernet address, octet by octet.
use Rattle.std.proofs.Common.{◌≡◌, ℕ, ◌<◌, List, [], ◌∷◌, ◌++◌, map, length, refl, sym, ap, ◌∙◌, arith}
use Rattle.std.specs.List.{AllByRecursion, join_with_byte}
use Rattle.bng_base.specs.declared.address.Mac.{Mac}
use Rattle.bng_schema.specs.Address.{mac_text, octet_text, colon}
use Rattle.bng_schema.specs.Parts.{BeginsWithOctet}

-- what follows the first octet, where the text is known
pub after_octet : (text : List ℕ) (m n : ℕ) (x y : List ℕ) → BeginsWithOctet colon text m x → text ≡ octet_text n ++ colon ∷ y → x ≡ y
after_octet text m n x y found is = let both = sym found.front ∙ is in cc

-- the octets of a list of six
pub record Six (xs : List ℕ) : Type 0 where
  pub a : ℕ
  pub b : ℕ
  pub c : ℕ
  pub d : ℕ
  pub e : ℕ
  pub f : ℕ
  pub are : xs ≡ a ∷ b ∷ c ∷ d ∷ e ∷ f ∷ []
  pub fit_a : a < 256
  pub fit_b : b < 256
  pub fit_c : c < 256
  pub fit_d : d < 256
  pub fit_e : e < 256
  pub fit_f : f < 256

pub six_of : (xs : List ℕ) → length xs ≡ 6 → AllByRecursion (λ o. o < 256) xs → Six xs
six_of (a ∷ b ∷ c ∷ d ∷ e ∷ f ∷ []) six fit =
    record { a = a; b = b; c = c; d = d; e = e; f = f; are = refl; fit_a = fit.0; fit_b = fit.1.0; fit_c = fit.1.1.0; fit_d = fit.1.1.1.0; fit_e = fit.1.1.1.1.0; fit_f = fit.1.1.1.1.1.0 }
six_of [] six fit = absurd (omega arith)
six_of (a ∷ []) six fit = absurd (omega arith)
six_of (a ∷ b ∷ []) six fit = absurd (omega arith)
six_of (a ∷ b ∷ c ∷ []) six fit = absurd (omega arith)
six_of (a ∷ b ∷ c ∷ d ∷ []) six fit = absurd (omega arith)
six_of (a ∷ b ∷ c ∷ d ∷ e ∷ []) six fit = absurd (omega arith)
six_of (a ∷ b ∷ c ∷ d ∷ e ∷ f ∷ g ∷ more) six fit = absurd (omega arith)

module _ {xs : List ℕ} (s : Six xs) where
  abbrev pub sixth_text : List ℕ
  sixth_text = octet_text s.f

  abbrev pub fifth_text : List ℕ
  fifth_text = octet_text s.e ++ colon ∷ sixth_text

  abbrev pub fourth_text : List ℕ
  fourth_text = octet_text s.d ++ colon ∷ fifth_text

  abbrev pub third_text : List ℕ
  third_text = octet_text s.c ++ colon ∷ fourth_text

  abbrev pub second_text : List ℕ
  second_text = octet_text s.b ++ colon ∷ third_text

  abbrev pub first_text : List ℕ
  first_text = octet_text s.a ++ colon ∷ second_text

pub mac_parts : (m : Mac) (s : Six m.0) → mac_text m ≡ first_text s
mac_parts m s = ap (λ xs. join_with_byte colon (map octet_text xs)) s.are

-- The octets of a MAC as a text.
use Rattle.std.proofs.Common.{◌≡◌, ℕ, List, [], ◌∷◌, length, get_or, refl, arith}
use Rattle.hex.specs.Hex.{encode_with, encode_lower}
use Rattle.bng_acct.specs.Texts.{station_id}

pub pairs_parted : (mac : List ℕ) → length mac ≡ 6
    → (let d = encode_lower mac in get_or d 0 0 ∷ get_or d 1 0 ∷ 58 ∷ get_or d 2 0 ∷ get_or d 3 0 ∷ 58 ∷ get_or d 4 0 ∷ get_or d 5 0 ∷ 58 ∷ get_or d 6 0 ∷ get_or d 7 0 ∷ 58 ∷ get_or d 8 0 ∷ get_or d 9 0 ∷ 58 ∷ get_or d 10 0 ∷ get_or d 11 0 ∷ [])
    ≡ station_id mac
unfolding encode_with
pairs_parted (a ∷ b ∷ c ∷ d ∷ e ∷ f ∷ []) h = refl
pairs_parted [] h = absurd (omega arith)
pairs_parted (a ∷ []) h = absurd (omega arith)
pairs_parted (a ∷ b ∷ []) h = absurd (omega arith)
pairs_parted (a ∷ b ∷ c ∷ []) h = absurd (omega arith)
pairs_parted (a ∷ b ∷ c ∷ d ∷ []) h = absurd (omega arith)
pairs_parted (a ∷ b ∷ c ∷ d ∷ e ∷ []) h = absurd (omega arith)
pairs_parted (a ∷ b ∷ c ∷ d ∷ e ∷ f ∷ g ∷ more) h = absurd (omega arith)

-- Addresses, part by part.
use Rattle.std.proofs.Common.{◌≡◌, ◌≢◌, ℕ, zero, suc, ◌<◌, ◌/◌, ◌%◌, ◌^◌, List, [], ◌∷◌, ◌++◌, length, get_or, refl, sym, ◌∙◌, append_assoc, arith, codes}
use Rattle.std.specs.Fmt.{decimal}
use Rattle.bng_base.specs.declared.address.Ip4.{Ip4}
use Rattle.bng_base.specs.declared.address.Peer.{Peer}
use Rattle.bng_schema.specs.Address.{address_text, peer_text, dot, colon}
use Rattle.bng_schema.specs.Parts.{BeginsWithNumber}
use Rattle.bng_schema.proofs.Decimals.{decimal_without, decimal_without_above}

-- the list has no such number
abbrev pub Without : ℕ → List ℕ → Type 0
Without mark xs = (i : ℕ) → i < length xs → get_or xs i 0 ≢ mark

pub Without-append : (mark : ℕ) (xs ys : List ℕ) → Without mark xs → Without mark ys → Without mark (xs ++ ys)
Without-append mark [] ys a b i h = b i h
Without-append mark (x ∷ xs) ys a b zero h = a 0 (omega arith)
Without-append mark (x ∷ xs) ys a b (suc i) h = Without-append mark xs ys (λ j k. a (suc j) (omega arith)) b i (omega arith)

-- a text is cut at its first mark in one way
pub cut_once : (mark : ℕ) (xs ys x y : List ℕ) → Without mark xs → Without mark ys → xs ++ mark ∷ x ≡ ys ++ mark ∷ y → (xs ≡ ys) × (x ≡ y)
cut_once mark [] [] x y a b e = (refl, cc)
cut_once mark [] (d ∷ ys) x y a b e = let same : d ≡ mark = cc in absurd (b 0 (omega arith) same)
cut_once mark (c ∷ xs) [] x y a b e = let same : c ≡ mark = cc in absurd (a 0 (omega arith) same)
cut_once mark (c ∷ xs) (d ∷ ys) x y a b e =
    let heads : c ≡ d = cc in
    let tails : xs ++ mark ∷ x ≡ ys ++ mark ∷ y = cc in
    let more = cut_once mark xs ys x y (λ i h. a (suc i) (omega arith)) (λ i h. b (suc i) (omega arith)) tails in
    (cc, more.1)

-- what follows the first number, where the text is known
pub after_number : (text : List ℕ) (m n : ℕ) (x y : List ℕ) → BeginsWithNumber dot text m x → n < 256 → text ≡ decimal n ++ dot ∷ y → x ≡ y
after_number text m n x y found small is =
    (cut_once dot (decimal m) (decimal n) x y (decimal_without m dot (omega (arith, found.octet)) (omega arith)) (decimal_without n dot (omega arith) (omega arith)) (sym found.front ∙ is)).1

abbrev pub fourth_text : Ip4 → List ℕ
fourth_text a = decimal (a.0 % 256)

abbrev pub third_text : Ip4 → List ℕ
third_text a = decimal (a.0 / 2 ^ 8 % 256) ++ dot ∷ fourth_text a

abbrev pub second_text : Ip4 → List ℕ
second_text a = decimal (a.0 / 2 ^ 16 % 256) ++ dot ∷ third_text a

regrouped : (a b c d : List ℕ) → a ++ codes "." ++ b ++ codes "." ++ c ++ codes "." ++ d ≡ a ++ dot ∷ (b ++ dot ∷ (c ++ dot ∷ d))
regrouped a b c d = simp append_assoc

pub address_parts : (a : Ip4) → address_text a ≡ decimal (a.0 / 2 ^ 24) ++ dot ∷ second_text a
address_parts a = regrouped (decimal (a.0 / 2 ^ 24)) (decimal (a.0 / 2 ^ 16 % 256)) (decimal (a.0 / 2 ^ 8 % 256)) (decimal (a.0 % 256))

no_colon_number : (n : ℕ) → n < 2 ^ 64 → Without colon (decimal n)
no_colon_number n small = decimal_without_above n colon small (omega arith)

no_colon_dot : Without colon (codes ".")
no_colon_dot zero h is = omega arith
no_colon_dot (suc i) h is = omega arith

-- an address has no colon
pub address_without : (a : Ip4) → a.0 < 2 ^ 32 → Without colon (address_text a)
address_without a small =
    let first = no_colon_number (a.0 / 2 ^ 24) (omega arith) in
    let second = no_colon_number (a.0 / 2 ^ 16 % 256) (omega arith) in
    let third = no_colon_number (a.0 / 2 ^ 8 % 256) (omega arith) in
    let fourth = no_colon_number (a.0 % 256) (omega arith) in
    let more = Without-append colon in
    more _ _ (more _ _ (more _ _ (more _ _ (more _ _ (more _ _ first no_colon_dot) second) no_colon_dot) third) no_colon_dot) fourth

pub peer_parts : (p : Peer) → peer_text p ≡ address_text p.ip ++ colon ∷ decimal p.port
peer_parts p = append_assoc (address_text p.ip) (codes ":") (decimal p.port)

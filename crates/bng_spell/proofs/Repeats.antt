-- Octets and numbers that are put part after part.
use Rattle.std.proofs.Common.{◌≡◌, ℕ, ◌-◌, ◌≤◌, List, [], ◌∷◌, ◌++◌, length, take, drop, get_or, sym, ap, ◌∙◌, arith}
use Rattle.std.specs.Prelude.{codes}
use Rattle.std.specs.Fmt.{decimal}
use Rattle.std.specs.List.{flat_map, between}
use Rattle.std.proofs.lemmas.List.{take-append-drop, take-take, take_rest}
use Rattle.std.proofs.lemmas.Slice.{between_is}
use Rattle.hex.specs.Hex.{encode_lower, encode_with}
use Rattle.bng_base.specs.Told.{SinkTold}
use Rattle.bng_spell.specs.Fields.{numbers_text}
use Rattle.bng_spell.specs.Spelling.{Pending, Adds}
use Rattle.bng_spell.proofs.Spellings.{adds_none, adds_both, adds_as, adds_digits}

-- no octets have no digits
pub digits_none : (a : SinkTold) (p : Pending) → Adds a a p p (encode_lower [])
unfolding encode_with
digits_none a p = adds_none a p

pub take_parts : (i k : ℕ) (xs : List ℕ) → i ≤ k → take k xs ≡ take i xs ++ between i k xs
take_parts i k xs h =
    sym (take-append-drop i (take k xs)) ∙ ap (λ (t : List ℕ). t ++ drop i (take k xs)) (take-take i k xs h) ∙ ap (λ (t : List ℕ). take i xs ++ t) (sym (between_is xs i k))

-- the digits of the octets up to the next place
pub digits_turn : {a b c : SinkTold} {p q r : Pending} (xs : List ℕ) (i k : ℕ) → i ≤ k → Adds a b p q (encode_lower (take i xs)) → Adds b c q r (encode_lower (between i k xs)) → Adds a c p r (encode_lower (take k xs))
digits_turn xs i k h so_far more = adds_digits xs i k (between i k xs) (take_parts i k xs h) so_far more

first_and_rest : (n : ℕ) (ns : List ℕ) → 1 ≤ length ns → n ≡ get_or ns 0 0 → n ∷ take (length ns - 1) (drop 1 ns) ≡ ns
first_and_rest n [] h e = absurd (omega arith)
first_and_rest n (m ∷ ms) h e = ap (λ (k : ℕ). k ∷ take (length (m ∷ ms) - 1) (drop 1 (m ∷ ms))) e ∙ ap (λ (t : List ℕ). m ∷ t) (take_rest (m ∷ ms) 1)

-- a number and those behind it
pub numbers_from : {a b c : SinkTold} {p q r : Pending} (n : ℕ) (ns : List ℕ) → 1 ≤ length ns → n ≡ get_or ns 0 0 → Adds a b p q (decimal n)
    → Adds b c q r (flat_map (λ (m : ℕ). codes "," ++ decimal m) (take (length ns - 1) (drop 1 ns))) → Adds a c p r (numbers_text ns)
numbers_from n ns h e one more = adds_as (adds_both one more) (ap (λ (t : List ℕ). numbers_text t) (first_and_rest n ns h e))

-- Hexadecimal digits, as they are read.
use Rattle.std.proofs.Common.{◌≡◌, ℕ, suc, ◌-◌, ◌*◌, ◌<◌, ◌≤◌, List, [], ◌∷◌, ◌++◌, length, take, drop, slice_index, refl, sym, ap, subst, ◌∙◌, arith}
use Rattle.std.specs.Prelude.{Result, Ok, Err, codes, true}
use Rattle.std.specs.Result.{is_ok, MatchResult}
use Rattle.std.proofs.lemmas.Bool.{false≢true}
use Rattle.std.specs.List.{between}
use Rattle.std.proofs.lemmas.List.{length-take, take_at, drop_at}
use Rattle.std.proofs.lemmas.List.Edits.{split_between, length-between}
use Rattle.hex.specs.Hex.{encode_lower, encode_with, lower_digits, decode_sized}
use Rattle.hex.proofs.HexLemmas.{length-encode_with, decode_sized-encode_lower, decode_sized-ok, decode_sized-twice, decode_of-ok}
use Rattle.hex.specs.declared.error.FromHexError.{FromHexError}
use Rattle.bng_spell.specs.Fields.{octets_text}
use Rattle.bng_spell.specs.Kept.{AreOctets}
use Rattle.bng_spell.specs.FieldNames.{are_bytes}
use Rattle.bng_spell.proofs.Spellings.{encode_append}
use Rattle.bng_spell.proofs.Repeats.{take_parts}

pub digits_length : (octets : List ℕ) → length (encode_lower octets) ≡ 2 * length octets
digits_length octets = length-encode_with lower_digits octets

-- digits up to a place, and those of the octets behind it
pub digits_more : (field octets : List ℕ) (i k : ℕ) → i ≤ k → take (2 * i) field ≡ encode_lower (take i octets) → between (2 * i) (2 * k) field ≡ encode_lower (between i k octets)
    → take (2 * k) field ≡ encode_lower (take k octets)
digits_more field octets i k h so_far more =
    take_parts (2 * i) (2 * k) field (omega (arith, h)) ∙ ap (λ (t : List ℕ). t ++ between (2 * i) (2 * k) field) so_far ∙ ap (λ (t : List ℕ). encode_lower (take i octets) ++ t) more
    ∙ encode_append (take i octets) (between i k octets) ∙ ap (λ (t : List ℕ). encode_lower t) (sym (take_parts i k octets h))

-- the digits of some of the octets
pub digits_part : (octets : List ℕ) (i k : ℕ) → i ≤ k → k ≤ length octets → between (2 * i) (2 * k) (encode_lower octets) ≡ encode_lower (between i k octets)
digits_part octets i k h within =
    let front = encode_lower (take i octets) in
    let part = encode_lower (between i k octets) in
    let back = encode_lower (drop k octets) in
    let split : encode_lower octets ≡ front ++ (part ++ back) =
    ap (λ (t : List ℕ). encode_lower t) (split_between octets i k h) ∙ sym (encode_append (take i octets) (between i k octets ++ drop k octets))
    ∙ ap (λ (t : List ℕ). front ++ t) (sym (encode_append (between i k octets) (drop k octets))) in
    let front_length : length front ≡ 2 * i = omega (arith, digits_length (take i octets), length-take i octets) in
    let part_length : length part ≡ 2 * k - 2 * i = omega (arith, digits_length (between i k octets), length-between octets i k within) in
    ap (λ (t : List ℕ). between (2 * i) (2 * k) t) split
    ∙ ap (λ (t : List ℕ). take (2 * k - 2 * i) t) (drop_at front (part ++ back) (2 * i) front_length)
    ∙ take_at part back (2 * k - 2 * i) part_length

-- what is decoded of the digits of octets
pub decoded : (field octets : List ℕ) (n : ℕ) → AreOctets octets → length octets ≡ n → field ≡ encode_lower octets → decode_sized field n ≡ Ok octets
decoded field octets n p len e = ap (λ (t : List ℕ). decode_sized t n) e ∙ decode_sized-encode_lower octets n len (are_bytes octets p)

-- octets of a slice are octets
pub are_octets : (octets : List ℕ) → ((i : ℕ) → slice_index octets i < 256) → AreOctets octets
are_octets [] h = tt
are_octets (b ∷ octets) h = (h 0, are_octets octets (λ i. h (suc i)))

-- no octets have no digits
pub no_digits : ◌≡◌ {A = List ℕ} [] (encode_lower [])
unfolding encode_with
no_digits = refl

-- what is decoded are octets
pub decoded_octets : (field out : List ℕ) (n : ℕ) (r : Result Unit FromHexError) (d : Result (List ℕ) FromHexError) → decode_sized field n ≡ d
    → MatchResult d (λ (bytes : List ℕ). (r ≡ Ok tt) × (out ≡ bytes)) (λ (e : FromHexError). r ≡ Err e) → is_ok r ≡ true → AreOctets out
decoded_octets field out n r (Ok bytes) e m t =
    let twice = decode_sized-ok field n bytes e in
    let whole = decode_of-ok field bytes (sym (decode_sized-twice field n twice) ∙ e) in
    subst AreOctets (sym m.1) (are_octets bytes whole.3)
decoded_octets field out n r (Err x) e m t = absurd (false≢true (sym (ap (λ (s : Result Unit FromHexError). is_ok s) m) ∙ t))

-- octets that are no dash are their digits
pub octets_are_digits : (field bytes : List ℕ) → (field ≡ codes "-" → ⊥) → field ≡ octets_text bytes → (field ≡ encode_lower bytes) × (length field ≡ 2 * length bytes) × (0 < length bytes)
octets_are_digits field [] differ e = absurd (differ e)
octets_are_digits field (b ∷ bytes) differ e = (e, ap length e ∙ digits_length (b ∷ bytes), omega arith)

pub digits_are_octets : (bytes : List ℕ) → 0 < length bytes → encode_lower bytes ≡ octets_text bytes
digits_are_octets [] h = absurd (omega arith)
digits_are_octets (b ∷ bytes) h = refl

-- octets that were put together are those that were read
pub octets_found : (field octets made : List ℕ) (n : ℕ) → n ≤ 4160 → AreOctets (take n octets) → field ≡ octets_text (take n octets) → made ≡ take n octets
    → (AreOctets made × (length made ≤ 4160)) × (field ≡ octets_text made)
octets_found field octets made n most p e same =
    ((subst AreOctets (sym same) p, omega (arith, most, ap length same, length-take n octets)), e ∙ ap (λ (t : List ℕ). octets_text t) (sym same))

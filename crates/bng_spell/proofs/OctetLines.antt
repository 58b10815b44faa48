-- Octets up to the line's end, as they are read.
use Rattle.std.proofs.Common.{◌≡◌, ◌≢◌, ℕ, ◌+◌, ◌<◌, ◌≤◌, ◌==◌, List, [], ◌∷◌, Bool, true, false, None, Some, ◌⊎◌, inl, inr, length, take, drop, refl, sym, ap, subst, ◌∙◌, arith}
use Rattle.std.specs.Prelude.{Result, Ok, Err, codes, position}
use Rattle.std.proofs.lemmas.Bool.{eqb-true, false≢true}
use Rattle.hex.specs.Hex.{encode_lower, decode_of}
use Rattle.hex.proofs.HexLemmas.{decode_of-encode_lower, decode_of-ok, decode_of-same}
use Rattle.hex.specs.declared.error.FromHexError.{FromHexError}
use Rattle.hex.specs.declared.error.FromHexError.TheVariants.{OutOfMemory}
use Rattle.bng_spell.specs.Fields.{octets_text}
use Rattle.bng_spell.specs.Kept.{AreOctets}
use Rattle.bng_spell.specs.FieldNames.{are_bytes, octets_plain}
use Rattle.bng_spell.specs.Standing.{Stands, Lacks}
use Rattle.bng_spell.specs.Many.{octets_line_text}
use Rattle.bng_spell.proofs.Digits.{are_octets, octets_are_digits, digits_are_octets}
use Rattle.bng_spell.proofs.Reading.{until_no_stop, until_no_value, until_found}

-- no octets stand where no line ends
pub no_line_end : (whole : List ℕ) (at : ℕ) → None ≡ position (λ (c : ℕ). c == 10) (drop at whole) → Lacks AreOctets octets_line_text whole at
no_line_end whole at none octets rest f e = until_no_stop AreOctets octets_text 10 octets_plain (drop at whole) none octets rest refl f e

-- nor where the line is no octets'
pub no_octets : (whole : List ℕ) (at n : ℕ) → Some n ≡ position (λ (c : ℕ). c == 10) (drop at whole) → ((octets : List ℕ) → AreOctets octets → take n (drop at whole) ≢ octets_text octets)
    → Lacks AreOctets octets_line_text whole at
no_octets whole at n some never octets rest f e = until_no_value AreOctets octets_text 10 octets_plain (drop at whole) n some never octets rest refl f e

-- octets stand where the line is theirs
pub octets_stand : (whole : List ℕ) (at n : ℕ) (octets : List ℕ) → at ≤ length whole → Some n ≡ position (λ (c : ℕ). c == 10) (drop at whole) → take n (drop at whole) ≡ octets_text octets
    → Stands whole at (octets_line_text octets) (at + n + 1)
octets_stand whole at n octets within some e = until_found 10 (octets_text octets) whole at n within some e

-- digits are decoded to their octets
digits_decoded : (field octets : List ℕ) → AreOctets octets → field ≡ encode_lower octets → decode_of field ≡ Ok octets
digits_decoded field octets p e = ap (λ (t : List ℕ). decode_of t) e ∙ decode_of-encode_lower octets (are_bytes octets p)

refused_apart : (x : FromHexError) (octets : List ℕ) (r : Result (List ℕ) FromHexError) → r ≡ Err x → r ≡ Ok octets → ⊥
refused_apart x octets r d e = cc

-- what is no dash and is not decoded is no octets' line
pub not_decoded : (field : List ℕ) (x : FromHexError) → (field ≡ codes "-" → ⊥) → (x ≡ OutOfMemory → ⊥) → (x ≡ OutOfMemory) ⊎ (decode_of field ≡ Err x) → (octets : List ℕ) → AreOctets octets
    → field ≢ octets_text octets
not_decoded field x differ other (inl e) octets p f = absurd (other e)
not_decoded field x differ other (inr d) octets p f =
    let digits = octets_are_digits field octets differ f in
    refused_apart x octets (decode_of field) d (digits_decoded field octets p digits.0)

-- nor what is not the digits of what is decoded
pub other_digits : (field octets : List ℕ) → (field ≡ codes "-" → ⊥) → decode_of field ≡ Ok octets → (0 < length octets → field ≢ encode_lower octets) → (bytes : List ℕ) → AreOctets bytes
    → field ≢ octets_text bytes
other_digits field octets differ d never bytes p e =
    let digits = octets_are_digits field bytes differ e in
    let same = decode_of-same field octets bytes d (digits_decoded field bytes p digits.0) in
    never (subst (λ (b : List ℕ). 0 < length b) (sym same) digits.2) (digits.0 ∙ ap (λ (b : List ℕ). encode_lower b) (sym same))

-- what is decoded are octets, and the line is theirs where it is their digits
pub octets_decoded : (field octets : List ℕ) → decode_of field ≡ Ok octets → AreOctets octets
octets_decoded field octets d = let all = decode_of-ok field octets d in are_octets octets all.3

pub octets_told : (field octets : List ℕ) → 0 < length octets → field ≡ encode_lower octets → field ≡ octets_text octets
octets_told field octets some e = e ∙ digits_are_octets octets some

-- whether there are any octets
pub some_octets : (octets : List ℕ) (b : Bool) → b ≡ (length octets == 0) → b ≡ false → 0 < length octets
some_octets [] b e f = absurd (false≢true (sym f ∙ e))
some_octets (c ∷ octets) b e f = omega arith

pub no_octets_left : (octets : List ℕ) (b : Bool) → b ≡ (length octets == 0) → b ≡ true → 0 < length octets → ⊥
no_octets_left octets b e t some = let none = eqb-true (length octets) 0 (sym e ∙ t) in omega (arith, none, some)

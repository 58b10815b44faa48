-- Decimal numbers, as they are read.
use Rattle.std.proofs.Common.{◌≡◌, ◌≢◌, ℕ, zero, suc, ◌<◌, ◌≤◌, ◌^◌, List, ◌++◌, length, get_or, drop, refl, Option, Result, Ok, Err, MatchResult, IfSome, IfNone, sym, ap, ◌∙◌, arith}
use Rattle.std.specs.Prelude.{codes}
use Rattle.std.specs.Fmt.{decimal}
use Rattle.std.specs.Result.{result_ok}
use Rattle.std.specs.Str.Parse.{AllDigits, digits_value, ParsesUnsigned}
use Rattle.std.proofs.lemmas.Str.Parse.{IsNumeralModel, numerals_by_value, tells_digits, parse_plain, not_in_digits}
use Rattle.std.proofs.lemmas.List.{drop_at}
use Rattle.std.proofs.lemmas.Fmt.{decimal_injective, digits_decimal, decimal_digit, decimal_nonempty, first_decimal, parse-decimal, decimal-digits_value}
use Rattle.bng_spell.specs.Pieces.{IsUnsigned}

own : IsNumeralModel (AllDigits 10) (digits_value 10)
own = numerals_by_value _ tells_digits

decimal_without : (n c : ℕ) → n < 2 ^ 64 → c < 48 → (i : ℕ) → i < length (decimal n) → get_or (decimal n) i 0 ≢ c
decimal_without n c small below = not_in_digits own (decimal n) c (digits_decimal own n small) (λ h. omega (arith, h))

lead_of : (n : ℕ) → n < 2 ^ 64 → get_or (decimal n) 0 0 ≡ 48 → length (decimal n) ≡ 1
lead_of zero small is = ap length (decimal_digit 0 (omega arith))
lead_of (suc n) small is = absurd (omega (arith, first_decimal (suc n) (omega arith) small))

-- a number has no sign and no leading zero
pub decimal_unsigned : (n : ℕ) → n < 2 ^ 64 → IsUnsigned (decimal n)
decimal_unsigned n small = record { sign = decimal_without n 43 small (omega arith) 0 (decimal_nonempty n small); lead = lead_of n small }

-- what `parse` gives of a text with no sign and no leading zero
reads_unsigned : {E : Type 0} (k : ℕ) (bs : List ℕ) (r : Result ℕ E) → 2 ^ k ≤ 2 ^ 64 → IsUnsigned bs → ParsesUnsigned k 10 bs r
    → MatchResult r (λ n. bs ≡ decimal n) (λ _. (n : ℕ) → n < 2 ^ k → bs ≢ decimal n)
reads_unsigned {E} k bs (Ok n) fits plain h =
    let got = parse_plain own {E = E} k bs (Ok n) h plain.sign in
    sym (ap decimal got.1 ∙ decimal-digits_value own bs got.0.0 got.0.1 plain.lead (omega (arith, got.0.2)))
reads_unsigned {E} k bs (Err e) fits plain h = λ n small is. let ok = parse-decimal {E = E} k n bs (Err e) small (omega arith) is h in cc

-- the same where the error is let go
pub reads_number : {E : Type 0} (bs : List ℕ) (r : Result ℕ E) (o : Option ℕ) → o ≡ result_ok r → IsUnsigned bs → ParsesUnsigned 64 10 bs r
    → IfSome o (λ n. bs ≡ decimal n) × IfNone o ((n : ℕ) → n < 2 ^ 64 → bs ≢ decimal n)
reads_number {E} bs (Ok n) o is plain h = rw is (reads_unsigned {E = E} 64 bs (Ok n) (omega arith) plain h, tt)
reads_number {E} bs (Err e) o is plain h = rw is (tt, reads_unsigned {E = E} 64 bs (Err e) (omega arith) plain h)

-- the number of an access port is no other one
pub port_other : (field : List ℕ) (number n : ℕ) → number < 2 ^ 64 → n < 256 → 256 ≤ number → drop 6 field ≡ decimal number → field ≡ codes "access" ++ decimal n → ⊥
port_other field number n small f big found e =
    let same = decimal_injective number n small (omega (arith, f)) (sym found ∙ ap (λ (t : List ℕ). drop 6 t) e ∙ drop_at (codes "access") (decimal n) 6 refl) in
    omega (arith, same, f, big)

-- The numbers of the grammar as `clap` takes them.
use Rattle.std.proofs.Common.{◌≡◌, ◌∙◌, ℕ, ◌<◌, ◌≤◌, ◌^◌, ◌&&◌, ◌==◌, Bool, cond, true, false, refl, sym, ap, ap₂, subst, arith, List, [], ◌∷◌, length, drop, slice_index, ne_eqb, lt-ltb, ltb-true, le-leb, lit<, codes, true≢false}
use Rattle.std.specs.Prelude.{nat_lt, nat_le}
use Rattle.std.specs.List.{list_all}
use Rattle.std.specs.Char.{digit_value}
use Rattle.std.specs.Str.Parse.{AllDigits, IsNumeral, digits_value, without_leading_plus}
use Rattle.clap.specs.ValueTests.{is_unsigned_in}
use Rattle.bng_words.specs.Words.{Text}
use Rattle.bng_words.specs.Meaning.{IsNumber}
use Rattle.bng_words.specs.Rows.{Writes}

-- a plus is no digit
plus_differs : (c : ℕ) → digit_value c < 10 → c ≡ 43 → ⊥
plus_differs c digit plus = let P : ℕ → Type 0 = λ d. digit_value d < 10 in let bad : 36 < 10 = subst P plus digit in omega arith

-- so nothing is taken off the front of a numeral
pub no_plus : (text : Text) → IsNumeral 10 text → without_leading_plus text ≡ text
no_plus [] is = absurd (omega arith)
no_plus (c ∷ cs) is = rw (ne_eqb c 43 (plus_differs c is.1.0)) refl

digits_pass : (ds : Text) → AllDigits 10 ds → list_all (λ d. nat_lt (digit_value d) 10) ds ≡ true
digits_pass [] all = refl
digits_pass (d ∷ ds) all = rw (lt-ltb (digit_value d) 10 all.0) (digits_pass ds all.1)

-- a number of the grammar lies in `clap`'s range
pub number_in : (most : ℕ) (text : Text) (n : ℕ) → most < 2 ^ 64 → IsNumber most text n → is_unsigned_in 1 most text ≡ true
number_in most text n small is =
    let value : digits_value 10 text ≡ n = sym is.value in
    rw (no_plus text is.numeral, digits_pass text is.numeral.1, lt-ltb 0 (length text) is.numeral.0, value)
    (ap₂ (λ a b. a && b) (lt-ltb n (2 ^ 64) (omega arith)) (ap₂ (λ a b. a && b) (le-leb 1 n is.at_least) (le-leb n most is.at_most)))

both : (a b : Bool) → (a && b) ≡ true → (a ≡ true) × (b ≡ true)
both true b e = (refl, e)
both false b e = absurd (true≢false (sym e))

digits_from : (ds : Text) → list_all (λ d. nat_lt (digit_value d) 10) ds ≡ true → AllDigits 10 ds
digits_from [] e = tt
digits_from (d ∷ ds) e =
    let parts = both (nat_lt (digit_value d) 10) _ e in
    (ltb-true (digit_value d) 10 parts.0, digits_from ds parts.1)

-- a number of the grammar is a numeral of it
pub number_writes : (most : ℕ) (text : Text) (n : ℕ) → most < 2 ^ 64 → IsNumber most text n → Writes text n
number_writes most text n small is = record { numeral = is.numeral; value = is.value; fits = omega arith }

-- and so are the defaults
pub rounds_write : (n : ℕ) → n ≡ 1099511627776 → Writes (codes "1099511627776") n
rounds_write n is = record { numeral = (lit< tt, digits_from (codes "1099511627776") refl); value = is; fits = omega arith }

pub workers_write : (n : ℕ) → n ≡ 4 → Writes (codes "4") n
workers_write n is = record { numeral = (lit< tt, digits_from (codes "4") refl); value = is; fits = omega arith }

-- What is read off the matches of `clap`.
use Rattle.std.proofs.Common.{◌≡◌, ◌∙◌, ◌<◌, ◌^◌, ℕ, refl, sym, ap, subst, arith, List, Option, Some, None, option_map, codes, Result, Ok, Err}
use Rattle.std.specs.Borrow.{Bor}
use Rattle.std.specs.Str.Parse.{IsNumeral, ParsesUnsigned, digits_value, without_leading_plus}
use Rattle.clap.specs.Matches.{ReadsOne, first_value, found_of, one_text, subcommand_name_of}
use Rattle.clap.specs.Walk.{Row, first_of, one_of, rows_of}
use Rattle.clap.specs.Simple.{subcommand_rows, subcommand_rows_of}
use Rattle.clap.specs.declared.parser.matches.ArgMatches.{ArgMatches}
use Rattle.clap.specs.declared.parser.matches.ArgMatches.TheViews.{out-ArgMatches}
use Rattle.clap.specs.declared.parser.matches.Found.{Found}
use Rattle.clap.proofs.WalkLemmas.{first_value-rows, one_text-rows}
use Rattle.bng_words.specs.declared.command_name.CommandName.TheVariants.{Serve, Check, Exercise, Audit}
use Rattle.bng_words.specs.Words.{Text}
use Rattle.bng_words.specs.Meaning.{Meaning, serve, check, exercise, audit}
use Rattle.bng_words.specs.Rows.{HasNumber, HasValues, Writes}
use Rattle.bng_words.proofs.NumberLaws.{no_plus}

-- a text of the rows is what is got
pub text_got : (got : Option (Bor Text)) (f : Found) (id : Text) (o : Option Text) → option_map (λ s. s.now) got ≡ first_value f id → first_of id (rows_of f) ≡ o → option_map (λ s. s.now) got ≡ o
text_got got f id o is has = is ∙ first_value-rows f id ∙ has

pub some_got : (got : Option (Bor Text)) (b : Bor Text) (t : Text) → got ≡ Some b → option_map (λ s. s.now) got ≡ Some t → b.now ≡ t
some_got got b t is has = let both : Some b.now ≡ Some t = sym (ap (option_map (λ (s : Bor Text). s.now)) is) ∙ has in cc

pub none_got : (got : Option (Bor Text)) (t : Text) → got ≡ None → option_map (λ s. s.now) got ≡ Some t → ⊥
none_got got t is has = let both : None ≡ Some t = sym (ap (option_map (λ (s : Bor Text). s.now)) is) ∙ has in cc

-- so is a number
module _ (E : Type 0) (gives : Text → Result ℕ E → Type 0) (parses : (t : Text) (r : Result ℕ E) → gives t r → ParsesUnsigned 64 10 t r) where
  pub number_got : (got : Option ℕ) (f : Found) (id : Text) (n : ℕ) → ((t : Text) → one_text f id ≡ Some t → ReadsOne gives t got) → HasNumber id (rows_of f) n → got ≡ Some n
  number_got got f id n reads has = go got (reads has.0 (one_text-rows f id ∙ has.1))
    where
      plain : without_leading_plus has.0 ≡ has.0
      plain = no_plus has.0 has.2.numeral

      is_numeral : IsNumeral 10 (without_leading_plus has.0) × (digits_value 10 (without_leading_plus has.0) < 2 ^ 64)
      is_numeral = rw plain (has.2.numeral, rw (← has.2.value) has.2.fits)

      go : (got : Option ℕ) → ReadsOne gives has.0 got → got ≡ Some n
      go (Some v) read = ap Some ((parses has.0 (Ok v) read).1 ∙ ap (digits_value 10) plain ∙ sym has.2.value)
      go None read = absurd (parses has.0 (Err read.0) read.1 is_numeral)

-- the values of a command are of its own meaning
pub serve_values : (rows : List Row) (m : Meaning) → HasValues Serve rows m
    → (c : Text) × (t : Option Text) × (r : ℕ) × (m ≡ serve c t r) × (first_of (codes "config") rows ≡ Some c) × (first_of (codes "trace") rows ≡ t) × HasNumber (codes "rounds") rows r
serve_values rows (serve c t r) h = (c, t, r, refl, h.0, h.1, h.2)
serve_values rows (check c) h = absurd h
serve_values rows (exercise n w) h = absurd h
serve_values rows (audit f) h = absurd h

pub check_values : (rows : List Row) (m : Meaning) → HasValues Check rows m → (c : Text) × (m ≡ check c) × (first_of (codes "config") rows ≡ Some c)
check_values rows (serve c t r) h = absurd h
check_values rows (check c) h = (c, refl, h)
check_values rows (exercise n w) h = absurd h
check_values rows (audit f) h = absurd h

pub exercise_values : (rows : List Row) (m : Meaning) → HasValues Exercise rows m
    → (n w : ℕ) × (m ≡ exercise n w) × HasNumber (codes "subscribers") rows n × HasNumber (codes "workers") rows w
exercise_values rows (serve c t r) h = absurd h
exercise_values rows (check c) h = absurd h
exercise_values rows (exercise n w) h = (n, w, refl, h.0, h.1)
exercise_values rows (audit f) h = absurd h

pub audit_values : (rows : List Row) (m : Meaning) → HasValues Audit rows m → (f : Text) × (m ≡ audit f) × (first_of (codes "file") rows ≡ Some f)
audit_values rows (serve c t r) h = absurd h
audit_values rows (check c) h = absurd h
audit_values rows (exercise n w) h = absurd h
audit_values rows (audit f) h = (f, refl, h)

-- What `clap` makes of one word of a line: of a name, of an option with its value joined, of an option alone, and of the
-- value after it.
use Rattle.std.proofs.Common.{◌≡◌, ◌∙◌, ◌+◌, ◌&&◌, ◌||◌, ℕ, Bool, cond, true, false, zero, suc, refl, sym, ap, subst, arith, List, [], ◌∷◌, ◌++◌, codes, length, min, Option, Some, None, slice_index, ne_eqb}
use Rattle.std.specs.Prelude.{nat_lt}
use Rattle.std.specs.Option.{option_map_or}
use Rattle.std.specs.Str.{bytes_eq}
use Rattle.clap.specs.Lexer.{long_of, short_of, usize_max}
use Rattle.clap.specs.Facts.{unwrap_or_range}
use Rattle.clap.specs.Walk.{Held, Rule, Step, Waiting, Walk, action_of, arg_by_id, arg_by_index, arg_by_long, idle, positional, positional_held, is_multiple, is_pending, most_values, option, plain_word, pushed, reacted, settled, takes_several, takes_values, walked, word_met}
use Rattle.clap.specs.Simple.{Shape}
use Rattle.clap.specs.Takes.{positional_passes, react_passes, settle_passes, turn_passes}
use Rattle.clap.specs.declared.builder.action.ArgAction.TheVariants.{Set}
use Rattle.bng_words.specs.declared.option.OptionName.{OptionName}
use Rattle.bng_words.specs.declared.option.OptionName.TheVariants.{Trace, Rounds, Workers}
use Rattle.bng_words.specs.Words.{Text, IsName, dashed}

-- the option's name without the hyphens
abbrev pub bare : OptionName → Text
bare Trace = codes "trace"
bare Rounds = codes "rounds"
bare Workers = codes "workers"

-- where a walk stands between two pieces of a line
abbrev pub between : Held → ℕ → Walk
between h position = record { held = h; waiting = idle; position = position; is_trailing = false; stopped = None }

-- and where an option waits for its value
abbrev pub waiting_for : Text → Held → ℕ → Walk
waiting_for id h position = record { held = h; waiting = option id; position = position; is_trailing = false; stopped = None }

-- the argument takes one value at a use
pub record TakesOne (a : Rule) : Type 0 where
  pub takes : takes_values a ≡ true
  pub most : most_values a ≡ 1
  pub least : (unwrap_or_range a.range).start_inclusive ≡ 1
  pub single : is_multiple a ≡ false
  pub set : action_of a ≡ Set
  pub trailing : a.trailing_var_arg ≡ false
  pub own : bytes_eq a.id a.id ≡ true

or_right : (a b : Bool) → b ≡ true → (a || b) ≡ true
or_right true b e = refl
or_right false b e = e

-- a word that begins with no `-` is no flag, and not `--`
name_looks : (word : Text) → IsName word → (bytes_eq word (45 ∷ 45 ∷ []) ≡ false) × (long_of word ≡ None) × (short_of word ≡ None)
name_looks [] is = (refl, refl, refl)
name_looks (y ∷ ys) is =
    let other = ne_eqb y 45 is in
    (rw other refl, rw other refl, rw other refl)

module _ (c : List Rule) (position : ℕ) where
  -- a word that is no flag
  plain_met : (waiting : Waiting) (word : Text) (h : Held) → IsName word → word_met c [] false waiting position word h ≡ plain_word c waiting word h
  plain_met idle word h is = let looks = name_looks word is in rw (looks.0, looks.1, looks.2) refl
  plain_met (option id) word h is = let looks = name_looks word is in rw (looks.0, looks.1, looks.2) refl
  plain_met positional word h is = let looks = name_looks word is in rw (looks.0, looks.1, looks.2) refl

  -- a name goes to the positional
  pub name_step : (h : Held) (word : Text) (a : Rule) → IsName word → arg_by_index c position ≡ Some a → TakesOne a
      → walked c [] (between h position) word ≡ between (positional_held c a word h) (min (position + 1) usize_max)
  unfolding walked
  name_step h word a is found one = rw (plain_met idle word h is, found, one.single, one.trailing) refl

  pub joined_step : (h : Held) (x : OptionName) (v : Text) (a : Rule) → arg_by_long c (bare x) ≡ Some a → TakesOne a
      → walked c [] (between h position) (dashed x ++ 61 ∷ v) ≡ between (reacted c a (v ∷ []) h) position
  unfolding walked
  joined_step h Trace v a found one = rw (found, one.takes) refl
  joined_step h Rounds v a found one = rw (found, one.takes) refl
  joined_step h Workers v a found one = rw (found, one.takes) refl

  pub flag_step : (h : Held) (x : OptionName) (a : Rule) → arg_by_long c (bare x) ≡ Some a → TakesOne a
      → walked c [] (between h position) (dashed x) ≡ waiting_for a.id (record (settled c h) { pending = Some (a.id, []) }) position
  unfolding walked
  flag_step h Trace a found one = rw (found, one.takes) refl
  flag_step h Rounds a found one = rw (found, one.takes) refl
  flag_step h Workers a found one = rw (found, one.takes) refl

  pub value_step : (h : Held) (word : Text) (a : Rule) → IsName word → arg_by_id c a.id ≡ Some a → TakesOne a
      → walked c [] (waiting_for a.id (record h { pending = Some (a.id, []) }) position) word ≡ between (record h { pending = Some (a.id, word ∷ []) }) position
  unfolding walked
  value_step h word a is found one = rw (plain_met (option a.id) word (record h { pending = Some (a.id, []) }) is, found, one.own, one.most) refl

-- where what is pending passes, so does the next word
module _ (s : Shape) (position : ℕ) where
  pub name_passes : (h : Held) (word : Text) (a : Rule) → IsName word → arg_by_index s.rules position ≡ Some a → TakesOne a
      → settle_passes s.rules s.args_override_self h ≡ true → turn_passes s [] (between h position) word ≡ true
  name_passes h word a is found one settles =
      let looks = name_looks word is in
      rw (plain_met s.rules position idle word h is, looks.0, looks.1, looks.2, found) (or_right (is_pending a h.pending && takes_several a) _ settles)

  pub joined_passes : (h : Held) (x : OptionName) (v : Text) (a : Rule) → arg_by_long s.rules (bare x) ≡ Some a → TakesOne a
      → react_passes s.rules s.args_override_self a (v ∷ []) h ≡ true → turn_passes s [] (between h position) (dashed x ++ 61 ∷ v) ≡ true
  joined_passes h Trace v a found one reacts = rw (found, one.takes, reacts) refl
  joined_passes h Rounds v a found one reacts = rw (found, one.takes, reacts) refl
  joined_passes h Workers v a found one reacts = rw (found, one.takes, reacts) refl

  pub flag_passes : (h : Held) (x : OptionName) (a : Rule) → arg_by_long s.rules (bare x) ≡ Some a → TakesOne a
      → settle_passes s.rules s.args_override_self h ≡ true → turn_passes s [] (between h position) (dashed x) ≡ true
  flag_passes h Trace a found one settles = rw (found, one.takes, settles) refl
  flag_passes h Rounds a found one settles = rw (found, one.takes, settles) refl
  flag_passes h Workers a found one settles = rw (found, one.takes, settles) refl

  pub waited_passes : (h : Held) (word : Text) (a : Rule) → IsName word → turn_passes s [] (waiting_for a.id (record h { pending = Some (a.id, []) }) position) word ≡ true
  waited_passes h word a is =
      let looks = name_looks word is in
      rw (plain_met s.rules position (option a.id) word (record h { pending = Some (a.id, []) }) is, looks.0, looks.1, looks.2) refl

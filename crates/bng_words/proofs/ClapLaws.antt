-- `clap` takes the words of each command, and finds in them what the command says.
use Rattle.std.proofs.Common.{◌≡◌, ◌∙◌, ◌<◌, ◌^◌, ◌&&◌, ◌||◌, ℕ, Bool, true, false, not, refl, sym, ap, ap₂, subst, arith, List, [], ◌∷◌, length, codes, Option, Some, None, lit<}
use Rattle.std.specs.Prelude.{option_and_then, slice_get}
use Rattle.std.specs.List.{find, fold, list_all}
use Rattle.std.specs.Option.{option_map, unwrap_or}
use Rattle.std.specs.Str.{bytes_eq}
use Rattle.std.specs.Str.Parse.{AllDigits, IsNumeral, digits_value}
use Rattle.clap.specs.Walk.{Row, first_of, nothing_held, one_of, row_text, rows_after, settled_rows, walk, with_default}
use Rattle.clap.specs.Simple.{subcommand_of}
use Rattle.clap.specs.Takes.{default_passes, is_given, is_valid, level_passes, takes}
use Rattle.clap.specs.declared.parser.matches.ValueSource.TheVariants.{CommandLine, DefaultValue}
use Rattle.bng_words.specs.declared.command_name.CommandName.{CommandName}
use Rattle.bng_words.specs.declared.command_name.CommandName.TheVariants.{Serve, Check, Exercise, Audit}
use Rattle.bng_words.specs.declared.option.OptionName.{OptionName}
use Rattle.bng_words.specs.declared.option.OptionName.TheVariants.{Trace, Rounds, Workers}
use Rattle.bng_words.specs.Words.{Text}
use Rattle.bng_words.specs.Line.{LinePiece, ArePieces, no_values, with_pieces}
use Rattle.bng_words.specs.Meaning.{Meaning, serve, check, exercise, audit, IsNumber, IsNumberOr, Means, Says, given}
use Rattle.bng_words.specs.Place.{Where, Fits, places, values_at, word_of}
use Rattle.bng_words.specs.Program.{program_app}
use Rattle.bng_words.specs.Rows.{HasNumber, HasValues, SaysBy, Writes}
use Rattle.bng_words.proofs.FitLaws.{command_said, name_given, said_fits, values_are, word_said}
use Rattle.bng_words.proofs.NumberLaws.{number_writes, rounds_write, workers_write}
use Rattle.bng_words.proofs.ClapRows.{find_at, find_default, find_others, has_id, no_default, row, rows_of}
use Rattle.bng_words.proofs.ClapLine.{Walks, line}
use Rattle.bng_words.proofs.ClapCommands.{argument, arguments, built_sub, ids_apart, level, own_ids}
use Rattle.bng_words.proofs.ClapProgram.{found_command, takes_command}

-- the rows of a command's pieces
abbrev pub pieces_rows : CommandName → List LinePiece → List Row
pieces_rows command ps = rows_of (λ k. argument k command) ps

-- with the defaults
abbrev pub final : CommandName → List LinePiece → List Row
final command ps = fold with_default (pieces_rows command ps) (arguments command)

module _ (ps : List LinePiece) where
  -- only an option with a default adds a row
  final_serve : final Serve ps ≡ with_default (pieces_rows Serve ps) (argument (Some Rounds) Serve)
  final_serve =
      let rows = pieces_rows Serve ps in
      rw (no_default (argument None Serve) rows refl, no_default (argument (Some Trace) Serve) rows refl) refl

  final_check : final Check ps ≡ pieces_rows Check ps
  final_check = no_default (argument None Check) (pieces_rows Check ps) refl

  final_exercise : final Exercise ps ≡ with_default (pieces_rows Exercise ps) (argument (Some Workers) Exercise)
  final_exercise = rw (no_default (argument None Exercise) (pieces_rows Exercise ps) refl) refl

  final_audit : final Audit ps ≡ pieces_rows Audit ps
  final_audit = no_default (argument None Audit) (pieces_rows Audit ps) refl

  found_in : (command : CommandName) (k : Where) → find (has_id (argument k command).id) (pieces_rows command ps) ≡ option_map (row CommandLine (argument k command)) (slice_get (values_at k ps) 0)
  found_in command k = find_at (λ j. argument j command) (own_ids command) (ids_apart command) k ps

  -- the row of each place at the end
  pub found_name : (command : CommandName) → find (has_id (argument None command).id) (final command ps) ≡ option_map (row CommandLine (argument None command)) (slice_get (values_at None ps) 0)
  found_name Serve =
      ap (find (has_id (argument None Serve).id)) final_serve
      ∙ find_others (argument None Serve).id (argument (Some Rounds) Serve) (codes "1099511627776") (pieces_rows Serve ps) refl refl ∙ found_in Serve None
  found_name Check = ap (find (has_id (argument None Check).id)) final_check ∙ found_in Check None
  found_name Exercise =
      ap (find (has_id (argument None Exercise).id)) final_exercise
      ∙ find_others (argument None Exercise).id (argument (Some Workers) Exercise) (codes "4") (pieces_rows Exercise ps) refl refl ∙ found_in Exercise None
  found_name Audit = ap (find (has_id (argument None Audit).id)) final_audit ∙ found_in Audit None

  found_trace : find (has_id (codes "trace")) (final Serve ps) ≡ option_map (row CommandLine (argument (Some Trace) Serve)) (slice_get (values_at (Some Trace) ps) 0)
  found_trace =
      ap (find (has_id (codes "trace"))) final_serve
      ∙ find_others (codes "trace") (argument (Some Rounds) Serve) (codes "1099511627776") (pieces_rows Serve ps) refl refl ∙ found_in Serve (Some Trace)

  found_rounds : find (has_id (codes "rounds")) (final Serve ps)
      ≡ Some (unwrap_or (option_map (row CommandLine (argument (Some Rounds) Serve)) (slice_get (values_at (Some Rounds) ps) 0)) (row DefaultValue (argument (Some Rounds) Serve) (codes "1099511627776")))
  found_rounds =
      ap (find (has_id (codes "rounds"))) final_serve ∙ find_default (argument (Some Rounds) Serve) (codes "1099511627776") (pieces_rows Serve ps) refl refl
      ∙ ap (λ (o : Option Row). Some (unwrap_or o (row DefaultValue (argument (Some Rounds) Serve) (codes "1099511627776")))) (found_in Serve (Some Rounds))

  found_workers : find (has_id (codes "workers")) (final Exercise ps)
      ≡ Some (unwrap_or (option_map (row CommandLine (argument (Some Workers) Exercise)) (slice_get (values_at (Some Workers) ps) 0)) (row DefaultValue (argument (Some Workers) Exercise) (codes "4")))
  found_workers =
      ap (find (has_id (codes "workers"))) final_exercise ∙ find_default (argument (Some Workers) Exercise) (codes "4") (pieces_rows Exercise ps) refl refl
      ∙ ap (λ (o : Option Row). Some (unwrap_or o (row DefaultValue (argument (Some Workers) Exercise) (codes "4")))) (found_in Exercise (Some Workers))

  -- ---- the values

  module _ (command : CommandName) (t : Text) (is : values_at None ps ≡ t ∷ []) where
    name_row : find (has_id (argument None command).id) (final command ps) ≡ Some (row CommandLine (argument None command) t)
    name_row = found_name command ∙ ap (λ (vs : List Text). option_map (row CommandLine (argument None command)) (slice_get vs 0)) is

    name_text : first_of (argument None command).id (final command ps) ≡ Some t
    name_text = ap (option_and_then (λ (r : Row). slice_get r.values 0)) name_row

    name_given_there : is_given (argument None command).id (final command ps) ≡ true
    name_given_there = rw name_row refl

  trace_text : (o : Option Text) → values_at (Some Trace) ps ≡ given o → first_of (codes "trace") (final Serve ps) ≡ o
  trace_text o is =
      ap (option_and_then (λ (r : Row). slice_get r.values 0)) (found_trace ∙ ap (λ (vs : List Text). option_map (row CommandLine (argument (Some Trace) Serve)) (slice_get vs 0)) is) ∙ go o
    where
      go : (o : Option Text) → option_and_then (λ (r : Row). slice_get r.values 0) (option_map (row CommandLine (argument (Some Trace) Serve)) (slice_get (given o) 0)) ≡ o
      go None = refl
      go (Some t) = refl

  rounds_number : (n : ℕ) → IsNumberOr 1099511627776 1099511627776 (values_at (Some Rounds) ps) n → HasNumber (codes "rounds") (final Serve ps) n
  rounds_number n is =
      let number = go (values_at (Some Rounds) ps) is in
      (number.0, ap (option_and_then row_text) found_rounds ∙ number.1, number.2)
    where
      go : (vs : List Text) → IsNumberOr 1099511627776 1099511627776 vs n
          → (text : Text)
          × (row_text (unwrap_or (option_map (row CommandLine (argument (Some Rounds) Serve)) (slice_get vs 0)) (row DefaultValue (argument (Some Rounds) Serve) (codes "1099511627776"))) ≡ Some text)
          × Writes text n
      go [] is = (codes "1099511627776", refl, rounds_write n is)
      go (t ∷ []) is = (t, refl, number_writes 1099511627776 t n (lit< tt) is)
      go (t ∷ u ∷ ts) is = absurd is

  workers_number : (n : ℕ) → IsNumberOr 4 16 (values_at (Some Workers) ps) n → HasNumber (codes "workers") (final Exercise ps) n
  workers_number n is =
      let number = go (values_at (Some Workers) ps) is in
      (number.0, ap (option_and_then row_text) found_workers ∙ number.1, number.2)
    where
      go : (vs : List Text) → IsNumberOr 4 16 vs n
          → (text : Text)
          × (row_text (unwrap_or (option_map (row CommandLine (argument (Some Workers) Exercise)) (slice_get vs 0)) (row DefaultValue (argument (Some Workers) Exercise) (codes "4"))) ≡ Some text)
          × Writes text n
      go [] is = (codes "4", refl, workers_write n is)
      go (t ∷ []) is = (t, refl, number_writes 16 t n (lit< tt) is)
      go (t ∷ u ∷ ts) is = absurd is

  -- the rows have what the command says
  has_values : (word : Text) (m : Meaning) → Means word (with_pieces no_values ps) m → HasValues (command_said m) (final (command_said m) ps) m
  has_values word (serve c t r) h =
      let P : List Text → Type 0 = λ vs. IsNumberOr 1099511627776 1099511627776 vs r in (
        name_text Serve c (values_are ps None ∙ h.1),
        trace_text t (values_are ps (Some Trace) ∙ h.2),
        rounds_number r (subst P (sym (values_are ps (Some Rounds))) h.3),
      )
  has_values word (check c) h = name_text Check c (values_are ps None ∙ h.1)
  has_values word (exercise n w) h =
      let P : List Text → Type 0 = λ vs. IsNumberOr 4 16 vs w in (
        (h.1.0, ap (option_and_then row_text) (name_row Exercise h.1.0 (values_are ps None ∙ h.1.1)), number_writes 4000 h.1.0 n (lit< tt) h.1.2),
        workers_number w (subst P (sym (values_are ps (Some Workers))) h.4),
      )
  has_values word (audit f) h = name_text Audit f (values_are ps None ∙ h.1)

  -- ---- the line passes

  valid : (command : CommandName) (t : Text) → values_at None ps ≡ t ∷ [] → is_valid (built_sub command) (final command ps) false ≡ true
  valid Serve t is = rw (name_given_there Serve t is) refl
  valid Check t is = rw (name_given_there Check t is) refl
  valid Exercise t is = rw (name_given_there Exercise t is) refl
  valid Audit t is = rw (name_given_there Audit t is) refl

  defaults_pass : (command : CommandName) → list_all default_passes (arguments command) ≡ true
  defaults_pass Serve = refl
  defaults_pass Check = refl
  defaults_pass Exercise = refl
  defaults_pass Audit = refl

  module _ (command : CommandName) (rest : List Text) (are : ArePieces ps rest) (fits : Fits (places command) ps) where
    walks : Walks (built_sub command) (λ k. argument k command) (places command) (level command) nothing_held 1 rest (pieces_rows command ps)
    walks = line (built_sub command) (λ k. argument k command) (places command) (level command) [] ps rest nothing_held are fits.each (record { settled = refl; passes = refl })

    rows_are : rows_after (arguments command) [] rest ≡ final command ps
    rows_are = ap (λ (rs : List Row). fold with_default rs (arguments command)) walks.stands.settled

    line_passes : level_passes (built_sub command) [] nothing_held rest false ≡ true
    line_passes =
        let named = name_given ps command fits in
        let ends : is_valid (built_sub command) (rows_after (arguments command) [] rest) false ≡ true =
        ap (λ (rs : List Row). is_valid (built_sub command) rs false) rows_are ∙ valid command named.0 named.1 in
        ap₂ (λ a b. a && b) walks.passes (ap₂ (λ a b. a && b) walks.stands.passes (ap₂ (λ a b. a && b) (defaults_pass command) ends))

-- the law: `clap` takes the words of each command, and its matches say what the command says
pub clap_says : (words : List Text) (m : Meaning) → Says words m → (takes program_app words ≡ true) × SaysBy (subcommand_of program_app words) m
clap_says words m says =
    let command = command_said m in
    let fits = said_fits says.pieces says.word m says.means in
    let is : words ≡ word_of command ∷ says.rest = says.first ∙ ap (λ (w : Text). w ∷ says.rest) (word_said says.word (with_pieces no_values says.pieces) m says.means) in
    let P : List Text → Type 0 = λ ws. (takes program_app ws ≡ true) × SaysBy (subcommand_of program_app ws) m in
    let H : List Row → Type 0 = λ rs. HasValues command rs m in
    let Q : Option (Text × List Row) → Type 0 = λ o. SaysBy o m in
    let values = subst H (sym (rows_are says.pieces command says.rest says.spelled fits)) (has_values says.pieces says.word m says.means) in
    subst P (sym is) (
      takes_command command says.rest (line_passes says.pieces command says.rest says.spelled fits),
      subst Q (sym (found_command command says.rest)) (command, refl, values),
    )

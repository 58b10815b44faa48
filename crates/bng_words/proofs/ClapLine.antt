-- What `clap` makes of the words of a line, one piece after the other.
use Rattle.std.proofs.Common.{◌≡◌, ◌∙◌, ◌+◌, ◌&&◌, ◌||◌, ℕ, Bool, true, false, suc, refl, sym, ap, ap₂, subst, arith, List, [], ◌∷◌, ◌++◌, length, length-append, map, append_assoc, append-nil, min, Option, Some, None, inl, inr}
use Rattle.std.specs.List.{fold}
use Rattle.std.specs.Str.{bytes_eq}
use Rattle.std.proofs.lemmas.List.{map-append}
use Rattle.clap.specs.Lexer.{usize_max}
use Rattle.clap.specs.Walk.{Held, Row, Rule, Walk, arg_by_id, arg_by_index, arg_by_long, has_row, is_append, is_pending, action_of, positional_held, reacted, settled, settled_rows, takes_several, used, used_by_id, walked}
use Rattle.clap.specs.Simple.{Shape}
use Rattle.clap.specs.Takes.{react_passes, settle_passes, use_passes, value_passes, walk_passes}
use Rattle.clap.specs.declared.parser.matches.ValueSource.TheVariants.{CommandLine}
use Rattle.bng_words.specs.declared.option.OptionName.{OptionName}
use Rattle.bng_words.specs.declared.place.Place.{Place}
use Rattle.bng_words.specs.declared.place.Place.TheVariants.{Closed}
use Rattle.bng_words.specs.declared.place.Places.{Places}
use Rattle.bng_words.specs.Words.{Text, IsName, dashed}
use Rattle.bng_words.specs.Line.{LinePiece, name, option, Begins, ArePieces}
use Rattle.bng_words.specs.Place.{Where, Holds, Takes, is_same, place_at, place_of, value_of, values_at}
use Rattle.bng_words.proofs.PlaceLaws.{holds_alone, takes_open, values_at-append, values_at-own}
use Rattle.bng_words.proofs.ClapSteps.{TakesOne, bare, between, flag_passes, flag_step, joined_passes, joined_step, name_passes, name_step, value_step, waited_passes}
use Rattle.bng_words.proofs.ClapRows.{no_row, row, rows_of, use_passes_new, used_new}

-- the rules of a built command, by the places of its line: those that are not closed are found by their place, id and name
pub record IsLevel (s : Shape) (rule : Where → Rule) (places : Places) : Type 0 where
  pub one : (k : Where) → TakesOne (rule k)
  pub apart : (k j : Where) → is_same k j ≡ false → bytes_eq (rule j).id (rule k).id ≡ false
  pub by_index : arg_by_index s.rules 1 ≡ Some (rule None)
  pub by_id : (k : Where) → ¬ (place_at places k ≡ Closed) → arg_by_id s.rules (rule k).id ≡ Some (rule k)
  pub by_long : (x : OptionName) → ¬ (place_at places (Some x) ≡ Closed) → arg_by_long s.rules (bare x) ≡ Some (rule (Some x))
  pub passes : (k : Where) (value : Text) → Takes (place_at places k) value → value_passes (rule k) value ≡ true

-- what is held comes to these rows, and what is pending passes
pub record Stands (s : Shape) (h : Held) (rows : List Row) : Type 0 where
  pub settled : settled_rows s.rules h.pending h.rows ≡ rows
  pub passes : settle_passes s.rules s.args_override_self h ≡ true

single_several : (a : Rule) → TakesOne a → takes_several a ≡ false
single_several a one = go (takes_several a) one.single
  where
    go : (b : Bool) → (b || is_append (action_of a)) ≡ false → b ≡ false
    go true e = absurd cc
    go false e = refl

and_false : (b : Bool) → (b && false) ≡ false
and_false true = refl
and_false false = refl

module _ (s : Shape) (rule : Where → Rule) (places : Places) (level : IsLevel s rule places) where
  -- a value that is pending at its place
  waits : (h : Held) (rows : List Row) (k : Where) (value : Text) → Stands s h rows → has_row (rule k).id rows ≡ false → Takes (place_at places k) value
      → Stands s (record (settled s.rules h) { pending = Some ((rule k).id, value ∷ []) }) (rows ++ row CommandLine (rule k) value ∷ [])
  waits h rows k value stands new takes =
      let found = level.by_id k (takes_open (place_at places k) value takes) in
      record {
        settled = rw (found, stands.settled) (used_new (rule k) value rows (level.one k) new);
        passes = rw (found, stands.settled) (use_passes_new s.args_override_self (rule k) value rows (level.one k) new (level.passes k value takes));
      }

  -- a piece of the line: the walk goes on from what it leaves
  record Moves (h : Held) (position : ℕ) (words rest : List Text) (rows : List Row) (after : ℕ) : Type 0 where
    pub held : Held
    pub walk : fold (walked s.rules []) (between h position) words ≡ fold (walked s.rules []) (between held after) rest
    pub passes : walk_passes s [] (between held after) rest ≡ true → walk_passes s [] (between h position) words ≡ true
    pub stands : Stands s held rows

  name_moves : (h : Held) (rows : List Row) (value : Text) (rest : List Text) → IsName value → Stands s h rows → has_row (rule None).id rows ≡ false → Takes places.name value
      → Moves h 1 (value ∷ rest) rest (rows ++ row CommandLine (rule None) value ∷ []) 2
  unfolding walk_passes
  name_moves h rows value rest is stands new takes =
      let one = level.one None in
      let held : positional_held s.rules (rule None) value h ≡ record (settled s.rules h) { pending = Some ((rule None).id, value ∷ []) } =
      rw (single_several (rule None) one, and_false (is_pending (rule None) h.pending)) refl in
      let step = name_step s.rules 1 h value (rule None) is level.by_index one in
      let met : walked s.rules [] (between h 1) value ≡ between (record (settled s.rules h) { pending = Some ((rule None).id, value ∷ []) }) 2 = step ∙ ap (λ (k : Held). between k 2) held in
      record {
        held = record (settled s.rules h) { pending = Some ((rule None).id, value ∷ []) };
        walk = ap (λ (w : Walk). fold (walked s.rules []) w rest) met;
        passes = λ more. rw (name_passes s 1 h value (rule None) is level.by_index one stands.passes, met) more;
        stands = waits h rows None value stands new takes;
      }

  joined_moves : (h : Held) (position : ℕ) (rows : List Row) (x : OptionName) (value : Text) (rest : List Text) → Stands s h rows
      → has_row (rule (Some x)).id rows ≡ false → Takes (place_at places (Some x)) value
      → Moves h position ((dashed x ++ 61 ∷ value) ∷ rest) rest (rows ++ row CommandLine (rule (Some x)) value ∷ []) position
  unfolding walk_passes
  joined_moves h position rows x value rest stands new takes =
      let a = rule (Some x) in
      let one = level.one (Some x) in
      let found = level.by_long x (takes_open (place_at places (Some x)) value takes) in
      let met = joined_step s.rules position h x value a found one in
      let uses : use_passes s.args_override_self a (value ∷ []) (settled_rows s.rules h.pending h.rows) ≡ true =
      rw stands.settled (use_passes_new s.args_override_self a value rows one new (level.passes (Some x) value takes)) in
      let reacts : react_passes s.rules s.args_override_self a (value ∷ []) h ≡ true = ap₂ (λ b d. b && d) stands.passes uses in
      record {
        held = reacted s.rules a (value ∷ []) h;
        walk = ap (λ (w : Walk). fold (walked s.rules []) w rest) met;
        passes = λ more. rw (joined_passes s position h x value a found one reacts, met) more;
        stands = record { settled = rw stands.settled (used_new a value rows one new); passes = refl };
      }

  apart_moves : (h : Held) (position : ℕ) (rows : List Row) (x : OptionName) (value : Text) (rest : List Text) → IsName value → Stands s h rows
      → has_row (rule (Some x)).id rows ≡ false → Takes (place_at places (Some x)) value
      → Moves h position (dashed x ∷ value ∷ rest) rest (rows ++ row CommandLine (rule (Some x)) value ∷ []) position
  unfolding walk_passes
  apart_moves h position rows x value rest is stands new takes =
      let a = rule (Some x) in
      let one = level.one (Some x) in
      let free = takes_open (place_at places (Some x)) value takes in
      let found = level.by_long x free in
      let flag = flag_step s.rules position h x a found one in
      let met = value_step s.rules position (settled s.rules h) value a is (level.by_id (Some x) free) one in
      record {
        held = record (settled s.rules h) { pending = Some (a.id, value ∷ []) };
        walk = ap (λ (w : Walk). fold (walked s.rules []) w (value ∷ rest)) flag ∙ ap (λ (w : Walk). fold (walked s.rules []) w rest) met;
        passes = λ more. rw (flag_passes s position h x a found one stands.passes, flag, waited_passes s position (settled s.rules h) value a is, met) more;
        stands = waits h rows (Some x) value stands new takes;
      }

  retold : (h : Held) (position position2 after after2 : ℕ) (words words2 rest : List Text) (rows rows2 : List Row) → position ≡ position2 → words ≡ words2 → rows ≡ rows2 → after ≡ after2
      → Moves h position words rest rows after → Moves h position2 words2 rest rows2 after2
  retold h position position2 after after2 words words2 rest rows rows2 a b c d moves =
      let P : ℕ → Type 0 = λ n. Moves h n words rest rows after in
      let Q : List Text → Type 0 = λ ws. Moves h position2 ws rest rows after in
      let R : List Row → Type 0 = λ rs. Moves h position2 words2 rest rs after in
      let S : ℕ → Type 0 = λ n. Moves h position2 words2 rest rows2 n in
      subst S d (subst R c (subst Q b (subst P a moves)))

  piece_moves : (h : Held) (qs : List LinePiece) (p : LinePiece) (words rest : List Text) → Begins p words rest → Stands s h (rows_of rule qs)
      → values_at (place_of p) qs ≡ [] → Takes (place_at places (place_of p)) (value_of p)
      → Moves h (suc (length (values_at None qs))) words rest (rows_of rule (qs ++ p ∷ [])) (suc (length (values_at None (qs ++ p ∷ []))))
  piece_moves h qs (name value) words rest b stands none takes =
      let more = values_at-append None qs (name value ∷ []) in
      let first : 1 ≡ suc (length (values_at None qs)) = ap (λ (vs : List Text). suc (length vs)) (sym none) in
      let second : 2 ≡ suc (length (values_at None (qs ++ name value ∷ []))) = ap (λ (vs : List Text). suc (length vs)) (sym (more ∙ ap (λ (vs : List Text). vs ++ value ∷ []) none)) in
      retold h 1 _ 2 _ (value ∷ rest) words rest _ _ first (sym b.0) (sym (map-append (λ (p : LinePiece). row CommandLine (rule (place_of p)) (value_of p)) qs (name value ∷ []))) second
      (name_moves h (rows_of rule qs) value rest b.1 stands (no_row rule (λ k. (level.one k).own) level.apart None qs none) takes)
  piece_moves h qs (option x value) words rest b stands none takes =
      let more = values_at-append None qs (option x value ∷ []) ∙ append-nil (values_at None qs) in
      let same : suc (length (values_at None qs)) ≡ suc (length (values_at None (qs ++ option x value ∷ []))) = ap (λ (vs : List Text). suc (length vs)) (sym more) in
      let rows = sym (map-append (λ (p : LinePiece). row CommandLine (rule (place_of p)) (value_of p)) qs (option x value ∷ [])) in
      let new = no_row rule (λ k. (level.one k).own) level.apart (Some x) qs none in
      let position = suc (length (values_at None qs)) in
      elim b.0 [
        | inl e ↦ retold h position position position _ (dashed x ∷ value ∷ rest) words rest _ _ refl (sym e) rows same (apart_moves h position (rows_of rule qs) x value rest b.1.plain stands new takes)
        | inr e ↦ retold h position position position _ ((dashed x ++ 61 ∷ value) ∷ rest) words rest _ _ refl (sym e) rows same (joined_moves h position (rows_of rule qs) x value rest stands new takes)
      ]

  -- the words of a line pass, and what is held at their end comes to the rows of its pieces
  pub record Walks (h : Held) (position : ℕ) (words : List Text) (rows : List Row) : Type 0 where
    pub passes : walk_passes s [] (between h position) words ≡ true
    pub stands : Stands s (fold (walked s.rules []) (between h position) words).held rows

  pub line : (qs ps : List LinePiece) (words : List Text) (h : Held) → ArePieces ps words → ((k : Where) → Holds (place_at places k) (values_at k (qs ++ ps)))
      → Stands s h (rows_of rule qs) → Walks h (suc (length (values_at None qs))) words (rows_of rule (qs ++ ps))
  unfolding walk_passes
  line qs [] words h are holds stands =
      let P : List Text → Type 0 = λ ws. Walks h (suc (length (values_at None qs))) ws (rows_of rule (qs ++ [])) in
      let Q : List LinePiece → Type 0 = λ ps. Stands s h (rows_of rule ps) in
      subst P (sym are) (record { passes = refl; stands = subst Q (sym (append-nil qs)) stands })
  line qs (p ∷ ps) words h are holds stands =
      let split = values_at-append (place_of p) qs (p ∷ ps) ∙ ap (λ (vs : List Text). values_at (place_of p) qs ++ vs) (values_at-own p ps) in
      let H : List Text → Type 0 = λ vs. Holds (place_at places (place_of p)) vs in
      let alone = holds_alone (place_at places (place_of p)) (values_at (place_of p) qs) (value_of p) (values_at (place_of p) ps) (subst H split (holds (place_of p))) in
      let moves = piece_moves h qs p words are.0 are.1 stands alone.0 alone.1 in
      let joined = append_assoc qs (p ∷ []) ps in
      let rest = line (qs ++ p ∷ []) ps are.0 moves.held are.2
      (λ k. let K : List LinePiece → Type 0 = λ zs. Holds (place_at places k) (values_at k zs) in subst K (sym joined) (holds k)) moves.stands in
      let S : Walk → Type 0 = λ w. Stands s w.held (rows_of rule (qs ++ p ∷ ps)) in
      let R : List LinePiece → Type 0 = λ zs. Stands s (fold (walked s.rules []) (between moves.held (suc (length (values_at None (qs ++ p ∷ []))))) are.0).held (rows_of rule zs) in
      record {
        passes = moves.passes rest.passes;
        stands = subst S (sym moves.walk) (subst R joined rest.stands);
      }

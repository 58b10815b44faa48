-- The rows that `clap` keeps of a line.
use Rattle.std.proofs.Common.{◌≡◌, ◌∙◌, ℕ, Bool, cond, true, false, not, ◌||◌, ◌&&◌, refl, sym, ap, subst, List, [], ◌∷◌, ◌++◌, map, append-nil, Option, Some, None, is_some, true≢false}
use Rattle.std.specs.Prelude.{slice_get}
use Rattle.std.specs.List.{find, list_any}
use Rattle.std.specs.Option.{option_map, unwrap_or}
use Rattle.std.specs.Str.{bytes_eq}
use Rattle.clap.specs.Walk.{Row, Rule, at_row, default_rows, has_row, more_values, reading_by, used, with_default, without}
use Rattle.clap.specs.Takes.{use_passes, value_passes}
use Rattle.clap.specs.declared.parser.matches.ValueSource.{ValueSource}
use Rattle.clap.specs.declared.parser.matches.ValueSource.TheVariants.{CommandLine, DefaultValue}
use Rattle.bng_words.specs.Words.{Text}
use Rattle.bng_words.specs.Line.{LinePiece}
use Rattle.bng_words.specs.Place.{Where, is_same, place_of, value_of, values_at}
use Rattle.bng_words.proofs.PlaceLaws.{same_where}
use Rattle.bng_words.proofs.ClapSteps.{TakesOne}

-- the row of an argument that has this one value
abbrev pub row : ValueSource → Rule → Text → Row
row source a value = record { id = a.id; values = value ∷ []; count = None; source = Some source; reading = reading_by a }

abbrev pub has_id : Text → Row → Bool
has_id id r = bytes_eq r.id id

or_false : (a b : Bool) → (a || b) ≡ false → (a ≡ false) × (b ≡ false)
or_false true b e = absurd (true≢false e)
or_false false b e = (refl, e)

-- a new id comes last
at_new : (id : Text) (change : Row → List Row) (missing rows : List Row) → has_row id rows ≡ false → at_row id change missing rows ≡ rows ++ missing
at_new id change missing [] new = refl
at_new id change missing (r ∷ rs) new =
    let parts = or_false (has_id id r) (has_row id rs) new in
    rw parts.0 (ap (λ (xs : List Row). r ∷ xs) (at_new id change missing rs parts.1))

-- the first use of an argument adds its row
pub used_new : (a : Rule) (value : Text) (rows : List Row) → TakesOne a → has_row a.id rows ≡ false → used a (value ∷ []) rows ≡ rows ++ row CommandLine a value ∷ []
used_new a value rows one new =
    let same : without a.id rows ≡ rows = at_new a.id (λ _. []) [] rows new ∙ append-nil rows in
    rw (one.set, same) (at_new a.id (more_values CommandLine (value ∷ [])) (row CommandLine a value ∷ []) rows new)

pub use_passes_new : (again : Bool) (a : Rule) (value : Text) (rows : List Row) → TakesOne a → has_row a.id rows ≡ false → value_passes a value ≡ true
    → use_passes again a (value ∷ []) rows ≡ true
use_passes_new again a value rows one new passes = rw (one.least, one.most, one.set, new, passes) refl

any_find : {X : Type 0} (test : X → Bool) (xs : List X) → list_any test xs ≡ is_some (find test xs)
any_find test [] = refl
any_find {X} test (x ∷ xs) = go (test x) (any_find test xs)
  where
    go : (b : Bool) → list_any test xs ≡ is_some (find test xs) → (b || list_any test xs) ≡ is_some (cond b (Some x) (find test xs))
    go true e = refl
    go false e = e

-- ---- defaults

-- an argument with no default adds no row
pub no_default : (a : Rule) (rows : List Row) → a.defaults ≡ [] → with_default rows a ≡ rows
no_default a rows none = go (has_row a.id rows)
  where
    go : (b : Bool) → cond b rows (default_rows a.id (reading_by a) a.defaults rows) ≡ rows
    go true = refl
    go false = rw none refl

find_last : (id : Text) (rows : List Row) (r : Row) → find (has_id id) (rows ++ r ∷ []) ≡ cond (is_some (find (has_id id) rows)) (find (has_id id) rows) (find (has_id id) (r ∷ []))
find_last id [] r = refl
find_last id (x ∷ xs) r = go (has_id id x) (find_last id xs r)
  where
    go : (b : Bool) → find (has_id id) (xs ++ r ∷ []) ≡ cond (is_some (find (has_id id) xs)) (find (has_id id) xs) (find (has_id id) (r ∷ []))
        → cond b (Some x) (find (has_id id) (xs ++ r ∷ []))
        ≡ cond (is_some (cond b (Some x) (find (has_id id) xs))) (cond b (Some x) (find (has_id id) xs)) (find (has_id id) (r ∷ []))
    go true e = refl
    go false e = e

-- the row of an argument with a default is its own, or that of the default
pub find_default : (a : Rule) (value : Text) (rows : List Row) → a.defaults ≡ value ∷ [] → bytes_eq a.id a.id ≡ true
    → find (has_id a.id) (with_default rows a) ≡ Some (unwrap_or (find (has_id a.id) rows) (row DefaultValue a value))
find_default a value rows is own = go (has_row a.id rows) (find (has_id a.id) rows) refl refl
  where
    go : (b : Bool) (o : Option Row) → has_row a.id rows ≡ b → find (has_id a.id) rows ≡ o
        → find (has_id a.id) (cond b rows (default_rows a.id (reading_by a) a.defaults rows)) ≡ Some (unwrap_or o (row DefaultValue a value))
    go true None here found = absurd (true≢false (sym here ∙ any_find (has_id a.id) rows ∙ ap is_some found))
    go true (Some r) here found = found
    go false None here found =
        let added = at_new a.id (more_values DefaultValue (value ∷ [])) (row DefaultValue a value ∷ []) rows here in
        rw is (ap (find (has_id a.id)) added ∙ find_last a.id rows (row DefaultValue a value) ∙ rw (found, own) refl)
    go false (Some r) here found = absurd (true≢false (sym (sym here ∙ any_find (has_id a.id) rows ∙ ap is_some found)))

-- and the rows of other ids are as before
pub find_others : (id : Text) (a : Rule) (value : Text) (rows : List Row) → a.defaults ≡ value ∷ [] → bytes_eq a.id id ≡ false
    → find (has_id id) (with_default rows a) ≡ find (has_id id) rows
find_others id a value rows is other = go (has_row a.id rows) refl
  where
    or_none : (o : Option Row) → cond (is_some o) o None ≡ o
    or_none None = refl
    or_none (Some r) = refl

    go : (b : Bool) → has_row a.id rows ≡ b → find (has_id id) (cond b rows (default_rows a.id (reading_by a) a.defaults rows)) ≡ find (has_id id) rows
    go true here = refl
    go false here =
        let added = at_new a.id (more_values DefaultValue (value ∷ [])) (row DefaultValue a value ∷ []) rows here in
        rw is (ap (find (has_id id)) added ∙ find_last id rows (row DefaultValue a value) ∙ rw other (or_none (find (has_id id) rows)))

-- ---- the rows of a line's pieces

module _ (rule : Where → Rule) where
  abbrev pub rows_of : List LinePiece → List Row
  rows_of ps = map (λ p. row CommandLine (rule (place_of p)) (value_of p)) ps

module _ (rule : Where → Rule) (own : (k : Where) → bytes_eq (rule k).id (rule k).id ≡ true)
    (apart : (k j : Where) → is_same k j ≡ false → bytes_eq (rule j).id (rule k).id ≡ false) where
  -- the row of a place is that of its first value
  pub find_at : (k : Where) (ps : List LinePiece) → find (has_id (rule k).id) (rows_of rule ps) ≡ option_map (row CommandLine (rule k)) (slice_get (values_at k ps) 0)
  find_at k [] = refl
  find_at k (p ∷ ps) = go (is_same k (place_of p)) refl (find_at k ps)
    where
      go : (b : Bool) → is_same k (place_of p) ≡ b → find (has_id (rule k).id) (rows_of rule ps) ≡ option_map (row CommandLine (rule k)) (slice_get (values_at k ps) 0)
          → find (has_id (rule k).id) (rows_of rule (p ∷ ps)) ≡ option_map (row CommandLine (rule k)) (slice_get (cond b (value_of p ∷ values_at k ps) (values_at k ps)) 0)
      go true same rest =
          let here : k ≡ place_of p = same_where k (place_of p) same in
          let hit : bytes_eq (rule (place_of p)).id (rule k).id ≡ true = rw here (own (place_of p)) in
          rw hit (ap (λ (j : Where). Some (row CommandLine (rule j) (value_of p))) (sym here))
      go false differ rest = rw (apart k (place_of p) differ) rest

  pub no_row : (k : Where) (ps : List LinePiece) → values_at k ps ≡ [] → has_row (rule k).id (rows_of rule ps) ≡ false
  no_row k ps none = any_find (has_id (rule k).id) (rows_of rule ps) ∙ ap is_some (find_at k ps ∙ ap (λ (vs : List Text). option_map (row CommandLine (rule k)) (slice_get vs 0)) none)

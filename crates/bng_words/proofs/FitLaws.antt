-- What a command says is what its places take.
use Rattle.std.proofs.Common.{◌≡◌, ◌∙◌, ◌<◌, ◌≤◌, ℕ, Bool, cond, true, false, refl, sym, ap, ap₂, subst, arith, List, [], ◌∷◌, ◌++◌, length, append-nil, append_assoc, codes, Option, Some, None, inl, inr}
use Rattle.std.specs.Prelude.{◌⊎◌, ⊤}
use Rattle.bng_words.specs.declared.command_name.CommandName.{CommandName}
use Rattle.bng_words.specs.declared.command_name.CommandName.TheVariants.{Serve, Check, Exercise, Audit}
use Rattle.bng_words.specs.declared.option.OptionName.TheVariants.{Trace, Rounds, Workers}
use Rattle.bng_words.specs.declared.place.Place.{Place}
use Rattle.bng_words.specs.declared.place.Place.TheVariants.{Closed, Open, Number}
use Rattle.bng_words.specs.declared.place.Places.{Places}
use Rattle.bng_words.specs.Words.{Text}
use Rattle.bng_words.specs.Line.{LinePiece, name, option, ArePieces, Values, no_values, with_piece, with_pieces}
use Rattle.bng_words.specs.Meaning.{Meaning, serve, check, exercise, audit, IsNumber, IsNumberOr, Means, Says, given}
use Rattle.bng_words.proofs.LineLaws.{octets_same}
use Rattle.bng_words.specs.Place.{Where, Fits, Holds, Takes, is_same, place_at, place_of, places, value_of, values_at, word_of}

-- ---- the values of pieces, in both spellings

abbrev pub at : Values → Where → List Text
at v None = v.names
at v (Some Trace) = v.trace
at v (Some Rounds) = v.rounds
at v (Some Workers) = v.workers

abbrev one_more : Where → LinePiece → List Text
one_more k p = cond (is_same k (place_of p)) (value_of p ∷ []) []

at_piece : (v : Values) (p : LinePiece) (k : Where) → at (with_piece v p) k ≡ at v k ++ one_more k p
at_piece v (name t) None = refl
at_piece v (name t) (Some Trace) = sym (append-nil v.trace)
at_piece v (name t) (Some Rounds) = sym (append-nil v.rounds)
at_piece v (name t) (Some Workers) = sym (append-nil v.workers)
at_piece v (option Trace t) None = sym (append-nil v.names)
at_piece v (option Trace t) (Some Trace) = refl
at_piece v (option Trace t) (Some Rounds) = sym (append-nil v.rounds)
at_piece v (option Trace t) (Some Workers) = sym (append-nil v.workers)
at_piece v (option Rounds t) None = sym (append-nil v.names)
at_piece v (option Rounds t) (Some Trace) = sym (append-nil v.trace)
at_piece v (option Rounds t) (Some Rounds) = refl
at_piece v (option Rounds t) (Some Workers) = sym (append-nil v.workers)
at_piece v (option Workers t) None = sym (append-nil v.names)
at_piece v (option Workers t) (Some Trace) = sym (append-nil v.trace)
at_piece v (option Workers t) (Some Rounds) = sym (append-nil v.rounds)
at_piece v (option Workers t) (Some Workers) = refl

at_pieces : (v : Values) (ps : List LinePiece) (k : Where) → at (with_pieces v ps) k ≡ at v k ++ values_at k ps
at_pieces v [] k = sym (append-nil (at v k))
at_pieces v (p ∷ ps) k = at_pieces (with_piece v p) ps k ∙ ap (λ (ts : List Text). ts ++ values_at k ps) (at_piece v p k) ∙ go (is_same k (place_of p))
  where
    go : (b : Bool) → (at v k ++ cond b (value_of p ∷ []) []) ++ values_at k ps ≡ at v k ++ cond b (value_of p ∷ values_at k ps) (values_at k ps)
    go true = append_assoc (at v k) (value_of p ∷ []) (values_at k ps)
    go false = ap (λ (ts : List Text). ts ++ values_at k ps) (append-nil (at v k))

-- what stands at each place
pub values_are : (ps : List LinePiece) (k : Where) → values_at k ps ≡ at (with_pieces no_values ps) k
values_are ps None = sym (at_pieces no_values ps None)
values_are ps (Some Trace) = sym (at_pieces no_values ps (Some Trace))
values_are ps (Some Rounds) = sym (at_pieces no_values ps (Some Rounds))
values_are ps (Some Workers) = sym (at_pieces no_values ps (Some Workers))

-- ---- what places hold

pub holds_one : (place : Place) (ts : List Text) (t : Text) → ts ≡ t ∷ [] → Takes place t → Holds place ts
holds_one place ts t is takes = let P : List Text → Type 0 = λ vs. Holds place vs in subst P (sym is) takes

pub holds_none : (place : Place) (ts : List Text) → ts ≡ [] → Holds place ts
holds_none place ts is = let P : List Text → Type 0 = λ vs. Holds place vs in subst P (sym is) tt

holds_given : (o : Option Text) (ts : List Text) → ts ≡ given o → Holds Open ts
holds_given None ts is = holds_none Open ts is
holds_given (Some t) ts is = holds_one Open ts t is tt

holds_number : (absent most : ℕ) (ts : List Text) (n : ℕ) → IsNumberOr absent most ts n → Holds (Number most) ts
holds_number absent most [] n is = tt
holds_number absent most (t ∷ []) n is = (n, is)
holds_number absent most (t ∷ u ∷ ts) n is = is

closed_none : (ts : List Text) → Holds Closed ts → ts ≡ []
closed_none [] h = refl
closed_none (t ∷ []) h = absurd h
closed_none (t ∷ u ∷ ts) h = absurd h

open_given : (ts : List Text) → Holds Open ts → (o : Option Text) × (ts ≡ given o)
open_given [] h = (None, refl)
open_given (t ∷ []) h = (Some t, refl)
open_given (t ∷ u ∷ ts) h = absurd h

number_given : (absent most : ℕ) (ts : List Text) → Holds (Number most) ts → (n : ℕ) × IsNumberOr absent most ts n
number_given absent most [] h = (absent, refl)
number_given absent most (t ∷ []) h = (h.0, h.1)
number_given absent most (t ∷ u ∷ ts) h = absurd h

-- a place that is given holds one value
pub one_value : (place : Place) (ts : List Text) → Holds place ts → 0 < length ts → (t : Text) × (ts ≡ t ∷ []) × Takes place t
one_value place [] h some = absurd (omega arith)
one_value place (t ∷ []) h some = (t, refl, h)
one_value place (t ∷ u ∷ ts) h some = absurd h

-- ---- the two ways

-- the command of what is said
abbrev pub command_said : Meaning → CommandName
command_said (serve configuration trace rounds) = Serve
command_said (check configuration) = Check
command_said (exercise subscribers workers) = Exercise
command_said (audit file) = Audit

pub word_said : (word : Text) (v : Values) (m : Meaning) → Means word v m → word ≡ word_of (command_said m)
word_said word v (serve c t r) h = h.0
word_said word v (check c) h = h.0
word_said word v (exercise n w) h = h.0
word_said word v (audit f) h = h.0

module _ (ps : List LinePiece) where
  some_name : (t : Text) → values_at None ps ≡ t ∷ [] → 0 < length (values_at None ps)
  some_name t is = omega (arith, ap length is)

  -- what is said fits the places of its command
  pub said_fits : (word : Text) (m : Meaning) → Means word (with_pieces no_values ps) m → Fits (places (command_said m)) ps
  said_fits word (serve c t r) h = record {
    each = λ k. elim k as (λ (j : Where). Holds (place_at (places Serve) j) (values_at j ps)) [
      | None ↦ holds_one Open _ c (values_are ps None ∙ h.1) tt
      | Some x ↦ elim x as (λ y. Holds (place_at (places Serve) (Some y)) (values_at (Some y) ps)) [
        | Trace ↦ holds_given t _ (values_are ps (Some Trace) ∙ h.2)
        | Rounds ↦ let P : List Text → Type 0 = λ vs. Holds (Number 1099511627776) vs in subst P (sym (values_are ps (Some Rounds))) (holds_number 1099511627776 1099511627776 _ r h.3)
        | Workers ↦ holds_none Closed _ (values_are ps (Some Workers) ∙ h.4)
      ]
    ];
    name = inr (some_name c (values_are ps None ∙ h.1));
  }
  said_fits word (check c) h = record {
    each = λ k. elim k as (λ (j : Where). Holds (place_at (places Check) j) (values_at j ps)) [
      | None ↦ holds_one Open _ c (values_are ps None ∙ h.1) tt
      | Some x ↦ elim x as (λ y. Holds (place_at (places Check) (Some y)) (values_at (Some y) ps)) [
        | Trace ↦ holds_none Closed _ (values_are ps (Some Trace) ∙ h.2)
        | Rounds ↦ holds_none Closed _ (values_are ps (Some Rounds) ∙ h.3)
        | Workers ↦ holds_none Closed _ (values_are ps (Some Workers) ∙ h.4)
      ]
    ];
    name = inr (some_name c (values_are ps None ∙ h.1));
  }
  said_fits word (exercise n w) h = record {
    each = λ k. elim k as (λ (j : Where). Holds (place_at (places Exercise) j) (values_at j ps)) [
      | None ↦ holds_one (Number 4000) _ h.1.0 (values_are ps None ∙ h.1.1) (n, h.1.2)
      | Some x ↦ elim x as (λ y. Holds (place_at (places Exercise) (Some y)) (values_at (Some y) ps)) [
        | Trace ↦ holds_none Closed _ (values_are ps (Some Trace) ∙ h.2)
        | Rounds ↦ holds_none Closed _ (values_are ps (Some Rounds) ∙ h.3)
        | Workers ↦ let P : List Text → Type 0 = λ vs. Holds (Number 16) vs in subst P (sym (values_are ps (Some Workers))) (holds_number 4 16 _ w h.4)
      ]
    ];
    name = inr (some_name h.1.0 (values_are ps None ∙ h.1.1));
  }
  said_fits word (audit f) h = record {
    each = λ k. elim k as (λ (j : Where). Holds (place_at (places Audit) j) (values_at j ps)) [
      | None ↦ holds_one Open _ f (values_are ps None ∙ h.1) tt
      | Some x ↦ elim x as (λ y. Holds (place_at (places Audit) (Some y)) (values_at (Some y) ps)) [
        | Trace ↦ holds_none Closed _ (values_are ps (Some Trace) ∙ h.2)
        | Rounds ↦ holds_none Closed _ (values_are ps (Some Rounds) ∙ h.3)
        | Workers ↦ holds_none Closed _ (values_are ps (Some Workers) ∙ h.4)
      ]
    ];
    name = inr (some_name f (values_are ps None ∙ h.1));
  }

  -- the name of a command that fits
  pub name_given : (command : CommandName) → Fits (places command) ps → (t : Text) × (values_at None ps ≡ t ∷ []) × Takes (places command).name t
  name_given command fits = elim fits.name [
    | inl closed ↦ absurd (never command closed)
    | inr some ↦ one_value (places command).name (values_at None ps) (fits.each None) some
  ]
    where
      never : (k : CommandName) → (places k).name ≡ Closed → ⊥
      never Serve e = absurd cc
      never Check e = absurd cc
      never Exercise e = absurd cc
      never Audit e = absurd cc

  -- and what fits is said
  pub fits_said : (command : CommandName) → Fits (places command) ps → (m : Meaning) × Means (word_of command) (with_pieces no_values ps) m
  fits_said Serve fits =
      let named = name_given Serve fits in
      let trace = open_given _ (fits.each (Some Trace)) in
      let rounds = number_given 1099511627776 1099511627776 _ (fits.each (Some Rounds)) in
      let P : List Text → Type 0 = λ vs. IsNumberOr 1099511627776 1099511627776 vs rounds.0 in (
        serve named.0 trace.0 rounds.0,
        (
          refl,
          sym (values_are ps None) ∙ named.1,
          sym (values_are ps (Some Trace)) ∙ trace.1,
          subst P (values_are ps (Some Rounds)) rounds.1,
          sym (values_are ps (Some Workers)) ∙ closed_none _ (fits.each (Some Workers)),
        ),
      )
  fits_said Check fits =
      let named = name_given Check fits in (
        check named.0,
        (
          refl,
          sym (values_are ps None) ∙ named.1,
          sym (values_are ps (Some Trace)) ∙ closed_none _ (fits.each (Some Trace)),
          sym (values_are ps (Some Rounds)) ∙ closed_none _ (fits.each (Some Rounds)),
          sym (values_are ps (Some Workers)) ∙ closed_none _ (fits.each (Some Workers)),
        ),
      )
  fits_said Exercise fits =
      let named = name_given Exercise fits in
      let workers = number_given 4 16 _ (fits.each (Some Workers)) in
      let P : List Text → Type 0 = λ vs. IsNumberOr 4 16 vs workers.0 in (
        exercise named.2.0 workers.0,
        (
          refl,
          (named.0, sym (values_are ps None) ∙ named.1, named.2.1),
          sym (values_are ps (Some Trace)) ∙ closed_none _ (fits.each (Some Trace)),
          sym (values_are ps (Some Rounds)) ∙ closed_none _ (fits.each (Some Rounds)),
          subst P (values_are ps (Some Workers)) workers.1,
        ),
      )
  fits_said Audit fits =
      let named = name_given Audit fits in (
        audit named.0,
        (
          refl,
          sym (values_are ps None) ∙ named.1,
          sym (values_are ps (Some Trace)) ∙ closed_none _ (fits.each (Some Trace)),
          sym (values_are ps (Some Rounds)) ∙ closed_none _ (fits.each (Some Rounds)),
          sym (values_are ps (Some Workers)) ∙ closed_none _ (fits.each (Some Workers)),
        ),
      )

-- ---- the first word

same_command : (j k : CommandName) → word_of j ≡ word_of k → j ≡ k
same_command Serve Serve e = refl
same_command Serve Check e = let bad = octets_same 0 _ _ e in absurd (omega arith)
same_command Serve Exercise e = let bad = octets_same 0 _ _ e in absurd (omega arith)
same_command Serve Audit e = let bad = octets_same 0 _ _ e in absurd (omega arith)
same_command Check Serve e = let bad = octets_same 0 _ _ e in absurd (omega arith)
same_command Check Check e = refl
same_command Check Exercise e = let bad = octets_same 0 _ _ e in absurd (omega arith)
same_command Check Audit e = let bad = octets_same 0 _ _ e in absurd (omega arith)
same_command Exercise Serve e = let bad = octets_same 0 _ _ e in absurd (omega arith)
same_command Exercise Check e = let bad = octets_same 0 _ _ e in absurd (omega arith)
same_command Exercise Exercise e = refl
same_command Exercise Audit e = let bad = octets_same 0 _ _ e in absurd (omega arith)
same_command Audit Serve e = let bad = octets_same 0 _ _ e in absurd (omega arith)
same_command Audit Check e = let bad = octets_same 0 _ _ e in absurd (omega arith)
same_command Audit Exercise e = let bad = octets_same 0 _ _ e in absurd (omega arith)
same_command Audit Audit e = refl

module _ (words : List Text) (word : Text) (after : List Text) (first : words ≡ word ∷ after) where
  -- the pieces of what the words say, and the command's word
  pub said_pieces : (m : Meaning) → Says words m → (word ≡ word_of (command_said m)) × ((ps : List LinePiece) × ArePieces ps after × Fits (places (command_said m)) ps)
  said_pieces m says =
      let both : word ∷ after ≡ says.word ∷ says.rest = sym first ∙ says.first in
      let same : word ≡ says.word = cc in
      let rest : says.rest ≡ after = cc in
      let P : List Text → Type 0 = λ ws. ArePieces says.pieces ws in (
        same ∙ word_said says.word (with_pieces no_values says.pieces) m says.means,
        (says.pieces, subst P rest says.spelled, said_fits says.pieces says.word m says.means),
      )

  -- a line that fits says something
  pub line_said : (command : CommandName) (there : Places) → word ≡ word_of command → there ≡ places command → (ps : List LinePiece) × ArePieces ps after × Fits there ps → (m : Meaning) × Says words m
  line_said command there is are line =
      let P : Places → Type 0 = λ q. Fits q line.0 in
      let said = fits_said line.0 command (subst P are line.2) in
      (said.0, record { word = word_of command; rest = after; pieces = line.0; first = first ∙ ap (λ (w : Text). w ∷ after) is; spelled = line.1; means = said.1 })

  -- and the other way round
  pub said_line : (command : CommandName) (there : Places) → word ≡ word_of command → there ≡ places command → (m : Meaning) × Says words m → (ps : List LinePiece) × ArePieces ps after × Fits there ps
  said_line command there is are said =
      let line = said_pieces said.0 said.1 in
      let same = same_command (command_said said.0) command (sym line.0 ∙ is) in
      let P : CommandName → Type 0 = λ k. Fits (places k) line.1.0 in
      let Q : Places → Type 0 = λ q. Fits q line.1.0 in
      (line.1.0, line.1.1, subst Q (sym are) (subst P same line.1.2))

  -- words of no command say nothing
  pub never_said : ((k : CommandName) → ¬ (word ≡ word_of k)) → (m : Meaning) → ¬ (Says words m)
  never_said none m says = none (command_said m) (said_pieces m says).0

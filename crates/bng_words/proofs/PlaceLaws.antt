-- The values of a line's pieces, place by place.
use Rattle.std.proofs.Common.{◌≡◌, ◌∙◌, ◌<◌, ℕ, Bool, cond, true, false, refl, sym, ap, subst, arith, List, [], ◌∷◌, ◌++◌, length, Option, Some, None, true≢false, inl, inr}
use Rattle.std.specs.Prelude.{◌⊎◌}
use Rattle.bng_words.specs.declared.option.OptionName.TheVariants.{Trace, Rounds, Workers}
use Rattle.bng_words.specs.declared.place.Place.{Place}
use Rattle.bng_words.specs.declared.place.Place.TheVariants.{Closed}
use Rattle.bng_words.specs.declared.place.Places.{Places}
use Rattle.bng_words.specs.Words.{Text}
use Rattle.bng_words.specs.Line.{LinePiece, name, option, ArePieces}
use Rattle.bng_words.specs.Place.{Where, Fits, Takes, Holds, is_same, place_at, place_of, value_of, values_at, without}

pub same_where : (j k : Where) → is_same j k ≡ true → j ≡ k
same_where None None e = refl
same_where None (Some x) e = absurd (true≢false (sym e))
same_where (Some Trace) None e = absurd (true≢false (sym e))
same_where (Some Trace) (Some Trace) e = refl
same_where (Some Trace) (Some Rounds) e = absurd (true≢false (sym e))
same_where (Some Trace) (Some Workers) e = absurd (true≢false (sym e))
same_where (Some Rounds) None e = absurd (true≢false (sym e))
same_where (Some Rounds) (Some Trace) e = absurd (true≢false (sym e))
same_where (Some Rounds) (Some Rounds) e = refl
same_where (Some Rounds) (Some Workers) e = absurd (true≢false (sym e))
same_where (Some Workers) None e = absurd (true≢false (sym e))
same_where (Some Workers) (Some Trace) e = absurd (true≢false (sym e))
same_where (Some Workers) (Some Rounds) e = absurd (true≢false (sym e))
same_where (Some Workers) (Some Workers) e = refl

pub same_self : (k : Where) → is_same k k ≡ true
same_self None = refl
same_self (Some Trace) = refl
same_self (Some Rounds) = refl
same_self (Some Workers) = refl

pub values_at-append : (k : Where) (ps qs : List LinePiece) → values_at k (ps ++ qs) ≡ values_at k ps ++ values_at k qs
values_at-append k [] qs = refl
values_at-append k (p ∷ ps) qs = go (is_same k (place_of p)) (values_at-append k ps qs)
  where
    go : (b : Bool) → values_at k (ps ++ qs) ≡ values_at k ps ++ values_at k qs
        → cond b (value_of p ∷ values_at k (ps ++ qs)) (values_at k (ps ++ qs)) ≡ cond b (value_of p ∷ values_at k ps) (values_at k ps) ++ values_at k qs
    go true e = ap (λ (vs : List Text). value_of p ∷ vs) e
    go false e = e

-- the value of the first of some pieces stands first at its own place
pub values_at-own : (p : LinePiece) (ps : List LinePiece) → values_at (place_of p) (p ∷ ps) ≡ value_of p ∷ values_at (place_of p) ps
values_at-own p ps = rw (same_self (place_of p)) refl

-- a place that holds a value among others holds no other
pub holds_alone : (place : Place) (before : List Text) (value : Text) (after : List Text) → Holds place (before ++ value ∷ after) → (before ≡ []) × Takes place value × (after ≡ [])
holds_alone place [] value [] h = (refl, h, refl)
holds_alone place [] value (t ∷ ts) h = absurd h
holds_alone place (t ∷ []) value after h = absurd h
holds_alone place (t ∷ u ∷ ts) value after h = absurd h

pub takes_open : (place : Place) (value : Text) → Takes place value → place ≡ Closed → ⊥
takes_open place value takes closed = let P : Place → Type 0 = λ q. Takes q value in subst P closed takes

-- ---- what fits, one piece after the other

closed_there : (ps : Places) (k : Where) → place_at (without ps k) k ≡ Closed
closed_there ps None = refl
closed_there ps (Some Trace) = refl
closed_there ps (Some Rounds) = refl
closed_there ps (Some Workers) = refl

others_stay : (ps : Places) (k j : Where) → is_same k j ≡ false → place_at (without ps j) k ≡ place_at ps k
others_stay ps None None e = absurd (true≢false e)
others_stay ps None (Some Trace) e = refl
others_stay ps None (Some Rounds) e = refl
others_stay ps None (Some Workers) e = refl
others_stay ps (Some Trace) None e = refl
others_stay ps (Some Trace) (Some Trace) e = absurd (true≢false e)
others_stay ps (Some Trace) (Some Rounds) e = refl
others_stay ps (Some Trace) (Some Workers) e = refl
others_stay ps (Some Rounds) None e = refl
others_stay ps (Some Rounds) (Some Trace) e = refl
others_stay ps (Some Rounds) (Some Rounds) e = absurd (true≢false e)
others_stay ps (Some Rounds) (Some Workers) e = refl
others_stay ps (Some Workers) None e = refl
others_stay ps (Some Workers) (Some Trace) e = refl
others_stay ps (Some Workers) (Some Rounds) e = refl
others_stay ps (Some Workers) (Some Workers) e = absurd (true≢false e)

closed_holds : (ts : List Text) → Holds Closed ts → ts ≡ []
closed_holds [] h = refl
closed_holds (t ∷ []) h = absurd h
closed_holds (t ∷ u ∷ ts) h = absurd h

module _ (ps : Places) (p : LinePiece) (qs : List LinePiece) where
  -- a piece that its place takes, before pieces that fit what is left
  pub fits_more : Takes (place_at ps (place_of p)) (value_of p) → Fits (without ps (place_of p)) qs → Fits ps (p ∷ qs)
  fits_more takes fits = record { each = λ k. each k (is_same k (place_of p)) refl; name = named p (fits.name) }
    where
      each : (k : Where) (b : Bool) → is_same k (place_of p) ≡ b → Holds (place_at ps k) (cond b (value_of p ∷ values_at k qs) (values_at k qs))
      each k true same =
          let here : place_of p ≡ k = sym (same_where k (place_of p) same) in
          let H : Place → Type 0 = λ q. Holds q (values_at k qs) in
          let W : Where → Type 0 = λ j. Holds (place_at (without ps j) k) (values_at k qs) in
          let none = closed_holds (values_at k qs) (subst H (closed_there ps k) (subst W here (fits.each k))) in
          let T : Where → Type 0 = λ j. Takes (place_at ps j) (value_of p) in
          let V : List Text → Type 0 = λ vs. Holds (place_at ps k) (value_of p ∷ vs) in
          subst V (sym none) (subst T here takes)
      each k false differ = let H : Place → Type 0 = λ q. Holds q (values_at k qs) in subst H (others_stay ps k (place_of p) differ) (fits.each k)

      named : (q : LinePiece) → ((without ps (place_of q)).name ≡ Closed) ⊎ (0 < length (values_at None qs)) → (ps.name ≡ Closed) ⊎ (0 < length (values_at None (q ∷ qs)))
      named (name value) h = inr (omega arith)
      named (option Trace value) h = h
      named (option Rounds value) h = h
      named (option Workers value) h = h

  -- and the other way round
  pub fits_less : Fits ps (p ∷ qs) → Takes (place_at ps (place_of p)) (value_of p) × Fits (without ps (place_of p)) qs
  fits_less fits =
      let H : List Text → Type 0 = λ vs. Holds (place_at ps (place_of p)) vs in
      let alone = holds_alone (place_at ps (place_of p)) [] (value_of p) (values_at (place_of p) qs) (subst H (values_at-own p qs) (fits.each (place_of p))) in
      (alone.1, record { each = λ k. each alone.2 k (is_same k (place_of p)) refl (fits.each k); name = named p fits.name })
    where
      each : values_at (place_of p) qs ≡ [] → (k : Where) (b : Bool) → is_same k (place_of p) ≡ b → Holds (place_at ps k) (cond b (value_of p ∷ values_at k qs) (values_at k qs))
          → Holds (place_at (without ps (place_of p)) k) (values_at k qs)
      each none k true same held =
          let here : place_of p ≡ k = sym (same_where k (place_of p) same) in
          let W : Where → Type 0 = λ j. Holds (place_at (without ps (place_of p)) j) (values_at j qs) in
          let V : List Text → Type 0 = λ vs. Holds (place_at (without ps (place_of p)) (place_of p)) vs in
          subst W here (subst V (sym none) tt)
      each none k false differ held = let H : Place → Type 0 = λ q. Holds q (values_at k qs) in subst H (sym (others_stay ps k (place_of p) differ)) held

      named : (q : LinePiece) → (ps.name ≡ Closed) ⊎ (0 < length (values_at None (q ∷ qs))) → ((without ps (place_of q)).name ≡ Closed) ⊎ (0 < length (values_at None qs))
      named (name value) h = inl refl
      named (option Trace value) h = h
      named (option Rounds value) h = h
      named (option Workers value) h = h

-- no words are pieces only where no name is wanted
pub nothing_fits : (ps : Places) (pieces : List LinePiece) (words : List Text) → words ≡ [] → ArePieces pieces words → Fits ps pieces → ps.name ≡ Closed
nothing_fits ps [] words none are fits = elim fits.name [ inl closed ↦ closed | inr some ↦ absurd (omega arith) ]
nothing_fits ps (name value ∷ qs) words none are fits = let bad : [] ≡ value ∷ are.0 = sym none ∙ are.1.0 in absurd cc
nothing_fits ps (option x value ∷ qs) words none are fits = absurd (elim are.1.0 [ inl e ↦ cc | inr e ↦ cc ])

-- A line is read in one way.
use Rattle.std.proofs.Common.{◌≡◌, ℕ, ◌<◌, List, [], ◌∷◌, ◌++◌, length, slice_index, drop, refl, sym, ap, ap₂, subst, ◌∙◌, inl, inr, arith, length-append}
use Rattle.std.specs.Prelude.{MatchOption, Option, None, Some, IfSome, IfNone, String}
use Rattle.std.specs.declared.alloc.Global.{Global}
use Rattle.bng_words.specs.declared.option.OptionName.{OptionName}
use Rattle.bng_words.specs.declared.option.OptionName.TheVariants.{Trace, Rounds, Workers}
use Rattle.bng_words.specs.Words.{Text, texts, IsName, IsValue, dashed}
use Rattle.bng_words.specs.Line.{LinePiece, name, option, Begins, ArePieces, Values, no_values, with_piece, with_pieces, IsSingle}
use Rattle.bng_words.specs.Meaning.{Meaning, Means, Says}

single_before : (v : Values) (p : LinePiece) → IsSingle (with_piece v p) → IsSingle v
single_before v (name t) s = record { names = omega (arith, s.names, length-append v.names (t ∷ [])); trace = s.trace; rounds = s.rounds; workers = s.workers }
single_before v (option Trace t) s = record { names = s.names; trace = omega (arith, s.trace, length-append v.trace (t ∷ [])); rounds = s.rounds; workers = s.workers }
single_before v (option Rounds t) s = record { names = s.names; trace = s.trace; rounds = omega (arith, s.rounds, length-append v.rounds (t ∷ [])); workers = s.workers }
single_before v (option Workers t) s = record { names = s.names; trace = s.trace; rounds = s.rounds; workers = omega (arith, s.workers, length-append v.workers (t ∷ [])) }

-- where nothing is given twice in the end, nothing was before
pub still_single : (v : Values) (ps : List LinePiece) → IsSingle (with_pieces v ps) → IsSingle v
still_single v [] s = s
still_single v (p ∷ ps) s = single_before v p (still_single (with_piece v p) ps s)

first_octet : (x : OptionName) → slice_index (dashed x) 0 ≡ 45
first_octet Trace = refl
first_octet Rounds = refl
first_octet Workers = refl

first_joined_octet : (x : OptionName) (t : Text) → slice_index (dashed x ++ 61 ∷ t) 0 ≡ 45
first_joined_octet Trace t = refl
first_joined_octet Rounds t = refl
first_joined_octet Workers t = refl

same_dashed : (x y : OptionName) → dashed x ≡ dashed y → x ≡ y
same_dashed Trace Trace e = refl
same_dashed Trace Rounds e = absurd cc
same_dashed Trace Workers e = absurd cc
same_dashed Rounds Trace e = absurd cc
same_dashed Rounds Rounds e = refl
same_dashed Rounds Workers e = absurd cc
same_dashed Workers Trace e = absurd cc
same_dashed Workers Rounds e = absurd cc
same_dashed Workers Workers e = refl

pub octets_same : (i : ℕ) (s t : Text) → s ≡ t → slice_index s i ≡ slice_index t i
octets_same i s t e = ap (λ (u : Text). slice_index u i) e

never_joined : (x y : OptionName) (t : Text) → dashed x ≡ dashed y ++ 61 ∷ t → ⊥
never_joined Trace Trace t e = let bad = octets_same 7 _ _ e in omega arith
never_joined Trace Rounds t e = let bad = octets_same 2 _ _ e in omega arith
never_joined Trace Workers t e = let bad = octets_same 2 _ _ e in omega arith
never_joined Rounds Trace t e = let bad = octets_same 2 _ _ e in omega arith
never_joined Rounds Rounds t e = let bad = octets_same 8 _ _ e in omega arith
never_joined Rounds Workers t e = let bad = octets_same 2 _ _ e in omega arith
never_joined Workers Trace t e = let bad = octets_same 2 _ _ e in omega arith
never_joined Workers Rounds t e = let bad = octets_same 2 _ _ e in omega arith
never_joined Workers Workers t e = let bad = octets_same 9 _ _ e in omega arith

same_joined : (x y : OptionName) (t u : Text) → dashed x ++ 61 ∷ t ≡ dashed y ++ 61 ∷ u → (x ≡ y) × (t ≡ u)
same_joined Trace Trace t u e = (refl, ap (λ (s : Text). drop 8 s) e)
same_joined Trace Rounds t u e = let bad = octets_same 2 _ _ e in absurd (omega arith)
same_joined Trace Workers t u e = let bad = octets_same 2 _ _ e in absurd (omega arith)
same_joined Rounds Trace t u e = let bad = octets_same 2 _ _ e in absurd (omega arith)
same_joined Rounds Rounds t u e = (refl, ap (λ (s : Text). drop 9 s) e)
same_joined Rounds Workers t u e = let bad = octets_same 2 _ _ e in absurd (omega arith)
same_joined Workers Trace t u e = let bad = octets_same 2 _ _ e in absurd (omega arith)
same_joined Workers Rounds t u e = let bad = octets_same 2 _ _ e in absurd (omega arith)
same_joined Workers Workers t u e = (refl, ap (λ (s : Text). drop 10 s) e)

not_dashed : (x : OptionName) (t : Text) → IsName t → t ≡ dashed x → ⊥
not_dashed x t is e = is (ap (λ (s : Text). slice_index s 0) e ∙ first_octet x)

not_joined : (x : OptionName) (t u : Text) → IsName t → t ≡ dashed x ++ 61 ∷ u → ⊥
not_joined x t u is e = is (ap (λ (s : Text). slice_index s 0) e ∙ first_joined_octet x u)

-- what words begin with, by what their first word is
value_begins : (w : Text) (after rest : List Text) (p : LinePiece) → IsName w → Begins p (w ∷ after) rest → (p ≡ name w) × (rest ≡ after)
value_begins w after rest (name v) is b =
    let e : w ∷ after ≡ v ∷ rest = b.0 in
    let same : v ≡ w = cc in
    (ap name same, cc)
value_begins w after rest (option x v) is b = absurd (elim b.0 [
  | inl e ↦ let word : w ≡ dashed x = cc in not_dashed x w is word
  | inr e ↦ let word : w ≡ dashed x ++ 61 ∷ v = cc in not_joined x w v is word
])

flag_begins : (x : OptionName) (after rest : List Text) (p : LinePiece) → Begins p (dashed x ∷ after) rest → (v : Text) × (p ≡ option x v) × (after ≡ v ∷ rest) × IsValue v
flag_begins x after rest (name v) b =
    let e : dashed x ∷ after ≡ v ∷ rest = b.0 in
    let word : v ≡ dashed x = cc in
    absurd (not_dashed x v b.1 word)
flag_begins x after rest (option y v) b = elim b.0 [
  | inl e ↦
      let word : dashed x ≡ dashed y = cc in
      let others : after ≡ v ∷ rest = cc in
      (v, ap (λ (z : OptionName). option z v) (sym (same_dashed x y word)), others, b.1)
  | inr e ↦ let word : dashed x ≡ dashed y ++ 61 ∷ v = cc in absurd (never_joined x y v word)
]

joined_begins : (x : OptionName) (t : Text) (after rest : List Text) (p : LinePiece) → Begins p ((dashed x ++ 61 ∷ t) ∷ after) rest → (p ≡ option x t) × (rest ≡ after)
joined_begins x t after rest (name v) b =
    let e : (dashed x ++ 61 ∷ t) ∷ after ≡ v ∷ rest = b.0 in
    let word : v ≡ dashed x ++ 61 ∷ t = cc in
    absurd (not_joined x v t b.1 word)
joined_begins x t after rest (option y v) b = elim b.0 [
  | inl e ↦ let word : dashed y ≡ dashed x ++ 61 ∷ t = cc in absurd (never_joined y x t word)
  | inr e ↦
      let word : dashed x ++ 61 ∷ t ≡ dashed y ++ 61 ∷ v = cc in
      let same = same_joined x y t v word in
      (ap₂ option (sym same.0) (sym same.1), cc)
]

-- words begin with one piece at most
one_front : (p q : LinePiece) (words r s : List Text) → Begins p words r → Begins q words s → (q ≡ p) × (s ≡ r)
one_front (name v) q words r s b d =
    let P : List Text → Type 0 = λ ws. Begins q ws s in
    value_begins v r s q b.1 (subst P b.0 d)
one_front (option x v) q words r s b d =
    let P : List Text → Type 0 = λ ws. Begins q ws s in
    elim b.0 [
      | inl e ↦
          let f = flag_begins x (v ∷ r) s q (subst P e d) in
          let others : v ∷ r ≡ f.0 ∷ s = f.2 in
          let same : f.0 ≡ v = cc in
          (f.1 ∙ ap (option x) same, cc)
      | inr e ↦ joined_begins x v r s q (subst P e d)
    ]

-- where the words begin with a piece, so do the pieces that they are
pub next_pieces : (p : LinePiece) (words rest : List Text) (ps : List LinePiece) → Begins p words rest → ArePieces ps words → (qs : List LinePiece) × (ps ≡ p ∷ qs) × ArePieces qs rest
next_pieces (name v) words rest [] b h = absurd cc
next_pieces (option x v) words rest [] b h = absurd (elim b.0 [ inl e ↦ cc | inr e ↦ cc ])
next_pieces p words rest (q ∷ qs) b h =
    let same = one_front p q words rest h.0 b h.1 in
    let P : List Text → Type 0 = λ r. ArePieces qs r in
    (qs, ap (λ (x : LinePiece). x ∷ qs) same.0, subst P same.1 h.2)

-- words that begin with no piece are none
pub no_pieces : (words : List Text) → 0 < length words → ((p : LinePiece) (rest : List Text) → ¬ (Begins p words rest)) → (ps : List LinePiece) → ArePieces ps words → ⊥
no_pieces words some none [] h = omega (arith, some, ap length h)
no_pieces words some none (p ∷ ps) h = none p h.0 h.1

-- a place that is given twice stays so
pub never_single : (v : Values) (p : LinePiece) (words rest : List Text) → Begins p words rest → ¬ (IsSingle (with_piece v p)) → (ps : List LinePiece) → ArePieces ps words → ¬ (IsSingle (with_pieces v ps))
never_single v p words rest b twice ps h =
    let next = next_pieces p words rest ps b h in
    let P : List LinePiece → Type 0 = λ qs. IsSingle (with_pieces v qs) in
    λ s. twice (still_single (with_piece v p) next.0 (subst P next.1 s))

-- what the words after a piece are not, the words are not
pub not_single_after : (v : Values) (p : LinePiece) (words rest : List Text) → Begins p words rest
    → ((ps : List LinePiece) → ArePieces ps rest → ¬ (IsSingle (with_pieces (with_piece v p) ps)))
    → (ps : List LinePiece) → ArePieces ps words → ¬ (IsSingle (with_pieces v ps))
not_single_after v p words rest b none ps h =
    let next = next_pieces p words rest ps b h in
    let P : List LinePiece → Type 0 = λ qs. IsSingle (with_pieces v qs) in
    λ s. none next.0 next.2 (subst P next.1 s)

module _ {X : Type 0} where
  pub if_none : (r : Option X) (P Q : Type 0) → (P → Q) → IfNone r P → IfNone r Q
  if_none None P Q f h = f h
  if_none (Some x) P Q f h = h

  pub if_some : (r : Option X) (P Q : X → Type 0) → ((x : X) → P x → Q x) → IfSome r P → IfSome r Q
  if_some None P Q f h = h
  if_some (Some x) P Q f h = f x h

pub some_texts : (words : List (String Global)) → 0 < length words → 0 < length (texts words)
some_texts [] some = some
some_texts (w ∷ words) some = omega arith

pub no_texts : (words : List (String Global)) → length words ≡ 0 → texts words ≡ []
no_texts [] none = refl
no_texts (w ∷ words) none = absurd (omega arith)

-- words are read in one way
pub one_line : (ps qs : List LinePiece) (words : List Text) → ArePieces ps words → ArePieces qs words → qs ≡ ps
one_line [] [] words a b = refl
one_line [] (q ∷ qs) words a b = let next = next_pieces q words b.0 [] b.1 a in let bad : [] ≡ q ∷ next.0 = next.1 in absurd cc
one_line (p ∷ ps) qs words a b =
    let next = next_pieces p words a.0 qs a.1 b in
    next.1 ∙ ap (λ (rs : List LinePiece). p ∷ rs) (one_line ps next.0 a.0 a.2 next.2)

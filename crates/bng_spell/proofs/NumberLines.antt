-- The numbers of a line, as they are read.
use Rattle.std.proofs.Common.{◌≡◌, ◌≢◌, ℕ, ◌^◌, ◌<◌, ◌≤◌, List, [], ◌∷◌, ◌++◌, drop, refl, sym, ap, subst, ◌∙◌, append_assoc, append-nil, arith}
use Rattle.std.specs.Prelude.{codes}
use Rattle.std.specs.Fmt.{decimal}
use Rattle.std.specs.List.{flat_map}
use Rattle.std.proofs.lemmas.Fmt.{decimal_injective}
use Rattle.bng_base.specs.Pieces.{IsCode}
use Rattle.bng_base.proofs.PieceLaws.{Stuck, AllByRecursion-push}
use Rattle.bng_spell.specs.Fields.{numbers_text}
use Rattle.bng_spell.specs.Standing.{Stands, Lacks}
use Rattle.bng_spell.specs.Many.{AreLines}
use Rattle.bng_spell.specs.Codes.{until_once, until_is, some_push}
use Rattle.bng_spell.specs.FieldNames.{decimal_plain}
use Rattle.bng_spell.proofs.OneForm.{AreNumbers, either_once}
use Rattle.bng_spell.proofs.Reading.{stands_as, stands_both}
use Rattle.bng_spell.proofs.Rounds.{lines_once}

abbrev IsShort : ℕ → Type 0
IsShort n = n < 2 ^ 32

-- a number and the comma behind it
abbrev comma_behind : ℕ → List ℕ
comma_behind n = decimal n ++ 44 ∷ []

abbrev comma_before : ℕ → List ℕ
comma_before n = codes "," ++ decimal n

wide : (n : ℕ) → n < 2 ^ 32 → n < 2 ^ 64
wide n h = omega arith

numbers_code : IsCode IsShort comma_behind
numbers_code = record {
  nonempty = λ n. some_push (decimal n) 44;
  splits = λ m n x y f g e.
      let r = until_once 44 (decimal m) (decimal n) x y refl (decimal_plain m (wide m f)) (decimal_plain n (wide n g)) e in
      (decimal_injective m n (wide m f) (wide n g) r.0, r.1);
}

-- commas before the later numbers are commas behind the earlier ones
turned : (n : ℕ) (more : List ℕ) (l : ℕ) → decimal n ++ flat_map comma_before (more ++ l ∷ []) ≡ flat_map comma_behind (n ∷ more) ++ decimal l
turned n [] l = simp (append_assoc, append-nil)
turned n (m ∷ more) l =
    sym (append_assoc (decimal n) (44 ∷ []) (decimal m ++ flat_map comma_before (more ++ l ∷ []))) ∙ ap (λ (t : List ℕ). comma_behind n ++ t) (turned m more l)
    ∙ sym (append_assoc (comma_behind n) (flat_map comma_behind (m ∷ more)) (decimal l))

pub numbers_turned : (ns : List ℕ) (l : ℕ) → flat_map comma_behind ns ++ (decimal l ++ 10 ∷ []) ≡ numbers_text (ns ++ l ∷ []) ++ 10 ∷ []
numbers_turned [] l = ap (λ (t : List ℕ). t ++ 10 ∷ []) (sym (append-nil (decimal l)))
numbers_turned (n ∷ ns) l = sym (append_assoc (flat_map comma_behind (n ∷ ns)) (decimal l) (10 ∷ [])) ∙ ap (λ (t : List ℕ). t ++ 10 ∷ []) (sym (turned n ns l))

pub numbers_stand : (whole : List ℕ) (at mid next : ℕ) (ns : List ℕ) (l : ℕ) → AreLines IsShort comma_behind whole at ns mid → Stands whole mid (decimal l ++ 10 ∷ []) next
    → Stands whole at (numbers_text (ns ++ l ∷ []) ++ 10 ∷ []) next
numbers_stand whole at mid next ns l a s = stands_as whole at next _ _ (numbers_turned ns l) (stands_both whole at mid next (flat_map comma_behind ns) (decimal l ++ 10 ∷ []) a.stand s)

-- the last of some numbers, and those before it
record Last (ns : List ℕ) : Type 0 where
  front : List ℕ
  last : ℕ
  are : ns ≡ front ++ last ∷ []

last_of : (n : ℕ) (ns : List ℕ) → Last (n ∷ ns)
last_of n [] = record { front = []; last = n; are = refl }
last_of n (m ∷ ns) = let r = last_of m ns in record { front = n ∷ r.front; last = r.last; are = ap (λ (t : List ℕ). n ∷ t) r.are }

short_parts : (front : List ℕ) (l : ℕ) → AreNumbers (front ++ l ∷ []) → AreNumbers front × (l < 2 ^ 32)
short_parts [] l h = (tt, h.0)
short_parts (n ∷ front) l h = let r = short_parts front l h.1 in ((h.0, r.0), r.1)

-- no number with a comma behind it stands where one with the line's end does
no_comma : (l : ℕ) (rest : List ℕ) → l < 2 ^ 32 → Stuck IsShort comma_behind ((decimal l ++ 10 ∷ []) ++ rest)
no_comma l rest f n next g e =
    let r = either_once (decimal l) (decimal n) 10 44 rest next (decimal_plain l (wide l f)) (decimal_plain n (wide n g)) refl refl (sym (until_is 10 (decimal l) rest) ∙ e ∙ until_is 44 (decimal n) next) in
    let same = r.1 in
    omega (arith, same)

-- numbers do not stand where their last one does not
pub no_numbers_line : (whole : List ℕ) (at mid : ℕ) (ns : List ℕ) → ((rest : List ℕ) → drop at whole ≢ codes "-\n" ++ rest) → AreLines IsShort comma_behind whole at ns mid
    → ((n : ℕ) (rest : List ℕ) → n < 2 ^ 32 → drop mid whole ≢ (decimal n ++ 10 ∷ []) ++ rest) → Lacks AreNumbers (λ (all : List ℕ). numbers_text all ++ 10 ∷ []) whole at
no_numbers_line whole at mid ns dash a never [] rest f e = dash rest e
no_numbers_line whole at mid ns dash a never (n ∷ all) rest f e =
    let parts = last_of n all in
    let fits = short_parts parts.front parts.last (subst AreNumbers parts.are f) in
    let text : drop at whole ≡ flat_map comma_behind parts.front ++ ((decimal parts.last ++ 10 ∷ []) ++ rest) =
    e ∙ ap (λ (t : List ℕ). (numbers_text t ++ 10 ∷ []) ++ rest) parts.are ∙ ap (λ (t : List ℕ). t ++ rest) (sym (numbers_turned parts.front parts.last))
    ∙ append_assoc (flat_map comma_behind parts.front) (decimal parts.last ++ 10 ∷ []) rest in
    let once = lines_once IsShort comma_behind numbers_code whole at mid ns parts.front ((decimal parts.last ++ 10 ∷ []) ++ rest) a fits.0 (no_comma parts.last rest fits.1) text in
    never parts.last rest fits.1 once.1

-- numbers stand where their last one does
pub numbers_found : (whole : List ℕ) (at mid next : ℕ) (ns all : List ℕ) (l : ℕ) → all ≡ ns ++ l ∷ [] → l ≤ 4294967295 → AreLines IsShort comma_behind whole at ns mid
    → Stands whole mid (decimal l ++ 10 ∷ []) next → AreNumbers all × Stands whole at (numbers_text all ++ 10 ∷ []) next
numbers_found whole at mid next ns all l e most a s =
    subst (λ (t : List ℕ). AreNumbers t × Stands whole at (numbers_text t ++ 10 ∷ []) next) (sym e)
    (AllByRecursion-push IsShort comma_behind ns l a.fit (below most), numbers_stand whole at mid next ns l a s)
  where
    below : l ≤ 4294967295 → l < 2 ^ 32
    below h = omega arith

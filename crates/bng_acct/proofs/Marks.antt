-- The numbers of a term's open records.
use Rattle.std.proofs.Common.{◌≡◌, ℕ, ◌+◌, ◌*◌, ◌≤◌, true, List, [], ◌∷◌, length, Option, Some, None, sym, ap, subst, ◌∙◌, refl, arith, inl, inr}
use Rattle.std.specs.Prelude.{sum_by, option_and_then}
use Rattle.std.proofs.lemmas.Bool.{cases_Bool}
use Rattle.std.proofs.Math.Bool.{or-true, true-or}
use Rattle.std.proofs.lemmas.List.Sums.{sum_by-cons}
use Rattle.bng_base.specs.declared.circuit.TermId.{TermId}
use Rattle.bng_acct.specs.declared.facts.StatusType.{StatusType}
use Rattle.bng_acct.specs.declared.facts.StatusType.TheVariants.{Start, Interim, Stop}
use Rattle.bng_acct.specs.declared.held.Held.{Held}
use Rattle.bng_acct.specs.Roster.{same, of_term, Puts, Removes}
use Rattle.bng_acct.specs.Spool.{number_of, open_of, with_number, is_kept, stops_in, or_unknown, ended_by, counted, open_count, stop_count}
use Rattle.bng_acct.proofs.Rosters.{same_is, is_same}

-- one kind or another
pub data SameKind (a b : StatusType) : Type 0 where
  equal : a ≡ b → SameKind a b
  other : (a ≡ b → ⊥) → SameKind a b

pub same_kind : (a b : StatusType) → SameKind a b
same_kind Start Start = equal refl
same_kind Start Interim = other (λ e. cc)
same_kind Start Stop = other (λ e. cc)
same_kind Interim Start = other (λ e. cc)
same_kind Interim Interim = equal refl
same_kind Interim Stop = other (λ e. cc)
same_kind Stop Start = other (λ e. cc)
same_kind Stop Interim = other (λ e. cc)
same_kind Stop Stop = equal refl

pub number_of-with : (s : StatusType) (n : Option ℕ) (h : Held) → number_of s (with_number s n h) ≡ n
number_of-with Start n h = refl
number_of-with Interim n h = refl
number_of-with Stop n h = refl

pub number_of-with_other : (s t : StatusType) (n : Option ℕ) (h : Held) → (s ≡ t → ⊥) → number_of s (with_number t n h) ≡ number_of s h
number_of-with_other Start Start n h e = absurd (e refl)
number_of-with_other Start Interim n h e = refl
number_of-with_other Start Stop n h e = refl
number_of-with_other Interim Start n h e = refl
number_of-with_other Interim Interim n h e = absurd (e refl)
number_of-with_other Interim Stop n h e = refl
number_of-with_other Stop Start n h e = refl
number_of-with_other Stop Interim n h e = refl
number_of-with_other Stop Stop n h e = absurd (e refl)

pub number_of-ended_by : (s t : StatusType) (h : Held) → number_of s (ended_by t h) ≡ number_of s h
number_of-ended_by Start Start h = refl
number_of-ended_by Start Interim h = refl
number_of-ended_by Start Stop h = refl
number_of-ended_by Interim Start h = refl
number_of-ended_by Interim Interim h = refl
number_of-ended_by Interim Stop h = refl
number_of-ended_by Stop Start h = refl
number_of-ended_by Stop Interim h = refl
number_of-ended_by Stop Stop h = refl

pub term-with : (s : StatusType) (n : Option ℕ) (h : Held) → (with_number s n h).term ≡ h.term
term-with Start n h = refl
term-with Interim n h = refl
term-with Stop n h = refl

pub term-ended_by : (s : StatusType) (h : Held) → (ended_by s h).term ≡ h.term
term-ended_by Start h = refl
term-ended_by Interim h = refl
term-ended_by Stop h = refl

pub open_count-with : (s : StatusType) (n : Option ℕ) (h : Held) → open_count (with_number s n h) + counted (number_of s h) ≡ open_count h + counted n
open_count-with Start n h = omega arith
open_count-with Interim n h = omega arith
open_count-with Stop n h = omega arith

pub open_count-ended_by : (s : StatusType) (h : Held) → open_count (ended_by s h) ≡ open_count h
open_count-ended_by Start h = refl
open_count-ended_by Interim h = refl
open_count-ended_by Stop h = refl

-- a Stop more or less
pub stop_count-with : (s : StatusType) (n : ℕ) (h : Held) → number_of s h ≡ None → stop_count (with_number s (Some n) (ended_by s h)) ≡ stop_count h + stops_in s
stop_count-with Start n h e = omega arith
stop_count-with Interim n h e = omega arith
stop_count-with Stop n h e = omega (arith, ap counted e)

pub stop_count-without : (s : StatusType) (n : ℕ) (h : Held) → number_of s h ≡ Some n → stop_count (with_number s None h) + stops_in s ≡ stop_count h
stop_count-without Start n h e = omega arith
stop_count-without Interim n h e = omega arith
stop_count-without Stop n h e = omega (arith, ap counted e)

pub kept-with : (s : StatusType) (n : ℕ) (h : Held) → is_kept (with_number s (Some n) h) ≡ true
kept-with Start n h = simp (or-true, true-or)
kept-with Interim n h = simp (or-true, true-or)
kept-with Stop n h = simp (or-true, true-or)

counted_le : (o : Option ℕ) → counted o ≤ 1
counted_le None = omega arith
counted_le (Some n) = omega arith

pub open_count_le : (h : Held) → open_count h ≤ 3
open_count_le h = omega (arith, counted_le h.start, counted_le h.interim, counted_le h.stop)

pub stop_count_le : (h : Held) → stop_count h ≤ 1
stop_count_le h = counted_le h.stop

-- a sum of which each part is small
pub sum_le : (f : Held → ℕ) (most : ℕ) → ((h : Held) → f h ≤ most) → (hs : List Held) → sum_by f hs ≤ most * length hs
sum_le f most small [] = omega arith
sum_le f most small (h ∷ hs) = omega (arith, sum_by-cons f h hs, small h, sum_le f most small hs)

pub sum_with_le : (f : Held → ℕ) (most : ℕ) → ((h : Held) → f h ≤ most) → (t : TermId) (hs : List Held) (x : Held) → of_term t hs ≡ Some x → sum_by f hs + most ≤ most * length hs + f x
sum_with_le f most small t [] x e = absurd cc
sum_with_le f most small t (h ∷ hs) x e = elim (cases_Bool (same h.term t)) [
  | inl is ↦ omega (arith, sum_by-cons f h hs, sum_le f most small hs, ap f (some_is h x (rw is at e)))
  | inr apart ↦ omega (arith, sum_by-cons f h hs, small h, sum_with_le f most small t hs x (rw apart at e))
]
  where
    some_is : (a b : Held) → Some a ≡ Some b → a ≡ b
    some_is a b e = cc

-- what is held where a record was formed or is open no longer
pub record Marks (old new : List Held) (t : TermId) (status : StatusType) (n : Option ℕ) : Type 0 where
  pub hit : open_of t status new ≡ n
  pub misses : (u : TermId) (s : StatusType) → (u ≡ t → s ≡ status → ⊥) → open_of u s new ≡ open_of u s old

abbrev pub number_in : StatusType → Option Held → Option ℕ
number_in s o = option_and_then (number_of s) o

-- a term's numbers, where something is held of it or not
pub number_of-or_unknown : (s : StatusType) (t : TermId) (o : Option Held) → number_of s (or_unknown t o) ≡ number_in s o
number_of-or_unknown Start t None = refl
number_of-or_unknown Interim t None = refl
number_of-or_unknown Stop t None = refl
number_of-or_unknown s t (Some h) = refl

term-or_unknown : (t : TermId) (o : Option Held) → ((h : Held) → o ≡ Some h → h.term ≡ t) → (or_unknown t o).term ≡ t
term-or_unknown t None is = refl
term-or_unknown t (Some h) is = is h refl

-- of a term something is held of that term
pub term_of : (t : TermId) (hs : List Held) (h : Held) → of_term t hs ≡ Some h → h.term ≡ t
term_of t [] h e = absurd cc
term_of t (x ∷ hs) h e = elim (cases_Bool (same x.term t)) [
  | inl is ↦ ap (λ (y : Held). y.term) (sym (let found : x ≡ h = cc_some x h (rw is at e) in found)) ∙ same_is x.term t is
  | inr apart ↦ term_of t hs h (rw apart at e)
]
  where
    cc_some : (a b : Held) → Some a ≡ Some b → a ≡ b
    cc_some a b e = cc

-- marks after h was put in
pub puts_marks : (old new : List Held) (h : Held) (status : StatusType) (n : Option ℕ) → Puts old new h → number_of status h ≡ n
    → ((s : StatusType) → (s ≡ status → ⊥) → number_of s h ≡ open_of h.term s old) → Marks old new h.term status n
puts_marks old new h status n p is rest = record {
  hit = (let e : of_term h.term new ≡ Some h = p.finds h.term ∙ rw (is_same h.term) refl in ap (number_in status) e) ∙ is;
  misses = λ u s apart. elim (cases_Bool (same h.term u)) [
    | inl is ↦
        let e = same_is h.term u is in
        let here : of_term u new ≡ Some h = p.finds u ∙ rw is refl in
        ap (number_in s) here ∙ rest s (λ k. apart (sym e) k) ∙ ap (λ (v : TermId). open_of v s old) e
    | inr elsewhere ↦
        let as_was : of_term u new ≡ of_term u old = p.finds u ∙ rw elsewhere refl in
        ap (number_in s) as_was
  ];
}

pub removes_marks : (old new : List Held) (t : TermId) (status : StatusType) → Removes old new t → ((s : StatusType) → (s ≡ status → ⊥) → open_of t s old ≡ None) → Marks old new t status None
removes_marks old new t status p rest = record {
  hit = let e : of_term t new ≡ None = p.finds t ∙ rw (is_same t) refl in ap (number_in status) e;
  misses = λ u s apart. elim (cases_Bool (same t u)) [
    | inl is ↦
        let e = same_is t u is in
        let gone : of_term u new ≡ None = p.finds u ∙ rw is refl in
        ap (number_in s) gone ∙ sym (ap (λ (v : TermId). open_of v s old) (sym e) ∙ rest s (λ k. apart (sym e) k))
    | inr elsewhere ↦
        let as_was : of_term u new ≡ of_term u old = p.finds u ∙ rw elsewhere refl in
        ap (number_in s) as_was
  ];
}

-- what is held of a term of which a record is formed
abbrev pub formed : StatusType → ℕ → TermId → List Held → Held
formed status n t old = with_number status (Some n) (ended_by status (or_unknown t (of_term t old)))

pub term-formed : (status : StatusType) (n : ℕ) (t : TermId) (old : List Held) → (formed status n t old).term ≡ t
term-formed status n t old =
    term-with status (Some n) (ended_by status (or_unknown t (of_term t old))) ∙ term-ended_by status (or_unknown t (of_term t old)) ∙ term-or_unknown t (of_term t old) (term_of t old)

pub forms_marks : (old new : List Held) (t : TermId) (status : StatusType) (n : ℕ) → Puts old new (formed status n t old) → Marks old new t status (Some n)
forms_marks old new t status n p =
    let h = formed status n t old in
    let base = or_unknown t (of_term t old) in
    let e = term-formed status n t old in
    subst (λ (u : TermId). Marks old new u status (Some n)) e
    (puts_marks old new h status (Some n) p (number_of-with status (Some n) (ended_by status base))
    (λ s apart.
    number_of-with_other s status (Some n) (ended_by status base) apart ∙ number_of-ended_by s status base ∙ number_of-or_unknown s t (of_term t old)
    ∙ ap (λ (u : TermId). open_of u s old) (sym e)))

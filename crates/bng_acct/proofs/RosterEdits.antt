-- A list of terms in their order, with one put in or taken out.
use Rattle.std.proofs.Common.{◌≡◌, ℕ, ◌+◌, true, false, cond, List, [], ◌∷◌, ◌++◌, Option, Some, None, sym, ap, subst, ◌∙◌, refl, arith, inl, inr, add-zero}
use Rattle.std.specs.Prelude.{sum_by}
use Rattle.std.specs.List.{AllByRecursion}
use Rattle.std.specs.Option.{option_or}
use Rattle.std.proofs.lemmas.List.Folds.{find-append}
use Rattle.std.proofs.lemmas.List.Sums.{sum_by-append, sum_by-cons}
use Rattle.std.proofs.lemmas.Bool.{cases_Bool}
use Rattle.bng_base.specs.declared.circuit.TermId.{TermId}
use Rattle.bng_acct.specs.declared.held.Held.{Held}
use Rattle.bng_acct.specs.Roster.{before, same, of_term, Rises, Puts, Removes}
use Rattle.bng_acct.proofs.GoingOn.{all_both}
use Rattle.bng_acct.proofs.Rosters.{before_trans, before_is_other, after_is_other, same_is, is_same}

abbrev pub Before : TermId → List Held → Type 0
Before t hs = AllByRecursion (λ h. before h.term t ≡ true) hs

abbrev pub After : TermId → List Held → Type 0
After t hs = AllByRecursion (λ h. before t h.term ≡ true) hs

pub none_before : (t : TermId) (hs : List Held) → Before t hs → of_term t hs ≡ None
none_before t [] h = refl
none_before t (x ∷ hs) h = rw (before_is_other x.term t h.0) (none_before t hs h.1)

pub none_after : (t : TermId) (hs : List Held) → After t hs → of_term t hs ≡ None
none_after t [] h = refl
none_after t (x ∷ hs) h = rw (after_is_other x.term t h.0) (none_after t hs h.1)

before_all : (s t : TermId) (hs : List Held) → before s t ≡ true → After t hs → AllByRecursion (λ x. before s x.term ≡ true) hs
before_all s t [] p h = tt
before_all s t (x ∷ hs) p h = (before_trans s t x.term p h.0, before_all s t hs p h.1)

all_front : (P : Held → Type 0) (a b : List Held) → AllByRecursion P (a ++ b) → AllByRecursion P a
all_front P [] b h = tt
all_front P (y ∷ a) b h = (h.0, all_front P a b h.1)

pub rises_front : (a b : List Held) → Rises (a ++ b) → Rises a
rises_front [] b r = tt
rises_front (x ∷ a) b r = (all_front (λ y. before x.term y.term ≡ true) a b r.0, rises_front a b r.1)

pub rises_behind : (a b : List Held) → Rises (a ++ b) → Rises b
rises_behind [] b r = r
rises_behind (x ∷ a) b r = rises_behind a b r.1

join : (t : TermId) (a b : List Held) → Rises a → Rises b → Before t a → After t b → Rises (a ++ b)
join t [] b ra rb fa fb = rb
join t (x ∷ a) b ra rb fa fb = (all_both (λ y. before x.term y.term ≡ true) a b ra.0 (before_all x.term t b fa.0 fb), join t a b ra.1 rb fa.1 fb)

join_with : (h : Held) (a b : List Held) → Rises a → Rises b → Before h.term a → After h.term b → Rises (a ++ h ∷ b)
join_with h [] b ra rb fa fb = (fb, rb)
join_with h (x ∷ a) b ra rb fa fb =
    (all_both (λ y. before x.term y.term ≡ true) a (h ∷ b) ra.0 (fa.0, before_all x.term h.term b fa.0 fb), join_with h a b ra.1 rb fa.1 fb)

-- where it is another's term, what stands between makes no difference
pass_over : (h : Held) (a b : List Held) (u : TermId) → same h.term u ≡ false → of_term u (a ++ h ∷ b) ≡ of_term u (a ++ b)
pass_over h [] b u p = rw p refl
pass_over h (x ∷ a) b u p = ap (cond (same x.term u) (Some x)) (pass_over h a b u p)

pub of_here : (h : Held) (a b : List Held) → Before h.term a → of_term h.term (a ++ h ∷ b) ≡ Some h
of_here h a b fa =
    find-append (λ x. same x.term h.term) a (h ∷ b) ∙ ap (λ (r : Option Held). option_or r (of_term h.term (h ∷ b))) (none_before h.term a fa) ∙ rw (is_same h.term) refl

pub of_none : (t : TermId) (a b : List Held) → Before t a → After t b → of_term t (a ++ b) ≡ None
of_none t a b fa fb =
    find-append (λ x. same x.term t) a b ∙ ap (λ (r : Option Held). option_or r (of_term t b)) (none_before t a fa) ∙ none_after t b fb

sum-mid : (f : Held → ℕ) (a b : List Held) (h : Held) → sum_by f (a ++ h ∷ b) ≡ sum_by f (a ++ b) + f h
sum-mid f a b h = omega (arith, sum_by-append f a (h ∷ b), sum_by-append f a b, sum_by-cons f h b)

-- one put in
pub put_in : (h : Held) (a b : List Held) → Rises (a ++ b) → Before h.term a → After h.term b → Puts (a ++ b) (a ++ h ∷ b) h
put_in h a b r fa fb = record {
  rises = join_with h a b (rises_front a b r) (rises_behind a b r) fa fb;
  finds = λ u. elim (cases_Bool (same h.term u)) [
    | inl is ↦ rw is (subst (λ (v : TermId). of_term v (a ++ h ∷ b) ≡ Some h) (same_is h.term u is) (of_here h a b fa))
    | inr other ↦ rw other (pass_over h a b u other)
  ];
  sums = λ f. rw (of_none h.term a b fa fb) (omega (arith, sum-mid f a b h));
}

-- one taken out
pub take_out : (h : Held) (a b : List Held) → Rises (a ++ h ∷ b) → Before h.term a → After h.term b → Removes (a ++ h ∷ b) (a ++ b) h.term
take_out h a b r fa fb = record {
  rises = join h.term a b (rises_front a (h ∷ b) r) (rises_behind a (h ∷ b) r).1 fa fb;
  finds = λ u. elim (cases_Bool (same h.term u)) [
    | inl is ↦ rw is (subst (λ (v : TermId). of_term v (a ++ b) ≡ None) (same_is h.term u is) (of_none h.term a b fa fb))
    | inr other ↦ rw other (sym (pass_over h a b u other))
  ];
  sums = λ f. rw (of_here h a b fa) (sym (sum-mid f a b h));
}

-- one put in the place of another
pub put_over : (g h : Held) (a b : List Held) → g.term ≡ h.term → Rises (a ++ g ∷ b) → Before h.term a → After h.term b → Puts (a ++ g ∷ b) (a ++ h ∷ b) h
put_over g h a b e r fa fb =
    let front : Before g.term a = subst (λ (t : TermId). Before t a) (sym e) fa in
    let was : of_term h.term (a ++ g ∷ b) ≡ Some g = subst (λ (t : TermId). of_term t (a ++ g ∷ b) ≡ Some g) e (of_here g a b front) in
    record {
      rises = join_with h a b (rises_front a (g ∷ b) r) (rises_behind a (g ∷ b) r).1 fa fb;
      finds = λ u. elim (cases_Bool (same h.term u)) [
        | inl is ↦ rw is (subst (λ (v : TermId). of_term v (a ++ h ∷ b) ≡ Some h) (same_is h.term u is) (of_here h a b fa))
        | inr other ↦ rw other (pass_over h a b u other ∙ sym (pass_over g a b u (ap (λ (t : TermId). same t u) e ∙ other)))
      ];
      sums = λ f. rw was (omega (arith, sum-mid f a b h, sum-mid f a b g));
    }

-- nothing taken out
pub take_none : (t : TermId) (a b : List Held) → Rises (a ++ b) → Before t a → After t b → Removes (a ++ b) (a ++ b) t
take_none t a b r fa fb = record {
  rises = r;
  finds = λ u. elim (cases_Bool (same t u)) [
    | inl is ↦ rw is (subst (λ (v : TermId). of_term v (a ++ b) ≡ None) (same_is t u is) (of_none t a b fa fb))
    | inr other ↦ rw other refl
  ];
  sums = λ f. rw (of_none t a b fa fb) (add-zero (sum_by f (a ++ b)));
}

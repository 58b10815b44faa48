-- A term among those before and those after another.
use Rattle.std.proofs.Common.{◌≡◌, ◌+◌, ◌≤◌, Bool, true, false, cond, List, [], ◌∷◌, ◌++◌, length, Some, sym, ap, subst, ◌∙◌, refl, arith, length-append, append_assoc, append-nil}
use Rattle.std.specs.List.{AllByRecursion}
use Rattle.bng_base.specs.declared.circuit.TermId.{TermId}
use Rattle.bng_acct.specs.declared.held.Held.{Held}
use Rattle.bng_acct.specs.Roster.{before, same, of_term, Rises, Puts, Removes}
use Rattle.bng_acct.specs.Branch.{AreOf, Edits}
use Rattle.bng_acct.proofs.GoingOn.{all_both}
use Rattle.bng_acct.proofs.Rosters.{before_trans, before_is_other, otherwise_after, same_is, behinds}
use Rattle.bng_acct.proofs.RosterEdits.{Before, After, of_here, none_after, put_in, put_over, take_out, take_none, rises_front, rises_behind}

-- a term that comes neither before another nor after it is the same
pub neither : (a b : TermId) → before a b ≡ false → before b a ≡ false → a ≡ b
neither a b p q = by_same (same a b) refl
  where
    false_true : true ≡ false → ⊥
    false_true e = cc

    by_same : (s : Bool) → same a b ≡ s → a ≡ b
    by_same true e = same_is a b e
    by_same false e = absurd (false_true (sym (otherwise_after a b p e) ∙ q))

middle : (P : Held → Type 0) (l : List Held) (k : Held) (r : List Held) → AllByRecursion P (l ++ k ∷ r) → P k
middle P [] k r h = h.0
middle P (x ∷ l) k r h = middle P l k r h.1

-- what stands before a term, where it stands
pub fronts : (l : List Held) (k : Held) (r : List Held) → Rises (l ++ k ∷ r) → Before k.term l
fronts [] k r h = tt
fronts (x ∷ l) k r h = (middle (λ y. before x.term y.term ≡ true) l k r h.0, fronts l k r h.1)

pub fronts_after : (t : TermId) (l : List Held) (k : Held) → before k.term t ≡ true → Before k.term l → Before t l
fronts_after t [] k p h = tt
fronts_after t (x ∷ l) k p h = (before_trans x.term k.term t h.0 p, fronts_after t l k p h.1)

-- what stands behind a term, where it stands
pub behind_all : (l : List Held) (k : Held) (r : List Held) → Rises (l ++ k ∷ r) → After k.term r
behind_all l k r h = (rises_behind l (k ∷ r) h).0

pub left_rises : (l : List Held) (k : Held) (r : List Held) → Rises (l ++ k ∷ r) → Rises l
left_rises l k r h = rises_front l (k ∷ r) h

pub right_rises : (l : List Held) (k : Held) (r : List Held) → Rises (l ++ k ∷ r) → Rises r
right_rises l k r h = (rises_behind l (k ∷ r) h).1

pub left_after : (t : TermId) (l : List Held) (k : Held) (r : List Held) → Rises (l ++ k ∷ r) → before t k.term ≡ true → After t (k ∷ r)
left_after t l k r h p = (p, behinds t k r (rises_behind l (k ∷ r) h) p)

pub right_before : (t : TermId) (l : List Held) (k : Held) (r : List Held) → Rises (l ++ k ∷ r) → before k.term t ≡ true → Before t l
right_before t l k r h p = fronts_after t l k p (fronts l k r h)

of_left : (t : TermId) (l : List Held) (k : Held) (r : List Held) → After t (k ∷ r) → of_term t (l ++ k ∷ r) ≡ of_term t l
of_left t [] k r h = none_after t (k ∷ r) h
of_left t (x ∷ l) k r h = ap (cond (same x.term t) (Some x)) (of_left t l k r h)

of_right : (t : TermId) (l : List Held) (k : Held) (r : List Held) → Before t l → before k.term t ≡ true → of_term t (l ++ k ∷ r) ≡ of_term t r
of_right t [] k r h p = rw (before_is_other k.term t p) refl
of_right t (x ∷ l) k r h p = rw (before_is_other x.term t h.0) (of_right t l k r h.1 p)

-- where a term is to be sought
pub found_left : (t : TermId) (l : List Held) (k : Held) (r : List Held) → Rises (l ++ k ∷ r) → before t k.term ≡ true → of_term t (l ++ k ∷ r) ≡ of_term t l
found_left t l k r h p = of_left t l k r (left_after t l k r h p)

pub found_right : (t : TermId) (l : List Held) (k : Held) (r : List Held) → Rises (l ++ k ∷ r) → before k.term t ≡ true → of_term t (l ++ k ∷ r) ≡ of_term t r
found_right t l k r h p = of_right t l k r (right_before t l k r h p) p

pub found_here : (t : TermId) (l : List Held) (k : Held) (r : List Held) → Rises (l ++ k ∷ r) → before t k.term ≡ false → before k.term t ≡ false → of_term t (l ++ k ∷ r) ≡ Some k
found_here t l k r h p q = subst (λ (u : TermId). of_term u (l ++ k ∷ r) ≡ Some k) (sym (neither t k.term p q)) (of_here k l r (fronts l k r h))

-- an edit of one side is an edit of all
pub edits_left : (l l' : List Held) (k : Held) (r : List Held) (t : TermId) (here : List Held) → Rises (l ++ k ∷ r) → before t k.term ≡ true → Edits l l' t here → Edits (l ++ k ∷ r) (l' ++ k ∷ r) t here
edits_left l l' k r t here h p e = record {
  front = e.front;
  was = e.was;
  behind = e.behind ++ k ∷ r;
  old_is = ap (λ (x : List Held). x ++ k ∷ r) e.old_is ∙ grouped e.was;
  new_is = ap (λ (x : List Held). x ++ k ∷ r) e.new_is ∙ grouped here;
  was_all = e.was_all;
  front_all = e.front_all;
  behind_all = all_both (λ x. before t x.term ≡ true) e.behind (k ∷ r) e.behind_all (left_after t l k r h p);
}
  where
    grouped : (m : List Held) → (e.front ++ (m ++ e.behind)) ++ k ∷ r ≡ e.front ++ (m ++ (e.behind ++ k ∷ r))
    grouped m = append_assoc e.front (m ++ e.behind) (k ∷ r) ∙ ap (λ (x : List Held). e.front ++ x) (append_assoc m e.behind (k ∷ r))

pub edits_right : (l : List Held) (k : Held) (r r' : List Held) (t : TermId) (here : List Held) → Rises (l ++ k ∷ r) → before k.term t ≡ true → Edits r r' t here → Edits (l ++ k ∷ r) (l ++ k ∷ r') t here
edits_right l k r r' t here h p e = record {
  front = l ++ k ∷ e.front;
  was = e.was;
  behind = e.behind;
  old_is = ap (λ (x : List Held). l ++ k ∷ x) e.old_is ∙ sym (append_assoc l (k ∷ e.front) (e.was ++ e.behind));
  new_is = ap (λ (x : List Held). l ++ k ∷ x) e.new_is ∙ sym (append_assoc l (k ∷ e.front) (here ++ e.behind));
  was_all = e.was_all;
  front_all = all_both (λ x. before x.term t ≡ true) l (k ∷ e.front) (right_before t l k r h p) (p, e.front_all);
  behind_all = e.behind_all;
}

pub edits_here : (l : List Held) (k : Held) (r : List Held) (t : TermId) (here : List Held) → Rises (l ++ k ∷ r) → before t k.term ≡ false → before k.term t ≡ false → Edits (l ++ k ∷ r) (l ++ (here ++ r)) t here
edits_here l k r t here h p q =
    let e : k.term ≡ t = sym (neither t k.term p q) in
    record {
      front = l;
      was = k ∷ [];
      behind = r;
      old_is = refl;
      new_is = refl;
      was_all = e;
      front_all = subst (λ (u : TermId). Before u l) e (fronts l k r h);
      behind_all = subst (λ (u : TermId). After u r) e (behind_all l k r h);
    }

pub edits_nothing : (t : TermId) (here : List Held) → Edits [] here t here
edits_nothing t here = record { front = []; was = []; behind = []; old_is = refl; new_is = sym (append-nil here); was_all = tt; front_all = tt; behind_all = tt }

puts_in : (h : Held) (front was behind : List Held) → Rises (front ++ (was ++ behind)) → AreOf h.term was → Before h.term front → After h.term behind → Puts (front ++ (was ++ behind)) (front ++ h ∷ behind) h
puts_in h front [] behind r is fa fb = put_in h front behind r fa fb
puts_in h front (g ∷ []) behind r is fa fb = put_over g h front behind is r fa fb
puts_in h front (g ∷ x ∷ xs) behind r is fa fb = absurd is

takes : (t : TermId) (front was behind : List Held) → Rises (front ++ (was ++ behind)) → AreOf t was → Before t front → After t behind → Removes (front ++ (was ++ behind)) (front ++ behind) t
takes t front [] behind r is fa fb = take_none t front behind r fa fb
takes t front (g ∷ []) behind r is fa fb =
    subst (Removes (front ++ g ∷ behind) (front ++ behind)) is
    (take_out g front behind r (subst (λ (u : TermId). Before u front) (sym is) fa) (subst (λ (u : TermId). After u behind) (sym is) fb))
takes t front (g ∷ x ∷ xs) behind r is fa fb = absurd is

pub edited_puts : (old new : List Held) (h : Held) → Rises old → Edits old new h.term (h ∷ []) → Puts old new h
edited_puts old new h r e =
    let done = puts_in h e.front e.was e.behind (subst Rises e.old_is r) e.was_all e.front_all e.behind_all in
    subst (λ (x : List Held). Puts x new h) (sym e.old_is) (subst (λ (x : List Held). Puts (e.front ++ (e.was ++ e.behind)) x h) (sym e.new_is) done)

pub edited_removes : (old new : List Held) (t : TermId) → Rises old → Edits old new t [] → Removes old new t
edited_removes old new t r e =
    let done = takes t e.front e.was e.behind (subst Rises e.old_is r) e.was_all e.front_all e.behind_all in
    subst (λ (x : List Held). Removes x new t) (sym e.old_is) (subst (λ (x : List Held). Removes (e.front ++ (e.was ++ e.behind)) x t) (sym e.new_is) done)

pub length-edited : (old new : List Held) (t : TermId) (here : List Held) → Edits old new t here → length new ≤ length old + length here
length-edited old new t here e =
    omega (arith, ap length e.old_is, ap length e.new_is, length-append e.front (e.was ++ e.behind), length-append e.was e.behind, length-append e.front (here ++ e.behind), length-append here e.behind)

-- What is held where a record is open no longer.
use Rattle.std.proofs.Common.{◌≡◌, ℕ, ◌+◌, ◌≤◌, Bool, true, false, List, [], ◌∷◌, Option, Some, None, length, sym, ap, subst, ◌∙◌, refl, arith, inl, inr}
use Rattle.std.specs.Prelude.{sum_by, is_some, ◌||◌, MatchBool}
use Rattle.std.proofs.lemmas.Bool.{cases_Bool}
use Rattle.std.proofs.lemmas.List.Sums.{sum_by-cons}
use Rattle.bng_base.specs.declared.circuit.TermId.{TermId}
use Rattle.bng_acct.specs.declared.facts.StatusType.{StatusType}
use Rattle.bng_acct.specs.declared.facts.StatusType.TheVariants.{Start, Interim, Stop}
use Rattle.bng_acct.specs.declared.held.Held.{Held}
use Rattle.bng_acct.specs.Roster.{same, of_term, weight, Rises, Puts, Removes}
use Rattle.bng_acct.specs.Spool.{number_of, open_of, with_number, IsLiveOrStopped, is_kept, is_live, counted, open_count, stop_count, stops_in, Releases}
use Rattle.bng_acct.proofs.Rosters.{same_is}
use Rattle.bng_acct.proofs.Marks.{Marks, number_in, number_of-with, number_of-with_other, term-with, term_of, puts_marks, removes_marks, open_count-with, stop_count-without}
use Rattle.bng_acct.proofs.Agreeing.{puts_all, removes_all, stopped-without}

abbrev AllKept : List Held → Type 0
AllKept held = (t : TermId) (h : Held) → of_term t held ≡ Some h → is_kept h ≡ true

abbrev AllStopped : List Held → Type 0
AllStopped held = (t : TermId) (h : Held) → of_term t held ≡ Some h → IsLiveOrStopped h

pub record Released (old new : List Held) (t : TermId) (status : StatusType) : Type 0 where
  pub marks : Marks old new t status None
  pub kept : AllKept new
  pub stopped : AllStopped new
  pub rises : Rises new
  pub counts : sum_by open_count new + 1 ≡ sum_by open_count old
  pub stops : sum_by stop_count new + stops_in status ≡ sum_by stop_count old
  pub live : (u : TermId) → is_live (of_term u new) ≡ is_live (of_term u old)
  pub fewer : length new ≤ length old

ones : (hs : List Held) → sum_by (λ _. 1) hs ≡ length hs
ones [] = refl
ones (h ∷ hs) = omega (arith, sum_by-cons (λ (_ : Held). 1) h hs, ones hs)

none_there : (o : Option ℕ) → is_some o ≡ false → o ≡ None
none_there None h = refl
none_there (Some n) h = absurd cc

-- nothing is kept of it
pub record IsIdle (h : Held) : Type 0 where
  pub live : h.live ≡ false
  pub numbers : (s : StatusType) → number_of s h ≡ None

or_left : (a b : Bool) → (a || b) ≡ false → a ≡ false
or_left true b h = absurd cc
or_left false b h = refl

or_right : (a b : Bool) → (a || b) ≡ false → b ≡ false
or_right true b h = absurd cc
or_right false b h = h

idle : (h : Held) → is_kept h ≡ false → IsIdle h
idle h e =
    let three = or_left (h.live || is_some h.start || is_some h.interim) (is_some h.stop) e in
    let two = or_left (h.live || is_some h.start) (is_some h.interim) three in
    record {
      live = or_left h.live (is_some h.start) two;
      numbers = by_kind h (none_there h.start (or_right h.live (is_some h.start) two)) (none_there h.interim (or_right (h.live || is_some h.start) (is_some h.interim) three)) (none_there h.stop (or_right (h.live || is_some h.start || is_some h.interim) (is_some h.stop) e));
    }
  where
    by_kind : (h : Held) → h.start ≡ None → h.interim ≡ None → h.stop ≡ None → (s : StatusType) → number_of s h ≡ None
    by_kind h a b d Start = a
    by_kind h a b d Interim = b
    by_kind h a b d Stop = d

live-with : (s : StatusType) (n : Option ℕ) (h : Held) → (with_number s n h).live ≡ h.live
live-with Start n h = refl
live-with Interim n h = refl
live-with Stop n h = refl

module _ (old new : List Held) (t : TermId) (status : StatusType) (n : ℕ) (was : Held) (found : of_term t old ≡ Some was) (open_is : number_of status was ≡ Some n) (all_kept : AllKept old) (all_stopped : AllStopped old) where
  left_term : (with_number status None was).term ≡ t
  left_term = term-with status None was ∙ term_of t old was found

  was_weight : (f : Held → ℕ) → weight f (of_term (with_number status None was).term old) ≡ f was
  was_weight f = ap (λ (u : TermId). weight f (of_term u old)) left_term ∙ ap (weight f) found

  open_less : open_count (with_number status None was) + 1 ≡ open_count was
  open_less = omega (arith, open_count-with status None was, ap counted open_is)

  of_other : (s : StatusType) → number_of s was ≡ open_of (with_number status None was).term s old
  of_other s = ap (number_in s) (sym found) ∙ ap (λ (u : TermId). open_of u s old) (sym left_term)

  by_putting : is_kept (with_number status None was) ≡ true → Puts old new (with_number status None was) → Released old new t status
  by_putting kept p =
      let h = with_number status None was in
      record {
        marks = subst (λ (u : TermId). Marks old new u status None) left_term
            (puts_marks old new h status None p (number_of-with status None was) (λ s apart. number_of-with_other s status None was apart ∙ of_other s));
        kept = puts_all (λ x. is_kept x ≡ true) old new h p all_kept kept;
        stopped = puts_all IsLiveOrStopped old new h p all_stopped (stopped-without status was (all_stopped t was found));
        rises = p.rises;
        counts = omega (arith, p.sums open_count, was_weight open_count, open_less);
        stops = omega (arith, p.sums stop_count, was_weight stop_count, stop_count-without status n was open_is);
        live = λ u. elim (cases_Bool (same h.term u)) [
          | inl is ↦
              let here : of_term u new ≡ Some h = p.finds u ∙ rw is refl in
              let before : of_term u old ≡ Some was = ap (λ (v : TermId). of_term v old) (sym (same_is h.term u is) ∙ left_term) ∙ found in
              ap is_live here ∙ live-with status None was ∙ sym (ap is_live before)
          | inr apart ↦
              let same_as : of_term u new ≡ of_term u old = p.finds u ∙ rw apart refl in
              ap is_live same_as
        ];
        fewer = omega (arith, p.sums (λ _. 1), was_weight (λ _. 1), ones new, ones old);
      }

  by_removing : is_kept (with_number status None was) ≡ false → Removes old new (with_number status None was).term → Released old new t status
  by_removing kept p =
      let h = with_number status None was in
      let gone = idle h kept in
      let nothing : open_count h ≡ 0 = omega (arith, ap counted (gone.numbers Start), ap counted (gone.numbers Interim), ap counted (gone.numbers Stop)) in
      let no_stop : stop_count h ≡ 0 = ap counted (gone.numbers Stop) in
      record {
        marks = subst (λ (u : TermId). Marks old new u status None) left_term
            (removes_marks old new h.term status p (λ s apart. sym (of_other s) ∙ sym (number_of-with_other s status None was apart) ∙ gone.numbers s));
        kept = removes_all (λ x. is_kept x ≡ true) old new h.term p all_kept;
        stopped = removes_all IsLiveOrStopped old new h.term p all_stopped;
        rises = p.rises;
        counts = omega (arith, p.sums open_count, was_weight open_count, open_less, nothing);
        stops = omega (arith, p.sums stop_count, was_weight stop_count, stop_count-without status n was open_is, no_stop);
        live = λ u. elim (cases_Bool (same h.term u)) [
          | inl is ↦
              let here : of_term u new ≡ None = p.finds u ∙ rw is refl in
              let before : of_term u old ≡ Some was = ap (λ (v : TermId). of_term v old) (sym (same_is h.term u is) ∙ left_term) ∙ found in
              ap is_live here ∙ sym (sym (live-with status None was) ∙ gone.live) ∙ sym (ap is_live before)
          | inr apart ↦
              let same_as : of_term u new ≡ of_term u old = p.finds u ∙ rw apart refl in
              ap is_live same_as
        ];
        fewer = omega (arith, p.sums (λ _. 1), was_weight (λ _. 1), ones new, ones old);
      }

leaves : (old new : List Held) (t : TermId) (status : StatusType) (n : ℕ) (was : Held) → of_term t old ≡ Some was → number_of status was ≡ Some n → AllKept old → AllStopped old
    → (b : Bool) → is_kept (with_number status None was) ≡ b → MatchBool b (Puts old new (with_number status None was)) (Removes old new (with_number status None was).term) → Released old new t status
leaves old new t status n was found open_is kept stopped true e p = by_putting old new t status n was found open_is kept stopped e p
leaves old new t status n was found open_is kept stopped false e p = by_removing old new t status n was found open_is kept stopped e p

pub released : (old new : List Held) (t : TermId) (status : StatusType) (n : ℕ) → AllKept old → AllStopped old → open_of t status old ≡ Some n → Releases old new t status → Released old new t status
released old new t status n kept stopped marked r =
    leaves old new t status n r.was r.found (ap (number_in status) (sym r.found) ∙ marked) kept stopped (is_kept (with_number status None r.was)) refl r.leaves

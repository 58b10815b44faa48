-- The Starts and Interims below a number, forgotten.
use Rattle.std.proofs.Common.{◌≡◌, ◌≢◌, ℕ, ◌+◌, ◌≤◌, ◌<◌, Bool, true, false, cond, ◌||◌, List, [], ◌∷◌, Option, Some, None, length, eqb, sym, ap, subst, ◌∙◌, refl, arith, inl, inr}
use Rattle.std.specs.Prelude.{filter, nat_le}
use Rattle.std.specs.List.{AllByRecursion}
use Rattle.std.proofs.lemmas.Bool.{cases_Bool, cases_eq, cases_lt, ne_eqb, eq-eqb}
use Rattle.std.proofs.lemmas.Bool.Decides.{nat_tests}
use Rattle.bng_base.specs.declared.circuit.TermId.{TermId}
use Rattle.bng_acct.specs.declared.held.Held.{Held}
use Rattle.bng_acct.specs.declared.sheet.Sheet.{Sheet}
use Rattle.bng_acct.specs.Roster.{of_term}
use Rattle.bng_acct.specs.Queue.{sheet_at, Sets, without, AreWaiting, AllBelow, is_waiting}
use Rattle.bng_acct.specs.Spool.{State, Agree, ReleasesIfAny, is_live, is_stop_sheet, only_stop}
use Rattle.bng_acct.proofs.Releasing.{released}

abbrev pub stays : List (Option Sheet) → ℕ → ℕ → Bool
stays sheets k n = nat_le k n || is_stop_sheet (sheet_at sheets n)

pub record Forgets (old now : State) (k : ℕ) : Type 0 where
  pub below : (n : ℕ) → n < k → sheet_at now.sheets n ≡ only_stop (sheet_at old.sheets n)
  pub above : (n : ℕ) → k ≤ n → sheet_at now.sheets n ≡ sheet_at old.sheets n
  pub waiting : now.waiting ≡ filter (stays old.sheets k) old.waiting
  pub live : (t : TermId) → is_live (of_term t now.held) ≡ is_live (of_term t old.held)
  pub fewer : length now.held ≤ length old.held
  pub agree : Agree now.sheets now.held
  pub rules : now.rules ≡ old.rules

le_self : (k : ℕ) → nat_le k k ≡ true
le_self k = grind (arith, nat_tests)

le_next : (k : ℕ) → nat_le (k + 1) k ≡ false
le_next k = grind (arith, nat_tests)

le_other : (k n : ℕ) → n ≢ k → nat_le (k + 1) n ≡ nat_le k n
le_other k n e = grind (arith, nat_tests)

le_zero : (n : ℕ) → nat_le 0 n ≡ true
le_zero n = grind (arith, nat_tests)

le_above : (b n : ℕ) → n < b → nat_le b n ≡ false
le_above b n h = grind (arith, nat_tests)

filter_as : (p q : ℕ → Bool) (xs : List ℕ) → AllByRecursion (λ x. p x ≡ q x) xs → filter p xs ≡ filter q xs
filter_as p q [] h = refl
filter_as p q (x ∷ xs) h = rw h.0 (ap (λ (r : List ℕ). cond (q x) (x ∷ r) r) (filter_as p q xs h.1))

everywhere : (P : ℕ → Type 0) → ((x : ℕ) → P x) → (xs : List ℕ) → AllByRecursion P xs
everywhere P h [] = tt
everywhere P h (x ∷ xs) = (h x, everywhere P h xs)

filter_true : (p : ℕ → Bool) (xs : List ℕ) → ((x : ℕ) → p x ≡ true) → filter p xs ≡ xs
filter_true p [] h = refl
filter_true p (x ∷ xs) h = rw (h x) (ap (λ (r : List ℕ). x ∷ r) (filter_true p xs h))

pub forgets_none : (s : State) → Agree s.sheets s.held → Forgets s s 0
forgets_none s a = record {
  below = λ n h. absurd (omega arith);
  above = λ n h. refl;
  waiting = sym (filter_true (stays s.sheets 0) s.waiting (λ n. rw (le_zero n) refl));
  live = λ t. refl;
  fewer = omega arith;
  agree = a;
  rules = refl;
}

same_test : (sheets : List (Option Sheet)) (k n : ℕ) → n ≢ k → stays sheets k n ≡ stays sheets (k + 1) n
same_test sheets k n e = ap (λ (b : Bool). b || is_stop_sheet (sheet_at sheets n)) (sym (le_other k n e))

-- a Stop stays
pub forgets_stop : (old now : State) (k : ℕ) → Forgets old now k → is_stop_sheet (sheet_at now.sheets k) ≡ true → Forgets old now (k + 1)
forgets_stop old now k f is =
    let here : is_stop_sheet (sheet_at old.sheets k) ≡ true = ap is_stop_sheet (sym (f.above k (omega arith))) ∙ is in
    record {
      below = λ n h. elim (cases_eq n k) [
        | inl e ↦ ap (sheet_at now.sheets) e ∙ f.above k (omega arith) ∙ sym (ap (λ (m : ℕ). only_stop (sheet_at old.sheets m)) e ∙ rw here refl)
        | inr apart ↦ f.below n (omega (arith, h, apart))
      ];
      above = λ n h. f.above n (omega (arith, h));
      waiting = f.waiting ∙ filter_as (stays old.sheets k) (stays old.sheets (k + 1)) old.waiting
          (everywhere (λ n. stays old.sheets k n ≡ stays old.sheets (k + 1) n) (λ n. test n here) old.waiting);
      live = f.live;
      fewer = f.fewer;
      agree = f.agree;
      rules = f.rules;
    }
  where
    test : (n : ℕ) → is_stop_sheet (sheet_at old.sheets k) ≡ true → stays old.sheets k n ≡ stays old.sheets (k + 1) n
    test n here = elim (cases_eq n k) [
      | inl e ↦ subst (λ (m : ℕ). stays old.sheets k m ≡ stays old.sheets (k + 1) m) (sym e) (rw (le_self k, le_next k, here) refl)
      | inr apart ↦ same_test old.sheets k n apart
    ]

one_less : (sheets : List (Option Sheet)) (k : ℕ) → is_stop_sheet (sheet_at sheets k) ≡ false → (ws : List ℕ) → without k (filter (stays sheets k) ws) ≡ filter (stays sheets (k + 1)) ws
one_less sheets k no_stop [] = refl
one_less sheets k no_stop (n ∷ ws) = elim (cases_eq n k) [
  | inl e ↦
      let kept : stays sheets k n ≡ true = subst (λ (m : ℕ). stays sheets k m ≡ true) (sym e) (rw (le_self k) refl) in
      let gone : stays sheets (k + 1) n ≡ false = subst (λ (m : ℕ). stays sheets (k + 1) m ≡ false) (sym e) (rw (le_next k, no_stop) refl) in
      let same_number : eqb n k ≡ true = eq-eqb n k e in
      rw (kept, gone, same_number) (one_less sheets k no_stop ws)
  | inr apart ↦
      let test = same_test sheets k n apart in
      let other_number : eqb n k ≡ false = ne_eqb n k apart in
      elim (cases_Bool (stays sheets (k + 1) n)) [
        | inl stays_there ↦ rw (test ∙ stays_there, stays_there, other_number) (ap (λ (r : List ℕ). n ∷ r) (one_less sheets k no_stop ws))
        | inr goes ↦ rw (test ∙ goes, goes) (one_less sheets k no_stop ws)
      ]
]

held_more : (old now : State) (o : Option Sheet) (k : ℕ) → Agree old.sheets old.held → sheet_at old.sheets k ≡ o → ReleasesIfAny old.held now.held o
    → ((t : TermId) → is_live (of_term t now.held) ≡ is_live (of_term t old.held)) × (length now.held ≤ length old.held)
held_more old now None k a e r = (λ t. ap (λ (h : List Held). is_live (of_term t h)) r, omega (arith, ap length r))
held_more old now (Some x) k a e r =
    let done = released old.held now.held x.record.facts.term x.record.status k a.kept a.stopped (a.marked k x e) r in
    (done.live, done.fewer)

-- any other record goes
pub forgets_other : (old now next : State) (k : ℕ) → Forgets old now k → is_stop_sheet (sheet_at now.sheets k) ≡ false → Sets now.sheets next.sheets k None → next.waiting ≡ without k now.waiting
    → ReleasesIfAny now.held next.held (sheet_at now.sheets k) → Agree next.sheets next.held → next.rules ≡ now.rules → Forgets old next (k + 1)
forgets_other old now next k f no_stop sets waiting terms agree rules =
    let here : is_stop_sheet (sheet_at old.sheets k) ≡ false = ap is_stop_sheet (sym (f.above k (omega arith))) ∙ no_stop in
    let more = held_more now next (sheet_at now.sheets k) k f.agree refl terms in
    record {
      below = λ n h. elim (cases_eq n k) [
        | inl e ↦ ap (sheet_at next.sheets) e ∙ sets.changed ∙ sym (ap (λ (m : ℕ). only_stop (sheet_at old.sheets m)) e ∙ rw here refl)
        | inr apart ↦ sets.others n apart ∙ f.below n (omega (arith, h, apart))
      ];
      above = λ n h. sets.others n (λ e. absurd (omega (arith, h, e))) ∙ f.above n (omega (arith, h));
      waiting = waiting ∙ ap (without k) f.waiting ∙ one_less old.sheets k here old.waiting;
      live = λ t. more.0 t ∙ f.live t;
      fewer = omega (arith, more.1, f.fewer);
      agree = agree;
      rules = rules ∙ f.rules;
    }

below_all : (sheets : List (Option Sheet)) (b : ℕ) → AllBelow sheets b → (ws : List ℕ) → AllByRecursion (λ n. is_waiting (sheet_at sheets n) ≡ true) ws
    → AllByRecursion (λ n. stays sheets b n ≡ is_stop_sheet (sheet_at sheets n)) ws
below_all sheets b all [] h = tt
below_all sheets b all (n ∷ ws) h = (ap (λ (x : Bool). x || is_stop_sheet (sheet_at sheets n)) (le_above b n (under (sheet_at sheets n) refl h.0)), below_all sheets b all ws h.1)
  where
    under : (o : Option Sheet) → sheet_at sheets n ≡ o → is_waiting o ≡ true → n < b
    under None e w = absurd cc
    under (Some x) e w = all n x e

pub forgets_waiting : (old now : State) (b : ℕ) → Forgets old now b → AllBelow old.sheets b → AreWaiting old.sheets old.waiting → now.waiting ≡ filter (λ n. is_stop_sheet (sheet_at old.sheets n)) old.waiting
forgets_waiting old now b f all w = f.waiting ∙ filter_as (stays old.sheets b) (λ n. is_stop_sheet (sheet_at old.sheets n)) old.waiting (below_all old.sheets b all old.waiting w.each)

past : (sheets : List (Option Sheet)) (b n : ℕ) (o : Option Sheet) → AllBelow sheets b → sheet_at sheets n ≡ o → b ≤ n → o ≡ only_stop o
past sheets b n None all e h = refl
past sheets b n (Some x) all e h = absurd (let under = all n x e in omega (arith, under, h))

pub forgets_sheets : (old now : State) (b : ℕ) → Forgets old now b → AllBelow old.sheets b → (n : ℕ) → sheet_at now.sheets n ≡ only_stop (sheet_at old.sheets n)
forgets_sheets old now b f all n = elim (cases_lt n b) [
  | inl less ↦ f.below n less
  | inr more ↦ f.above n more ∙ past old.sheets b n (sheet_at old.sheets n) all refl more
]

-- Records and what is held of their terms agree.
use Rattle.std.proofs.Common.{◌≡◌, ◌≢◌, ℕ, ◌+◌, ◌*◌, ◌≤◌, ◌<◌, ◌⊎◌, true, false, List, Option, Some, None, length, sym, ap, subst, ◌∙◌, refl, arith, inl, inr}
use Rattle.std.specs.Prelude.{sum_by, IsSome}
use Rattle.std.proofs.lemmas.Bool.{cases_Bool, cases_eq}
use Rattle.bng_base.specs.declared.circuit.TermId.{TermId}
use Rattle.bng_acct.specs.declared.facts.StatusType.{StatusType}
use Rattle.bng_acct.specs.declared.facts.StatusType.TheVariants.{Start, Interim, Stop}
use Rattle.bng_acct.specs.declared.held.Held.{Held}
use Rattle.bng_acct.specs.declared.sheet.Sheet.{Sheet}
use Rattle.bng_acct.specs.Roster.{same, of_term, weight, Rises, Puts, Removes}
use Rattle.bng_acct.specs.Queue.{sheet_at, Sets}
use Rattle.bng_acct.specs.Spool.{number_of, open_of, with_number, is_kept, or_unknown, ended_by, counted, open_count, stop_count, stops_in, IsLiveOrStopped, Agree, IsReady}
use Rattle.bng_acct.proofs.Rosters.{same_is, is_same}
use Rattle.bng_acct.proofs.Marks.{equal, other as differs, same_kind, Marks, number_in, formed, term-formed, open_count-with, open_count-ended_by, stop_count-with, number_of-ended_by, number_of-or_unknown, open_count_le, sum_le, sum_with_le}

some_sheet : (a b : Sheet) → Some a ≡ Some b → a ≡ b
some_sheet a b e = cc

some_number : (a b : ℕ) → Some a ≡ Some b → a ≡ b
some_number a b e = cc

no_number : (k : ℕ) → Some k ≡ None → ⊥
no_number k e = cc

no_sheet : (x : Sheet) → Some x ≡ None → ⊥
no_sheet x e = cc

-- of one term and one kind, or not
decide : (t u : TermId) (status s : StatusType) → ((u ≡ t) × (s ≡ status)) ⊎ (u ≡ t → s ≡ status → ⊥)
decide t u status s = elim (cases_Bool (same u t)) [
  | inl is ↦ elim (same_kind s status) [ equal e ↦ inl (same_is u t is, e) | differs d ↦ inr (λ _ e. d e) ]
  | inr not_same ↦ inr (λ e _. false_true (sym not_same ∙ ap (λ (v : TermId). same v t) e ∙ is_same t))
]
  where
    false_true : false ≡ true → ⊥
    false_true e = cc

pub agree_more : (ss ss' : List (Option Sheet)) (old new : List Held) (x : Sheet) (n : ℕ) → Agree ss old
    → sheet_at ss n ≡ None → Sets ss ss' n (Some x) → open_of x.record.facts.term x.record.status old ≡ None → Marks old new x.record.facts.term x.record.status (Some n)
    → ((t : TermId) (h : Held) → of_term t new ≡ Some h → is_kept h ≡ true) → ((t : TermId) (h : Held) → of_term t new ≡ Some h → IsLiveOrStopped h) → Rises new → Agree ss' new
agree_more ss ss' old new x n a free sets closed m kept stopped rises =
    let t = x.record.facts.term in
    let status = x.record.status in
    record {
      marked = λ k y e. elim (cases_eq k n) [
        | inl is ↦
            let same_sheet : Some x ≡ Some y = sym sets.changed ∙ ap (sheet_at ss') (sym is) ∙ e in
            subst (λ (z : Sheet). open_of z.record.facts.term z.record.status new ≡ Some k) (some_sheet x y same_sheet) (m.hit ∙ ap (λ (i : ℕ). Some i) (sym is))
        | inr apart ↦
            let was : open_of y.record.facts.term y.record.status old ≡ Some k = a.marked k y (sym (sets.others k apart) ∙ e) in
            m.misses y.record.facts.term y.record.status (λ p q. no_number k (sym was ∙ ap (λ (u : TermId). open_of u y.record.status old) p ∙ ap (λ (s : StatusType). open_of t s old) q ∙ closed)) ∙ was
      ];
      opened = λ u s k e. elim (decide t u status s) [
        | inl both ↦
            let hit : open_of t status new ≡ Some k = ap (λ (r : StatusType). open_of t r new) (sym both.1) ∙ ap (λ (v : TermId). open_of v s new) (sym both.0) ∙ e in
            (x, ap (sheet_at ss') (some_number k n (sym hit ∙ m.hit)) ∙ sets.changed, sym both.0, sym both.1)
        | inr apart ↦
            let was = a.opened u s k (sym (m.misses u s apart) ∙ e) in
            (was.0, sets.others k (λ is. no_sheet was.0 (sym was.1 ∙ ap (sheet_at ss) is ∙ free)) ∙ was.1, was.2, was.3)
      ];
      kept = kept;
      stopped = stopped;
      each_once = rises;
    }

pub agree_less : (ss ss' : List (Option Sheet)) (old new : List Held) (x : Sheet) (n : ℕ) → Agree ss old
    → sheet_at ss n ≡ Some x → Sets ss ss' n None → Marks old new x.record.facts.term x.record.status None
    → ((t : TermId) (h : Held) → of_term t new ≡ Some h → is_kept h ≡ true) → ((t : TermId) (h : Held) → of_term t new ≡ Some h → IsLiveOrStopped h) → Rises new → Agree ss' new
agree_less ss ss' old new x n a here sets m kept stopped rises =
    let t = x.record.facts.term in
    let status = x.record.status in
    record {
      marked = λ k y e. elim (cases_eq k n) [
        | inl is ↦ absurd (no_sheet y (sym e ∙ ap (sheet_at ss') is ∙ sets.changed))
        | inr apart ↦
            let was : open_of y.record.facts.term y.record.status old ≡ Some k = a.marked k y (sym (sets.others k apart) ∙ e) in
            m.misses y.record.facts.term y.record.status
            (λ p q. apart (some_number k n (sym was ∙ ap (λ (u : TermId). open_of u y.record.status old) p ∙ ap (λ (s : StatusType). open_of t s old) q ∙ a.marked n x here))) ∙ was
      ];
      opened = λ u s k e. elim (decide t u status s) [
        | inl both ↦
            let hit : open_of t status new ≡ Some k = ap (λ (r : StatusType). open_of t r new) (sym both.1) ∙ ap (λ (v : TermId). open_of v s new) (sym both.0) ∙ e in
            absurd (no_number k (sym hit ∙ m.hit))
        | inr apart ↦
            let was = a.opened u s k (sym (m.misses u s apart) ∙ e) in
            let elsewhere : k ≢ n = λ is.
            let y : was.0 ≡ x = some_sheet was.0 x (sym was.1 ∙ ap (sheet_at ss) is ∙ here) in
            apart (sym was.2 ∙ ap (λ (z : Sheet). z.record.facts.term) y) (sym was.3 ∙ ap (λ (z : Sheet). z.record.status) y) in
            (was.0, sets.others k elsewhere ∙ was.1, was.2, was.3)
      ];
      kept = kept;
      stopped = stopped;
      each_once = rises;
    }

-- what holds of all that is held, and of what was put in
pub puts_all : (P : Held → Type 0) (old new : List Held) (h : Held) → Puts old new h → ((t : TermId) (x : Held) → of_term t old ≡ Some x → P x) → P h → (t : TermId) (x : Held) → of_term t new ≡ Some x → P x
puts_all P old new h p all here t x e = elim (cases_Bool (same h.term t)) [
  | inl is ↦ subst P (some_held h x (sym (p.finds t ∙ rw is refl) ∙ e)) here
  | inr apart ↦ all t x (sym (p.finds t ∙ rw apart refl) ∙ e)
]
  where
    some_held : (a b : Held) → Some a ≡ Some b → a ≡ b
    some_held a b e = cc

pub removes_all : (P : Held → Type 0) (old new : List Held) (u : TermId) → Removes old new u → ((t : TermId) (x : Held) → of_term t old ≡ Some x → P x) → (t : TermId) (x : Held) → of_term t new ≡ Some x → P x
removes_all P old new u p all t x e = elim (cases_Bool (same u t)) [
  | inl is ↦ absurd (no_held x (sym e ∙ p.finds t ∙ rw is refl))
  | inr apart ↦ all t x (sym (p.finds t ∙ rw apart refl) ∙ e)
]
  where
    no_held : (x : Held) → Some x ≡ None → ⊥
    no_held x e = cc

stopped-with : (status : StatusType) (n : ℕ) (h : Held) → IsLiveOrStopped h → IsLiveOrStopped (with_number status (Some n) (ended_by status h))
stopped-with Start n h s = s
stopped-with Interim n h s = s
stopped-with Stop n h s = λ live. absurd cc

pub stopped-without : (status : StatusType) (h : Held) → IsLiveOrStopped h → IsLiveOrStopped (with_number status None h)
stopped-without Start h s = s
stopped-without Interim h s = s
stopped-without Stop h s = λ live. refl

stopped-or_unknown : (t : TermId) (o : Option Held) → ((h : Held) → o ≡ Some h → IsLiveOrStopped h) → IsLiveOrStopped (or_unknown t o)
stopped-or_unknown t None all = λ live. refl
stopped-or_unknown t (Some h) all = all h refl

-- a term that is live has no open Stop where a record of it was formed
pub stopped-formed : (status : StatusType) (n : ℕ) (t : TermId) (old : List Held) → ((u : TermId) (h : Held) → of_term u old ≡ Some h → IsLiveOrStopped h) → IsLiveOrStopped (formed status n t old)
stopped-formed status n t old all = stopped-with status n (or_unknown t (of_term t old)) (stopped-or_unknown t (of_term t old) (all t))

some_of : {X : Type 0} (o : Option X) → IsSome o → (x : X) × (o ≡ Some x)
some_of None h = absurd cc
some_of (Some x) h = (x, refl)

-- there is room for one more record of a kind of which none is open
weight_known : (f : Held → ℕ) (t : TermId) (o : Option Held) → f (or_unknown t None) ≡ 0 → weight f o ≡ f (or_unknown t o)
weight_known f t None z = sym z
weight_known f t (Some h) z = refl

pub room_for_one : (t : TermId) (status : StatusType) (held : List Held) (terms : ℕ) → open_of t status held ≡ None → IsSome (of_term t held) ⊎ (length held < terms) → length held ≤ terms
    → sum_by open_count held < 3 * terms
room_for_one t status held terms closed (inr more) few = omega (arith, sum_le open_count 3 open_count_le held, more)
room_for_one t status held terms closed (inl there) few =
    let s = some_of (of_term t held) there in
    let h : Held = s.0 in
    let one = open_count-with status (Some 0) h in
    let none : counted (number_of status h) ≡ 0 = ap counted (ap (number_in status) (sym s.1) ∙ closed) in
    omega (arith, sum_with_le open_count 3 open_count_le t held h s.1, one, none, open_count_le (with_number status (Some 0) h), few)

-- a record more is a mark more
pub counts_more : (old new : List Held) (t : TermId) (status : StatusType) (n : ℕ) → Puts old new (formed status n t old) → open_of t status old ≡ None
    → sum_by open_count new ≡ sum_by open_count old + 1
counts_more old new t status n p closed =
    let o = of_term t old in
    let base = or_unknown t o in
    let ended = ended_by status base in
    let none : counted (number_of status ended) ≡ 0 = ap counted (number_of-ended_by status status base ∙ number_of-or_unknown status t o ∙ closed) in
    let before : weight open_count (of_term (formed status n t old).term old) ≡ open_count base = ap (λ (u : TermId). weight open_count (of_term u old)) (term-formed status n t old) ∙ weight_known open_count t o refl in
    omega (arith, p.sums open_count, open_count-with status (Some n) ended, open_count-ended_by status base, none, before)

pub stops_more : (old new : List Held) (t : TermId) (status : StatusType) (n : ℕ) → Puts old new (formed status n t old) → open_of t status old ≡ None
    → sum_by stop_count new ≡ sum_by stop_count old + stops_in status
stops_more old new t status n p closed =
    let o = of_term t old in
    let base = or_unknown t o in
    let none : number_of status base ≡ None = number_of-or_unknown status t o ∙ closed in
    let before : weight stop_count (of_term (formed status n t old).term old) ≡ stop_count base = ap (λ (u : TermId). weight stop_count (of_term u old)) (term-formed status n t old) ∙ weight_known stop_count t o refl in
    omega (arith, p.sums stop_count, stop_count-with status n base none, before)

abbrev pub AreReady : List (Option Sheet) → Type 0
AreReady ss = (n : ℕ) (x : Sheet) → sheet_at ss n ≡ Some x → IsReady x.record

pub ready_more : (ss ss' : List (Option Sheet)) (n : ℕ) (x : Sheet) → AreReady ss → Sets ss ss' n (Some x) → IsReady x.record → AreReady ss'
ready_more ss ss' n x ready sets here = λ k y e. elim (cases_eq k n) [
  | inl is ↦
      let same_sheet : Some x ≡ Some y = sym sets.changed ∙ ap (sheet_at ss') (sym is) ∙ e in
      subst (λ (z : Sheet). IsReady z.record) (some_sheet x y same_sheet) here
  | inr apart ↦ ready k y (sym (sets.others k apart) ∙ e)
]

pub ready_less : (ss ss' : List (Option Sheet)) (n : ℕ) → AreReady ss → Sets ss ss' n None → AreReady ss'
ready_less ss ss' n ready sets = λ k y e. elim (cases_eq k n) [
  | inl is ↦ absurd (no_sheet y (sym e ∙ ap (sheet_at ss') is ∙ sets.changed))
  | inr apart ↦ ready k y (sym (sets.others k apart) ∙ e)
]

pub none_some : {X : Type 0} (o : Option X) → o ≡ None → IsSome o → ⊥
none_some None e h = cc
none_some (Some x) e h = cc

-- a record that is handed out is the same record
pub agree_same : (ss ss' : List (Option Sheet)) (held : List Held) (x : Sheet) (n : ℕ) → Agree ss held → sheet_at ss n ≡ Some x → Sets ss ss' n (Some (record x { handed = true })) → Agree ss' held
agree_same ss ss' held x n a was sets =
    let out : Sheet = record x { handed = true } in
    record {
      marked = λ k y e. elim (cases_eq k n) [
        | inl is ↦
            let same_sheet : Some out ≡ Some y = sym sets.changed ∙ ap (sheet_at ss') (sym is) ∙ e in
            subst (λ (z : Sheet). open_of z.record.facts.term z.record.status held ≡ Some k) (some_sheet out y same_sheet) (a.marked n x was ∙ ap (λ (i : ℕ). Some i) (sym is))
        | inr apart ↦ a.marked k y (sym (sets.others k apart) ∙ e)
      ];
      opened = λ u s k e.
          let before = a.opened u s k e in
          elim (cases_eq k n) [
            | inl is ↦
                let y : before.0 ≡ x = some_sheet before.0 x (sym before.1 ∙ ap (sheet_at ss) is ∙ was) in
                (out, ap (sheet_at ss') is ∙ sets.changed, ap (λ (z : Sheet). z.record.facts.term) (sym y) ∙ before.2, ap (λ (z : Sheet). z.record.status) (sym y) ∙ before.3)
            | inr apart ↦ (before.0, sets.others k apart ∙ before.1, before.2, before.3)
          ];
      kept = a.kept;
      stopped = a.stopped;
      each_once = a.each_once;
    }

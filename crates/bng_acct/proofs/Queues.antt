-- Numbers of records that wait.
use Rattle.std.proofs.Common.{◌≡◌, ◌≢◌, ℕ, zero, suc, inl, inr, ◌≤◌, ◌<◌, Bool, true, false, not, cond, List, [], ◌∷◌, ◌++◌, length, set, Option, Some, None, eqb, sym, ap, subst, ◌∙◌, refl, arith}
use Rattle.std.specs.Prelude.{is_some, slice_get}
use Rattle.std.specs.List.{AllByRecursion}
use Rattle.std.proofs.lemmas.List.{get_or-set_other}
use Rattle.std.proofs.lemmas.List.Sums.{sum_by-set}
use Rattle.std.proofs.lemmas.Bool.{ne_eqb, eq-eqb, cases_Bool, cases_eq, eqb-false}
use Rattle.bng_acct.specs.declared.sheet.Sheet.{Sheet}
use Rattle.bng_acct.specs.Queue.{sheet_at, count, is_waiting, Apart, AreWaiting, IsIn, AllWait, Sets, without, AllBelow}

within : (sheets : List (Option Sheet)) (n : ℕ) → is_some (sheet_at sheets n) ≡ true → n < length sheets
within [] n h = absurd cc
within (x ∷ sheets) zero h = omega arith
within (x ∷ sheets) (suc n) h = omega (arith, within sheets n h)

is_there : (x : Option Sheet) → is_waiting x ≡ true → is_some x ≡ true
is_there None h = absurd cc
is_there (Some x) h = refl

abbrev Each : List (Option Sheet) → List ℕ → Type 0
Each sheets ns = AllByRecursion (λ n. is_waiting (sheet_at sheets n) ≡ true) ns

-- what does not touch them leaves them waiting
each_other : (old new : List (Option Sheet)) (n : ℕ) → ((m : ℕ) → m ≢ n → sheet_at new m ≡ sheet_at old m) → (ns : List ℕ) → AllByRecursion (λ m. m ≢ n) ns → Each old ns → Each new ns
each_other old new n same [] apart h = tt
each_other old new n same (m ∷ ns) apart h = (ap is_waiting (same m apart.0) ∙ h.0, each_other old new n same ns apart.1 h.1)

pub others : (sheets : List (Option Sheet)) (n : ℕ) → is_waiting (sheet_at sheets n) ≡ false → (ns : List ℕ) → Each sheets ns → AllByRecursion (λ m. m ≢ n) ns
others sheets n not_it [] h = tt
others sheets n not_it (m ∷ ns) h = (λ (e : m ≡ n). absurd (differ (sheet_at sheets m) h.0 (ap (λ (k : ℕ). is_waiting (sheet_at sheets k)) e ∙ not_it)), others sheets n not_it ns h.1)
  where
    differ : (x : Option Sheet) → is_waiting x ≡ true → is_waiting x ≡ false → ⊥
    differ x p q = cc

abbrev counted : Bool → ℕ
counted b = cond b 1 0

-- as many records are there as wait, or more
pub waiting_le_count : (ns : List ℕ) (sheets : List (Option Sheet)) → AreWaiting sheets ns → length ns ≤ count sheets
waiting_le_count [] sheets h = omega arith
waiting_le_count (n ∷ ns) sheets h =
    let there : is_some (sheet_at sheets n) ≡ true = is_there (sheet_at sheets n) h.each.0 in
    let less = set sheets n None in
    let rest = waiting_le_count ns less (record { each = each_other sheets less n (λ m e. get_or-set_other sheets n m None None e) ns h.apart.0 h.each.1; apart = h.apart.1 }) in
    let removed = sum_by-set (λ (x : Option Sheet). cond (is_some x) 1 0) sheets n None None (within sheets n there) in
    let one = ap counted there in
    omega (arith, rest, removed, one)

pub apart-push : (ns : List ℕ) (n : ℕ) → Apart ns → AllByRecursion (λ m. m ≢ n) ns → Apart (ns ++ n ∷ [])
apart-push [] n a o = (tt, tt)
apart-push (m ∷ ns) n a o = (all_push ns a.0 (λ e. o.0 (sym e)), apart-push ns n a.1 o.1)
  where
    all_push : (ns : List ℕ) → AllByRecursion (λ k. k ≢ m) ns → n ≢ m → AllByRecursion (λ k. k ≢ m) (ns ++ n ∷ [])
    all_push [] h e = (e, tt)
    all_push (k ∷ ns) h e = (h.0, all_push ns h.1 e)

each-push : (sheets : List (Option Sheet)) (ns : List ℕ) (n : ℕ) → Each sheets ns → is_waiting (sheet_at sheets n) ≡ true → Each sheets (ns ++ n ∷ [])
each-push sheets [] n h p = (p, tt)
each-push sheets (m ∷ ns) n h p = (h.0, each-push sheets ns n h.1 p)

-- one more that waits
pub waits_more : (old new : List (Option Sheet)) (ns : List ℕ) (n : ℕ) (x : Sheet) → AreWaiting old ns → sheet_at old n ≡ None → Sets old new n (Some x) → x.handed ≡ false
    → AreWaiting new (ns ++ n ∷ [])
waits_more old new ns n x h free sets fresh =
    let o = others old n (ap is_waiting free) ns h.each in
    record {
      each = each-push new ns n (each_other old new n sets.others ns o h.each) (ap is_waiting sets.changed ∙ ap not fresh);
      apart = apart-push ns n h.apart o;
    }

-- the first waits no longer
pub waits_less : (old new : List (Option Sheet)) (ns : List ℕ) (n : ℕ) → AreWaiting old (n ∷ ns) → ((m : ℕ) → m ≢ n → sheet_at new m ≡ sheet_at old m) → AreWaiting new ns
waits_less old new ns n h same = record { each = each_other old new n same ns h.apart.0 h.each.1; apart = h.apart.1 }

pub without-others : (ns : List ℕ) (n : ℕ) → AllByRecursion (λ m. m ≢ n) ns → without n ns ≡ ns
without-others [] n o = refl
without-others (m ∷ ns) n o = rw (ne_eqb m n o.0) (ap (λ (r : List ℕ). m ∷ r) (without-others ns n o.1))

pub unhanded-without : (sheets : List (Option Sheet)) (ns : List ℕ) (n : ℕ) → AreWaiting sheets ns → is_waiting (sheet_at sheets n) ≡ false → without n ns ≡ ns
unhanded-without sheets ns n h p = without-others ns n (others sheets n p ns h.each)

pub apart-of : (ns : List ℕ) (n : ℕ) → AllByRecursion (λ m. m ≢ n) (without n ns)
apart-of [] n = tt
apart-of (m ∷ ns) n = elim (cases_Bool (eqb m n)) [
  | inl is ↦ rw is (apart-of ns n)
  | inr other ↦ rw other (eqb-false m n other, apart-of ns n)
]

pub part : (P : ℕ → Type 0) (ns : List ℕ) (n : ℕ) → AllByRecursion P ns → AllByRecursion P (without n ns)
part P [] n h = tt
part P (m ∷ ns) n h = elim (cases_Bool (eqb m n)) [
  | inl is ↦ rw is (part P ns n h.1)
  | inr other ↦ rw other (h.0, part P ns n h.1)
]

pub apart-part : (ns : List ℕ) (n : ℕ) → Apart ns → Apart (without n ns)
apart-part [] n h = tt
apart-part (m ∷ ns) n h = elim (cases_Bool (eqb m n)) [
  | inl is ↦ rw is (apart-part ns n h.1)
  | inr other ↦ rw other (part (λ k. k ≢ m) ns n h.0, apart-part ns n h.1)
]

-- all but one
pub waits_without : (old new : List (Option Sheet)) (ns : List ℕ) (n : ℕ) → AreWaiting old ns → ((m : ℕ) → m ≢ n → sheet_at new m ≡ sheet_at old m) → AreWaiting new (without n ns)
waits_without old new ns n h same = record {
  each = each_other old new n same (without n ns) (apart-of ns n) (part (λ m. is_waiting (sheet_at old m) ≡ true) ns n h.each);
  apart = apart-part ns n h.apart;
}

pub waiting_sheet : (o : Option Sheet) → is_waiting o ≡ true → (x : Sheet) × (o ≡ Some x)
waiting_sheet None h = absurd cc
waiting_sheet (Some x) h = (x, refl)

pub handed_not_waiting : (o : Option Sheet) (x : Sheet) → o ≡ Some x → x.handed ≡ true → is_waiting o ≡ false
handed_not_waiting o x e h = ap is_waiting e ∙ ap not h

some_not_none : (x : Sheet) → Some x ≡ None → ⊥
some_not_none x e = cc

pub below_more : (old new : List (Option Sheet)) (n most : ℕ) (x : Option Sheet) → AllBelow old most → Sets old new n x → n < most → AllBelow new most
below_more old new n most x below sets h = λ k y e. elim (cases_eq k n) [
  | inl is ↦ omega (arith, is, h)
  | inr apart ↦ below k y (sym (sets.others k apart) ∙ e)
]

pub below_less : (old new : List (Option Sheet)) (n most : ℕ) → AllBelow old most → Sets old new n None → AllBelow new most
below_less old new n most below sets = λ k y e. elim (cases_eq k n) [
  | inl is ↦ absurd (some_not_none y (sym e ∙ ap (sheet_at new) is ∙ sets.changed))
  | inr apart ↦ below k y (sym (sets.others k apart) ∙ e)
]

-- the first of some numbers
pub first_of : (ns : List ℕ) (n : ℕ) → slice_get ns 0 ≡ Some n → (rest : List ℕ) × (ns ≡ n ∷ rest)
first_of [] n e = absurd cc
first_of (m ∷ ns) n e = (ns, cc)

pub in_push : (k n : ℕ) (ns : List ℕ) → IsIn k ns → IsIn k (ns ++ n ∷ [])
in_push k n [] i = absurd i
in_push k n (m ∷ ns) (inl e) = inl e
in_push k n (m ∷ ns) (inr i) = inr (in_push k n ns i)

in_last : (n : ℕ) (ns : List ℕ) → IsIn n (ns ++ n ∷ [])
in_last n [] = inl refl
in_last n (m ∷ ns) = inr (in_last n ns)

in_without : (k n : ℕ) (ns : List ℕ) → k ≢ n → IsIn k ns → IsIn k (without n ns)
in_without k n [] p i = absurd i
in_without k n (m ∷ ns) p i = elim (cases_eq m n) [
  | inl is ↦ rw (eq-eqb m n is) (in_without k n ns p (later i is))
  | inr apart ↦ rw (ne_eqb m n apart) (elim i [ inl e ↦ inl e | inr j ↦ inr (in_without k n ns p j) ])
]
  where
    later : IsIn k (m ∷ ns) → m ≡ n → IsIn k ns
    later (inl e) is = absurd (p (sym e ∙ is))
    later (inr j) is = j

pub all_wait_more : (old new : List (Option Sheet)) (ns : List ℕ) (n : ℕ) (x : Sheet) → AllWait old ns → Sets old new n (Some x) → AllWait new (ns ++ n ∷ [])
all_wait_more old new ns n x all sets = λ k y e unhanded. elim (cases_eq k n) [
  | inl is ↦ subst (λ (m : ℕ). IsIn m (ns ++ n ∷ [])) (sym is) (in_last n ns)
  | inr apart ↦ in_push k n ns (all k y (sym (sets.others k apart) ∙ e) unhanded)
]

both_ways : (x y : Sheet) → Some x ≡ Some y → x.handed ≡ true → y.handed ≡ false → ⊥
both_ways x y e p q = cc

pub all_wait_handed : (old new : List (Option Sheet)) (ns : List ℕ) (n : ℕ) (x : Sheet) → AllWait old (n ∷ ns) → Sets old new n (Some x) → x.handed ≡ true → AllWait new ns
all_wait_handed old new ns n x all sets handed = λ k y e unhanded. elim (cases_eq k n) [
  | inl is ↦ absurd (both_ways x y (sym (ap (sheet_at new) is ∙ sets.changed) ∙ e) handed unhanded)
  | inr apart ↦ elim (all k y (sym (sets.others k apart) ∙ e) unhanded) [ inl same ↦ absurd (apart (sym same)) | inr i ↦ i ]
]

pub all_wait_less : (old new : List (Option Sheet)) (ns : List ℕ) (n : ℕ) → AllWait old ns → Sets old new n None → AllWait new (without n ns)
all_wait_less old new ns n all sets = λ k y e unhanded. elim (cases_eq k n) [
  | inl is ↦ absurd (some_not_none y (sym e ∙ ap (sheet_at new) is ∙ sets.changed))
  | inr apart ↦ in_without k n ns apart (all k y (sym (sets.others k apart) ∙ e) unhanded)
]

pub first_gone : (ns : List ℕ) (n : ℕ) → AllByRecursion (λ m. m ≢ n) ns → without n (n ∷ ns) ≡ ns
first_gone ns n h = rw (eq-eqb n n refl) (without-others ns n h)

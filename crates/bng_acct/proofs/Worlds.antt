-- Laws over runs of a spool.
use Rattle.std.proofs.Common.{◌≡◌, ◌≢◌, ℕ, Bool, true, List, [], ◌∷◌, ◌++◌, Some, None, sym, ap, subst, ◌∙◌, refl, append_assoc, inl, inr}
use Rattle.std.specs.Prelude.{filter}
use Rattle.std.proofs.lemmas.Bool.{cases_Bool, cases_eq}
use Rattle.std.proofs.lemmas.List.{append-nil}
use Rattle.bng_acct.specs.declared.facts.Record.{Record}
use Rattle.bng_acct.specs.declared.sheet.Sheet.{Sheet}
use Rattle.bng_acct.specs.Queue.{sheet_at}
use Rattle.bng_acct.specs.Spool.{State, is_stop_sheet, only_stop}
use Rattle.bng_acct.specs.World.{Event, Formed, Handed, Acked, Forgot, Run, formed, handed, IsPart, Spares, IsOpen}

part_same : (xs : List ℕ) → IsPart xs xs
part_same [] = tt
part_same (x ∷ xs) = inl (refl, part_same xs)

part_skip : (xs : List ℕ) (y : ℕ) (ys : List ℕ) → IsPart xs ys → IsPart xs (y ∷ ys)
part_skip [] y ys h = tt
part_skip (x ∷ xs) y ys h = inr h

part_keep : (xs : List ℕ) (y : ℕ) (ys zs : List ℕ) → ((ws : List ℕ) → IsPart ws ys → IsPart ws zs) → IsPart xs (y ∷ ys) → IsPart xs (y ∷ zs)
part_keep [] y ys zs f h = tt
part_keep (x ∷ xs) y ys zs f (inl h) = inl (h.0, f xs h.1)
part_keep (x ∷ xs) y ys zs f (inr h) = inr (f (x ∷ xs) h)

-- what some were taken out of
part_of_filter : (p : ℕ → Bool) (ws fs : List ℕ) (xs : List ℕ) → IsPart xs (filter p ws ++ fs) → IsPart xs (ws ++ fs)
part_of_filter p [] fs xs h = h
part_of_filter p (w ∷ ws) fs xs h = elim (cases_Bool (p w)) [
  | inl stays ↦ part_keep xs w (filter p ws ++ fs) (ws ++ fs) (part_of_filter p ws fs) (rw stays at h)
  | inr goes ↦ part_skip xs w (ws ++ fs) (part_of_filter p ws fs xs (rw goes at h))
]

pub goes_in_order : (s end : State) (events : List Event) → Run s events end → IsPart (handed events ++ end.waiting) (s.waiting ++ formed events)
goes_in_order s end [] r = subst (λ (ws : List ℕ). IsPart end.waiting ws) (ap (λ (t : State). t.waiting) r ∙ sym (append-nil s.waiting)) (part_same end.waiting)
goes_in_order s end (Formed status facts moment n ∷ es) r =
    let next : State = r.0 in
    subst (IsPart (handed es ++ end.waiting)) (ap (λ (ws : List ℕ). ws ++ formed es) r.1.waits ∙ append_assoc s.waiting (n ∷ []) (formed es)) (goes_in_order next end es r.2)
goes_in_order s end (Handed n frame ∷ es) r =
    let next : State = r.0 in
    subst (λ (ws : List ℕ). IsPart (n ∷ (handed es ++ end.waiting)) (ws ++ formed es)) (sym r.1.first) (inl (refl, goes_in_order next end es r.2))
goes_in_order s end (Acked n ∷ es) r =
    let next : State = r.0 in
    part_of_filter _ s.waiting (formed es) (handed es ++ end.waiting) (subst (λ (ws : List ℕ). IsPart (handed es ++ end.waiting) (ws ++ formed es)) r.1.waiting (goes_in_order next end es r.2))
goes_in_order s end (Forgot ∷ es) r =
    let next : State = r.0 in
    part_of_filter (λ n. is_stop_sheet (sheet_at s.sheets n)) s.waiting (formed es) (handed es ++ end.waiting)
    (subst (λ (ws : List ℕ). IsPart (handed es ++ end.waiting) (ws ++ formed es)) r.1.waiting (goes_in_order next end es r.2))

no_sheet : (x : Sheet) → Some x ≡ None → ⊥
no_sheet x e = cc

some_sheet : (a b : Sheet) → Some a ≡ Some b → a ≡ b
some_sheet a b e = cc

-- the same record, as it is now
again : (end : State) (n : ℕ) (x y : Sheet) → y.record ≡ x.record → IsOpen end n y → IsOpen end n x
again end n x y e o = record { sheet = o.sheet; is_there = o.is_there; same = o.same ∙ e }

pub stays_open : (events : List Event) (s end : State) (n : ℕ) (x : Sheet) → Run s events end → sheet_at s.sheets n ≡ Some x → Spares n x.record.status events → IsOpen end n x
stays_open [] s end n x r here spared = record { sheet = x; is_there = ap (λ (t : State). sheet_at t.sheets n) r ∙ here; same = refl }
stays_open (Formed status facts moment m ∷ es) s end n x r here spared =
    let next : State = r.0 in
    let apart : n ≢ m = λ e. no_sheet x (sym here ∙ ap (sheet_at s.sheets) e ∙ r.1.fresh) in
    stays_open es next end n x r.2 (r.1.sets.others n apart ∙ here) spared
stays_open (Handed m frame ∷ es) s end n x r here spared =
    let next : State = r.0 in
    elim (cases_eq n m) [
      | inl e ↦
          let out : Sheet = record r.1.sheet { handed = true } in
          let it_is : r.1.sheet ≡ x = some_sheet r.1.sheet x (sym r.1.was ∙ ap (sheet_at s.sheets) (sym e) ∙ here) in
          let same_record : out.record ≡ x.record = ap (λ (z : Sheet). z.record) it_is in
          again end n x out same_record
          (stays_open es next end n out r.2 (ap (sheet_at next.sheets) e ∙ r.1.sets.changed) (subst (λ (z : Record). Spares n z.status es) (sym same_record) spared))
      | inr apart ↦ stays_open es next end n x r.2 (r.1.sets.others n apart ∙ here) spared
    ]
stays_open (Acked m ∷ es) s end n x r here spared =
    let next : State = r.0 in
    stays_open es next end n x r.2 (r.1.sets.others n (λ e. spared.0 (sym e)) ∙ here) spared.1
stays_open (Forgot ∷ es) s end n x r here spared =
    let next : State = r.0 in
    let kept : only_stop (sheet_at s.sheets n) ≡ Some x = ap only_stop here ∙ rw spared.0 refl in
    stays_open es next end n x r.2 (r.1.sheets n ∙ kept) spared.1

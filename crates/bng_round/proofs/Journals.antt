-- The entries of the workers in a journal.
use Rattle.std.proofs.Common.{◌≡◌, ◌≢◌, ℕ, zero, suc, ◌+◌, ◌<◌, ◌≤◌, ◌%◌, ◌==◌, Bool, true, false, cond, ◌||◌, List, [], ◌∷◌, ◌++◌, length, slice_index_or, sum, refl, sym, ap, ◌∙◌, subst, arith, eq-eqb, ne_eqb}
use mathlib.Core.Logic.{dite}
use native.Mathlib.Decide.{ℕ_discrete}
use Rattle.std.specs.List.{AllByRecursion, list_any}
use Rattle.std.proofs.lemmas.List.Sums.{sum_by-cons}
use Rattle.bng_base.specs.declared.item.Entry.{Entry}
use Rattle.bng_base.specs.declared.item.Item.{Item}
use Rattle.bng_base.specs.declared.item.ItemKind.{ItemKind}
use Rattle.bng_base.specs.declared.item.ItemKind.TheVariants.{Access, Core, Tunnel, Verdict, Change, Tick, End}
use Rattle.bng_round.specs.Booking.{of_seat, Rise}
use Rattle.bng_round.specs.Ticks.{is_tick, is_end, is_for_shard}
use Rattle.bng_steps.specs.Seats.{IsSeat, IsCountedFrom}

pub of_seat_head : (k : ℕ) (e : Entry) (es : List Entry) → e.seat ≡ k → of_seat k (e ∷ es) ≡ e ∷ of_seat k es
of_seat_head k e es same = ap (λ b. cond b (e ∷ of_seat k es) (of_seat k es)) (eq-eqb e.seat k same)

pub of_seat_past : (k : ℕ) (e : Entry) (es : List Entry) → e.seat ≢ k → of_seat k (e ∷ es) ≡ of_seat k es
of_seat_past k e es other = ap (λ b. cond b (e ∷ of_seat k es) (of_seat k es)) (ne_eqb e.seat k other)

pub of_seat_append : (k : ℕ) (es fs : List Entry) → of_seat k (es ++ fs) ≡ of_seat k es ++ of_seat k fs
of_seat_append k [] fs = refl
of_seat_append k (e ∷ es) fs = dite (ℕ_discrete e.seat k)
    (λ same. of_seat_head k e (es ++ fs) same ∙ (ap (λ l. e ∷ l) (of_seat_append k es fs) ∙ ap (λ l. l ++ of_seat k fs) (sym (of_seat_head k e es same))))
    (λ other. of_seat_past k e (es ++ fs) other ∙ (of_seat_append k es fs ∙ ap (λ l. l ++ of_seat k fs) (sym (of_seat_past k e es other))))

pub of_seat_more : (k : ℕ) (es : List Entry) (e : Entry) → e.seat ≡ k → of_seat k (es ++ e ∷ []) ≡ of_seat k es ++ e ∷ []
of_seat_more k es e same = of_seat_append k es (e ∷ []) ∙ ap (λ l. of_seat k es ++ l) (of_seat_head k e [] same)

pub of_seat_less : (k : ℕ) (es : List Entry) (e : Entry) → e.seat ≢ k → of_seat k (es ++ e ∷ []) ≡ of_seat k es
of_seat_less k [] e other = of_seat_past k e [] other
of_seat_less k (x ∷ es) e other = ap (λ l. cond (x.seat == k) (x ∷ l) l) (of_seat_less k es e other)

pub rise_count : (from to : ℕ) (es : List Entry) → from ≤ to → Rise from to es → from + length es ≤ to
rise_count from to [] low rise = omega arith
rise_count from to (x ∷ es) low rise = let more : x.place + 1 + length es ≤ to = rise_count (x.place + 1) to es (omega (arith, rise.1)) rise.2 in omega (arith, rise.0, more)

pub rise_more : (from p to : ℕ) (es : List Entry) (e : Entry) → Rise from p es → e.place ≡ p → from ≤ p → p < to → Rise from to (es ++ e ∷ [])
rise_more from p to [] e rise at low high = (omega arith, omega arith, tt)
rise_more from p to (x ∷ es) e rise at low high = (rise.0, omega (arith, rise.1), rise_more (x.place + 1) p to es e rise.2 at (omega (arith, rise.1)) high)

-- each seat's places still rise
pub places_more : (lists : List ℕ) (es : List Entry) (e : Entry) → ((k : ℕ) → Rise 0 (slice_index_or lists k 0) (of_seat k es))
    → Rise 0 e.place (of_seat e.seat es) → e.place < slice_index_or lists e.seat 0 → (k : ℕ) → Rise 0 (slice_index_or lists k 0) (of_seat k (es ++ e ∷ []))
places_more lists es e each past low k = dite (ℕ_discrete e.seat k)
    (λ same. let P : List Entry → Type 0 = λ l. Rise 0 (slice_index_or lists k 0) l in
    subst P (sym (of_seat_more k es e same)) (rise_more 0 e.place (slice_index_or lists k 0) (of_seat k es) e (subst (λ (s : ℕ). Rise 0 e.place (of_seat s es)) same past) refl (omega arith) (subst (λ (s : ℕ). e.place < slice_index_or lists s 0) same low)))
    (λ other. let P : List Entry → Type 0 = λ l. Rise 0 (slice_index_or lists k 0) l in subst P (sym (of_seat_less k es e other)) (each k))

-- how many entries the seats have, from this seat on, for so many
abbrev held : ℕ → List ℕ → List Entry → ℕ
held from [] es = 0
held from (n ∷ ns) es = length (of_seat from es) + held (from + 1) ns es

held_none : (from : ℕ) (ns : List ℕ) → held from ns [] ≡ 0
held_none from [] = refl
held_none from (n ∷ ns) = let rest : held (from + 1) ns [] ≡ 0 = held_none (from + 1) ns in omega (arith, rest)

held_before : (from : ℕ) (ns : List ℕ) (e : Entry) (es : List Entry) → e.seat < from → held from ns (e ∷ es) ≡ held from ns es
held_before from [] e es low = refl
held_before from (n ∷ ns) e es low =
    let rest : held (from + 1) ns (e ∷ es) ≡ held (from + 1) ns es = held_before (from + 1) ns e es (omega (arith, low)) in
    let here = ap length (of_seat_past from e es (λ same. omega (arith, low, same))) in omega (arith, rest, here)

held_within : (from : ℕ) (ns : List ℕ) (e : Entry) (es : List Entry) → from ≤ e.seat → e.seat < from + length ns → held from ns (e ∷ es) ≡ held from ns es + 1
held_within from [] e es low high = absurd (omega (arith, low, high))
held_within from (n ∷ ns) e es low high = dite (ℕ_discrete e.seat from)
    (λ same. let rest : held (from + 1) ns (e ∷ es) ≡ held (from + 1) ns es = held_before (from + 1) ns e es (omega (arith, same)) in
    let here : length (of_seat from (e ∷ es)) ≡ suc (length (of_seat from es)) = ap length (of_seat_head from e es same) in omega (arith, rest, here))
    (λ other. let rest : held (from + 1) ns (e ∷ es) ≡ held (from + 1) ns es + 1 = held_within (from + 1) ns e es (omega (arith, low, other)) (omega (arith, high)) in
    let here = ap length (of_seat_past from e es other) in omega (arith, rest, here))

held_all : (ns : List ℕ) (es : List Entry) → AllByRecursion (λ e. e.seat < length ns) es → held 0 ns es ≡ length es
held_all ns [] all = held_none 0 ns
held_all ns (e ∷ es) all = let rest : held 0 ns es ≡ length es = held_all ns es all.1 in let here = held_within 0 ns e es (omega arith) (omega (arith, all.0)) in omega (arith, rest, here)

held_most : (from : ℕ) (ns : List ℕ) (es : List Entry) → ((k s : ℕ) → s ≡ from + k → length (of_seat s es) ≤ slice_index_or ns k 0) → held from ns es ≤ sum ns
held_most from [] es each = omega arith
held_most from (n ∷ ns) es each =
    let rest : held (from + 1) ns es ≤ sum ns = held_most (from + 1) ns es (λ k s e. each (suc k) s (omega (arith, e))) in
    let here : length (of_seat from es) ≤ n = each 0 from (omega arith) in
    omega (arith, rest, here, sum_by-cons (λ (x : ℕ). x) n ns)

held_less : (from : ℕ) (ns : List ℕ) (es : List Entry) → ((k s : ℕ) → s ≡ from + k → length (of_seat s es) ≤ slice_index_or ns k 0)
    → (k s : ℕ) → s ≡ from + k → length (of_seat s es) < slice_index_or ns k 0 → held from ns es < sum ns
held_less from [] es each k s at less = absurd (omega (arith, less))
held_less from (n ∷ ns) es each zero s at less =
    let rest : held (from + 1) ns es ≤ sum ns = held_most (from + 1) ns es (λ k' s' e. each (suc k') s' (omega (arith, e))) in
    let here : length (of_seat from es) < n = subst (λ (z : ℕ). length (of_seat z es) < n) (omega (arith, at)) less in
    omega (arith, rest, here, sum_by-cons (λ (x : ℕ). x) n ns)
held_less from (n ∷ ns) es each (suc k) s at less =
    let rest : held (from + 1) ns es < sum ns = held_less (from + 1) ns es (λ k' s' e. each (suc k') s' (omega (arith, e))) k s (omega (arith, at)) less in
    let here : length (of_seat from es) ≤ n = each 0 from (omega arith) in
    omega (arith, rest, here, sum_by-cons (λ (x : ℕ). x) n ns)

within : (ns : List ℕ) (k p : ℕ) → p < slice_index_or ns k 0 → 0 < length ns
within [] k p low = absurd (omega (arith, low))
within (n ∷ ns) k p low = omega arith

fewer : (lists : List ℕ) (es : List Entry) → ((k : ℕ) → Rise 0 (slice_index_or lists k 0) (of_seat k es)) → (k s : ℕ) → k ≡ s → length (of_seat s es) ≤ slice_index_or lists k 0
fewer lists es each k s same = subst (λ (z : ℕ). length (of_seat z es) ≤ slice_index_or lists k 0) same (omega (arith, rise_count 0 (slice_index_or lists k 0) (of_seat k es) (omega arith) (each k)))

-- where a seat has a place left, not all items of the lists are handled
pub room_left : (lists : List ℕ) (es : List Entry) (k p : ℕ) → AllByRecursion (λ (e : Entry). e.seat < length lists) es
    → ((k' : ℕ) → Rise 0 (slice_index_or lists k' 0) (of_seat k' es)) → Rise 0 p (of_seat k es) → p < slice_index_or lists k 0 → length es < sum lists
room_left lists es k p homes each past low =
    let all = held_all lists es homes in
    let count : length (of_seat k es) ≤ p = omega (arith, rise_count 0 p (of_seat k es) (omega arith) past) in
    let less = held_less 0 lists es (λ k' s e. fewer lists es each k' s (omega (arith, e))) k k (omega arith) (omega (arith, count, low)) in
    omega (arith, all, less)

pub all_snoc : {A : Type 0} (P : A → Type 0) (es : List A) (e : A) → AllByRecursion P es → P e → AllByRecursion P (es ++ e ∷ [])
all_snoc P [] e all one = (one, tt)
all_snoc P (x ∷ es) e all one = (all.0, all_snoc P es e all.1 one)

-- A Tick and an End ----------------------------------------------------------------------------------------------------------

both_false : (a b : Bool) → (a || b) ≡ false → (a ≡ false) × (b ≡ false)
both_false true b e = absurd (cc)
both_false false b e = (refl, e)

or_false : (a b : Bool) → a ≡ false → b ≡ false → (a || b) ≡ false
or_false true b e f = absurd (cc)
or_false false b e f = f

pub never : (b : Bool) → (b ≡ true → ⊥) → b ≡ false
never true n = absurd (n refl)
never false n = refl

pub tick_for : (kind : ItemKind) → is_tick kind ≡ true → is_for_shard kind ≡ true
tick_for (Access number) is = absurd (cc)
tick_for Core is = absurd (cc)
tick_for Tunnel is = absurd (cc)
tick_for Verdict is = absurd (cc)
tick_for Change is = absurd (cc)
tick_for Tick is = refl
tick_for End is = absurd (cc)

pub end_for : (kind : ItemKind) → is_end kind ≡ true → is_for_shard kind ≡ true
end_for (Access number) is = absurd (cc)
end_for Core is = absurd (cc)
end_for Tunnel is = absurd (cc)
end_for Verdict is = absurd (cc)
end_for Change is = absurd (cc)
end_for Tick is = absurd (cc)
end_for End is = refl

counted_for : (kind : ItemKind) (i : Item) (n : ℕ) → is_for_shard kind ≡ true → IsCountedFrom kind i n → n ≡ i.target
counted_for (Access number) i n is c = absurd (cc)
counted_for Core i n is c = absurd (cc)
counted_for Tunnel i n is c = absurd (cc)
counted_for Verdict i n is c = absurd (cc)
counted_for Change i n is c = absurd (cc)
counted_for Tick i n is c = c
counted_for End i n is c = c

-- the seat of what names its shard
pub seat_for : (workers : ℕ) (i : Item) (k : ℕ) → IsSeat workers i k → is_for_shard i.kind ≡ true → k ≡ i.target % workers
seat_for workers i k s is = s.seat_is ∙ ap (λ z. z % workers) (counted_for i.kind i s.number is s.counted)

-- the entry is of its item's seat, and what names a shard names this one
pub record IsHome (number workers : ℕ) (e : Entry) : Type 0 where
  pub seat : IsSeat workers e.item e.seat
  pub target : is_for_shard e.item.kind ≡ true → e.item.target ≡ number

module _ (test : ItemKind → Bool) (narrow : (kind : ItemKind) → test kind ≡ true → is_for_shard kind ≡ true) (number workers seat : ℕ) (at : seat ≡ number % workers) where
  abbrev has : List Entry → Bool
  has es = list_any (λ (e : Entry). test e.item.kind) es

  -- what names a shard stands on one seat
  pub none_else : (es : List Entry) → AllByRecursion (IsHome number workers) es → has (of_seat seat es) ≡ false → has es ≡ false
  none_else [] homes none = refl
  none_else (e ∷ es) homes none = dite (ℕ_discrete e.seat seat)
      (λ same. let both = both_false (test e.item.kind) (has (of_seat seat es)) (ap has (sym (of_seat_head seat e es same)) ∙ none) in
      or_false (test e.item.kind) (has es) both.0 (none_else es homes.1 both.1))
      (λ other. or_false (test e.item.kind) (has es)
      (never (test e.item.kind) (λ is. let for = narrow e.item.kind is in other (seat_for workers e.item e.seat homes.0.seat for ∙ (ap (λ z. z % workers) (homes.0.target for) ∙ sym at))))
      (none_else es homes.1 (ap has (sym (of_seat_past seat e es other)) ∙ none)))

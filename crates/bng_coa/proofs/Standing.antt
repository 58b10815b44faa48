-- What stands after any list of calls: never two equal requests, never two in hand under one number, at most 256, and each
-- that is in hand until it is answered.
use Rattle.std.proofs.Common.{◌≡◌, ℕ, zero, suc, ◌+◌, ◌<◌, ◌≤◌, Bool, true, false, cond, ◌||◌, ◌&&◌, ltb, List, [], ◌∷◌, ◌++◌, length, Option, Some, None, refl, sym, ap, subst, arith, length-append}
use Rattle.std.specs.Prelude.{slice_get, slice_set, filter, position, remove, count_by}
use Rattle.std.specs.List.{list_any, AllByRecursion, IsDistinct}
use Rattle.std.proofs.lemmas.List.Sums.{length-filter, count_by-le-length}
use Rattle.std.proofs.lemmas.Bool.{ltb-true, ltb-false, le-ltb}
use Rattle.bng_coa.specs.declared.request.RequestKey.{RequestKey}
use Rattle.bng_coa.specs.declared.request.ChangeRequest.{ChangeRequest}
use Rattle.bng_coa.specs.declared.request.RequestStage.{RequestStage}
use Rattle.bng_coa.specs.declared.request.RequestStage.TheVariants.{InHand, Answered}
use Rattle.bng_coa.specs.Requests.{is_same, is_in_hand, is_answered, is_numbered, is_held, is_standing, standing, without, with_room, admitted}
use Rattle.bng_coa.specs.Runs.{Event, Takes, Settles, Follows, Run, are_equal, shares_at, share_number, Rises, was_before}
use Rattle.bng_coa.proofs.Each.{filtered, removed, appended, replaced}
use Rattle.bng_coa.proofs.Places.{passes_at}
use Rattle.bng_coa.proofs.Rooms.{none_answered, fewer}

-- ---- requests that differ from each other

module _ (e : ChangeRequest → ChangeRequest → Bool) where
  abbrev pub Apart : ChangeRequest → List ChangeRequest → Type 0
  Apart x xs = AllByRecursion (λ y. e x y ≡ false) xs

  filter_cons : (b : Bool) (x : ChangeRequest) (xs kept : List ChangeRequest) → Apart x kept → IsDistinct e kept → IsDistinct e (cond b (x ∷ kept) kept)
  unfolding IsDistinct
  filter_cons true x xs kept apart d = (apart, d)
  filter_cons false x xs kept apart d = d

  distinct_filter : (p : ChangeRequest → Bool) (xs : List ChangeRequest) → IsDistinct e xs → IsDistinct e (filter p xs)
  unfolding IsDistinct
  distinct_filter p [] d = d
  distinct_filter p (x ∷ xs) d = filter_cons (p x) x xs (filter p xs) (filtered (λ y. e x y ≡ false) p xs d.0) (distinct_filter p xs d.1)

  distinct_remove : (xs : List ChangeRequest) (i : ℕ) → IsDistinct e xs → IsDistinct e (remove xs i)
  unfolding IsDistinct
  distinct_remove [] zero d = d
  distinct_remove [] (suc i) d = d
  distinct_remove (x ∷ xs) zero d = d.1
  distinct_remove (x ∷ xs) (suc i) d = (removed (λ y. e x y ≡ false) xs i d.0, distinct_remove xs i d.1)

  apart_more : (x y : ChangeRequest) (xs : List ChangeRequest) → Apart x xs → e x y ≡ false → Apart x (xs ++ y ∷ [])
  apart_more x y [] all last = (last, tt)
  apart_more x y (z ∷ xs) all last = (all.0, apart_more x y xs all.1 last)

  distinct_more : (xs : List ChangeRequest) (y : ChangeRequest) → IsDistinct e xs → AllByRecursion (λ x. e x y ≡ false) xs → IsDistinct e (xs ++ y ∷ [])
  unfolding IsDistinct
  distinct_more [] y d all = (tt, tt)
  distinct_more (x ∷ xs) y d all = (apart_more x y xs d.0 all.0, distinct_more xs y d.1 all.1)

  module _ (x y : ChangeRequest) (before : (z : ChangeRequest) → e z x ≡ false → e z y ≡ false) (after : (z : ChangeRequest) → e x z ≡ false → e y z ≡ false) where
    apart_set : (z : ChangeRequest) (xs : List ChangeRequest) (i : ℕ) → slice_get xs i ≡ Some x → Apart z xs → Apart z (slice_set xs i y)
    apart_set z [] i is all = absurd cc
    apart_set z (w ∷ xs) zero is all = (before z (subst (λ (r : ChangeRequest). e z r ≡ false) (let same : w ≡ x = cc in same) all.0), all.1)
    apart_set z (w ∷ xs) (suc i) is all = (all.0, apart_set z xs i is all.1)

    apart_from : (xs : List ChangeRequest) → Apart x xs → Apart y xs
    apart_from [] all = tt
    apart_from (z ∷ xs) all = (after z all.0, apart_from xs all.1)

    distinct_set : (xs : List ChangeRequest) (i : ℕ) → slice_get xs i ≡ Some x → IsDistinct e xs → IsDistinct e (slice_set xs i y)
    unfolding IsDistinct
    distinct_set [] i is d = absurd cc
    distinct_set (w ∷ xs) zero is d = (apart_from xs (subst (λ (r : ChangeRequest). Apart r xs) (let same : w ≡ x = cc in same) d.0), d.1)
    distinct_set (w ∷ xs) (suc i) is d = (apart_set w xs i is d.0, distinct_set xs i is d.1)

  distinct_without : (o : Option ℕ) (xs : List ChangeRequest) → IsDistinct e xs → IsDistinct e (without o xs)
  distinct_without None xs d = d
  distinct_without (Some i) xs d = distinct_remove xs i d

  distinct_room : (b : Bool) (xs : List ChangeRequest) → IsDistinct e xs → IsDistinct e (cond b xs (without (position is_answered xs) xs))
  distinct_room true xs d = d
  distinct_room false xs d = distinct_without (position is_answered xs) xs d

all_without : (P : ChangeRequest → Type 0) (o : Option ℕ) (xs : List ChangeRequest) → AllByRecursion P xs → AllByRecursion P (without o xs)
all_without P None xs all = all
all_without P (Some i) xs all = removed P xs i all

all_room : (P : ChangeRequest → Type 0) (b : Bool) (xs : List ChangeRequest) → AllByRecursion P xs → AllByRecursion P (cond b xs (without (position is_answered xs) xs))
all_room P true xs all = all
all_room P false xs all = all_without P (position is_answered xs) xs all

-- one more that differs from all that are held
distinct_admitted : (e : ChangeRequest → ChangeRequest → Bool) (now : ℕ) (r : ChangeRequest) (rs : List ChangeRequest) → IsDistinct e rs → AllByRecursion (λ x. e x r ≡ false) (filter (is_held now) rs) → IsDistinct e (admitted now r rs)
distinct_admitted e now r rs d all =
    distinct_more e (with_room (filter (is_held now) rs)) r
    (distinct_room e (ltb (length (filter (is_held now) rs)) 256) (filter (is_held now) rs) (distinct_filter e (is_held now) rs d))
    (all_room (λ x. e x r ≡ false) (ltb (length (filter (is_held now) rs)) 256) (filter (is_held now) rs) all)

-- ---- equal requests

anew_cons : (b c : Bool) (x : ChangeRequest) (key : RequestKey) (rest : Option ChangeRequest) (kept : List ChangeRequest) → is_same x.key key ≡ c → cond (b && c) (Some x) rest ≡ None
    → AllByRecursion (λ y. is_same y.key key ≡ false) kept → AllByRecursion (λ y. is_same y.key key ≡ false) (cond b (x ∷ kept) kept)
anew_cons true true x key rest kept e none all = absurd cc
anew_cons true false x key rest kept e none all = (e, all)
anew_cons false c x key rest kept e none all = all

rest_none : (b : Bool) (x : ChangeRequest) (rest : Option ChangeRequest) → cond b (Some x) rest ≡ None → rest ≡ None
rest_none true x rest none = absurd cc
rest_none false x rest none = none

anew_all : (now : ℕ) (key : RequestKey) (rs : List ChangeRequest) → standing now key rs ≡ None → AllByRecursion (λ x. is_same x.key key ≡ false) (filter (is_held now) rs)
anew_all now key [] none = tt
anew_all now key (x ∷ xs) none =
    anew_cons (is_held now x) (is_same x.key key) x key (standing now key xs) (filter (is_held now) xs) refl none
    (anew_all now key xs (rest_none (is_standing now key x) x (standing now key xs) none))

-- ---- numbers

free_cons : (b rest : Bool) → b || rest ≡ false → b ≡ false
free_cons true rest e = e
free_cons false rest e = refl

free_rest : (b rest : Bool) → b || rest ≡ false → rest ≡ false
free_rest true rest e = absurd (let no : true ≡ false = e in cc)
free_rest false rest e = e

free_all : (number : ℕ) (rs : List ChangeRequest) → list_any (is_numbered number) rs ≡ false → AllByRecursion (λ x. is_numbered number x ≡ false) rs
free_all number [] free = tt
free_all number (x ∷ xs) free =
    (free_cons (is_numbered number x) (list_any (is_numbered number) xs) free, free_all number xs (free_rest (is_numbered number x) (list_any (is_numbered number) xs) free))

answered_shares : (reply : List ℕ) (s : RequestStage) → shares_at (Answered reply) s ≡ false
answered_shares reply (InHand number packet) = refl
answered_shares reply (Answered other) = refl

-- ---- each step, and each run

pub record IsApart (rs : List ChangeRequest) : Type 0 where
  pub few : length rs ≤ 256
  pub keys : IsDistinct are_equal rs
  pub numbers : IsDistinct share_number rs

length-without : (o : Option ℕ) (rs : List ChangeRequest) → position is_answered rs ≡ o → count_by is_in_hand rs < length rs → length (without o rs) + 1 ≤ length rs
length-without None rs is less = absurd (omega (arith, less, none_answered rs is))
length-without (Some i) rs is less = shorter rs i (passes_at is_answered rs i is).element (passes_at is_answered rs i is).is
  where
    shorter : (xs : List ChangeRequest) (k : ℕ) (x : ChangeRequest) → slice_get xs k ≡ Some x → length (remove xs k) + 1 ≤ length xs
    shorter [] k x is = absurd cc
    shorter (y ∷ xs) zero x is = omega arith
    shorter (y ∷ xs) (suc k) x is = omega (arith, shorter xs k x is)

room_length : (b : Bool) (rs : List ChangeRequest) → ltb (length rs) 256 ≡ b → length rs ≤ 256 → count_by is_in_hand rs < 256 → length (cond b rs (without (position is_answered rs) rs)) < 256
room_length true rs e few less = ltb-true (length rs) 256 e
room_length false rs e few less =
    omega (arith, few, less, ltb-false (length rs) 256 e, length-without (position is_answered rs) rs refl (omega (arith, less, ltb-false (length rs) 256 e)))

length-admitted : (now : ℕ) (r : ChangeRequest) (rs : List ChangeRequest) → length rs ≤ 256 → count_by is_in_hand rs < 256 → length (admitted now r rs) ≤ 256
length-admitted now r rs few less =
    let held = filter (is_held now) rs in
    omega (
      arith,
      length-append (with_room held) (r ∷ []),
      room_length (ltb (length held) 256) held refl (omega (arith, few, length-filter (is_held now) rs, count_by-le-length (is_held now) rs)) (omega (arith, less, fewer is_in_hand (is_held now) rs)),
    )

length-set : (rs : List ChangeRequest) (i : ℕ) (r : ChangeRequest) → length (slice_set rs i r) ≡ length rs
length-set [] zero r = refl
length-set [] (suc i) r = refl
length-set (x ∷ rs) zero r = refl
length-set (x ∷ rs) (suc i) r = ap suc (length-set rs i r)

step_apart : (event : Event) (old new : List ChangeRequest) → Follows old event new → IsApart old → IsApart new
step_apart (Takes key packet now number) old new h apart =
    let r : ChangeRequest = record { key = key; admitted_at = now; stage = InHand number packet } in
    subst IsApart (sym h.list)
    (record {
      few = length-admitted now r old apart.few h.few;
      keys = distinct_admitted are_equal now r old apart.keys (anew_all now key old h.anew);
      numbers = distinct_admitted share_number now r old apart.numbers (filtered (λ x. is_numbered number x ≡ false) (is_held now) old (free_all number old h.free));
    })
step_apart (Settles number reply) old new h apart =
    let r : ChangeRequest = record { key = h.request.key; admitted_at = h.request.admitted_at; stage = Answered reply } in
    subst IsApart (sym h.list)
    (record {
      few = omega (arith, apart.few, length-set old h.place r);
      keys = distinct_set are_equal h.request r (λ z is. is) (λ z is. is) old h.place h.stands apart.keys;
      numbers = distinct_set share_number h.request r (λ z is. refl) (λ z is. answered_shares reply z.stage) old h.place h.stands apart.numbers;
    })

pub run_apart : (events : List Event) (old new : List ChangeRequest) → Run old events new → IsApart old → IsApart new
run_apart [] old new h apart = subst IsApart (sym h) apart
run_apart (event ∷ events) old new h apart = run_apart events h.0 new h.2 (step_apart event old h.0 h.1 apart)

pub none_apart : IsApart []
unfolding IsDistinct
none_apart = record { few = omega arith; keys = tt; numbers = tt }

-- ---- the order of admission

pub record IsInOrder (floor : ℕ) (rs : List ChangeRequest) : Type 0 where
  pub order : IsDistinct was_before rs
  pub below : AllByRecursion (λ x. x.admitted_at ≤ floor) rs

no_later : (floor now : ℕ) (rs : List ChangeRequest) → floor ≤ now → AllByRecursion (λ x. x.admitted_at ≤ floor) rs → AllByRecursion (λ x. ltb now x.admitted_at ≡ false) rs
no_later floor now [] le all = tt
no_later floor now (x ∷ xs) le all = (le-ltb now x.admitted_at (omega (arith, le, all.0)), no_later floor now xs le all.1)

raised : (floor now : ℕ) (rs : List ChangeRequest) → floor ≤ now → AllByRecursion (λ x. x.admitted_at ≤ floor) rs → AllByRecursion (λ x. x.admitted_at ≤ now) rs
raised floor now [] le all = tt
raised floor now (x ∷ xs) le all = (omega (arith, le, all.0), raised floor now xs le all.1)

taken_in_order : (floor now : ℕ) (r : ChangeRequest) (rs : List ChangeRequest) → r.admitted_at ≡ now → floor ≤ now → IsInOrder floor rs → IsInOrder now (admitted now r rs)
taken_in_order floor now r rs is le h =
    let held = filter (is_held now) rs in
    record {
      order = distinct_admitted was_before now r rs h.order
          (filtered (λ x. was_before x r ≡ false) (is_held now) rs (subst (λ (n : ℕ). AllByRecursion (λ x. ltb n x.admitted_at ≡ false) rs) (sym is) (no_later floor now rs le h.below)));
      below = appended (λ x. x.admitted_at ≤ now) (with_room held) (r ∷ [])
          (all_room (λ x. x.admitted_at ≤ now) (ltb (length held) 256) held (filtered (λ x. x.admitted_at ≤ now) (is_held now) rs (raised floor now rs le h.below)))
          (omega (arith, is), tt);
    }

bounded_at : (floor : ℕ) (xs : List ChangeRequest) (i : ℕ) (x : ChangeRequest) → slice_get xs i ≡ Some x → AllByRecursion (λ y. y.admitted_at ≤ floor) xs → x.admitted_at ≤ floor
bounded_at floor [] i x is all = absurd cc
bounded_at floor (y ∷ xs) zero x is all = subst (λ (r : ChangeRequest). r.admitted_at ≤ floor) (let e : y ≡ x = cc in e) all.0
bounded_at floor (y ∷ xs) (suc i) x is all = bounded_at floor xs i x is all.1

pub run_in_order : (events : List Event) (floor : ℕ) (old new : List ChangeRequest) → Rises floor events → Run old events new → IsInOrder floor old → IsDistinct was_before new
run_in_order [] floor old new rises run h = subst (IsDistinct was_before) (sym run) h.order
run_in_order (Takes key packet now number ∷ events) floor old new rises run h =
    let r : ChangeRequest = record { key = key; admitted_at = now; stage = InHand number packet } in
    run_in_order events now run.0 new rises.1 run.2 (subst (IsInOrder now) (sym run.1.list) (taken_in_order floor now r old refl rises.0 h))
run_in_order (Settles number reply ∷ events) floor old new rises run h =
    let x = run.1.request in
    let r : ChangeRequest = record { key = x.key; admitted_at = x.admitted_at; stage = Answered reply } in
    run_in_order events floor run.0 new rises run.2
    (subst (IsInOrder floor) (sym run.1.list)
    (record {
      order = distinct_set was_before x r (λ z is. is) (λ z is. is) old run.1.place run.1.stands h.order;
      below = replaced (λ z. z.admitted_at ≤ floor) old run.1.place r h.below (bounded_at floor old run.1.place x run.1.stands h.below);
    }))

pub none_in_order : IsInOrder 0 []
unfolding IsDistinct
none_in_order = record { order = tt; below = tt }

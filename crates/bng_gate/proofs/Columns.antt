-- One shard of a run by its place: how it goes on from round to round.
use Rattle.std.proofs.Common.{◌≡◌, ℕ, zero, suc, ◌+◌, List, [], ◌∷◌, map, length, Some, refl, sym, ap, subst, ◌∙◌, arith}
use Rattle.std.specs.Prelude.{slice_get}
use Rattle.std.specs.List.{AllByRecursion, AllZip, flat_map, range_with_len}
use Rattle.std.proofs.lemmas.List.Concat.{flat_map-cons}
use Rattle.std.proofs.lemmas.Option.{same_Some, none-some}
use Rattle.bng_base.specs.Chain.{Chain}
use Rattle.bng_engine.specs.Histories.{History, ShardHistory, ShardTurn, NextInShard, NextRound, Run}
use Rattle.bng_engine.specs.Lists.{Zip3}
use Rattle.bng_engine.proofs.Everywhere.{all_append}
use Rattle.bng_engine.proofs.Rounds.{in_shards}
use Rattle.bng_steps.specs.Protocol.{ShardState, Handled, pppoe}

-- Lists side by side ---------------------------------------------------------------------------------------------------------

-- what stands at one place of three lists
pub record Standing {A B C : Type 0} (R : A → B → C → Type 0) (xs : List A) (ys : List B) (zs : List C) (n : ℕ) : Type 0 where
  pub x : A
  pub y : B
  pub z : C
  pub at_x : slice_get xs n ≡ Some x
  pub at_y : slice_get ys n ≡ Some y
  pub at_z : slice_get zs n ≡ Some z
  pub so : R x y z

behind : {A B C : Type 0} (R : A → B → C → Type 0) (x : A) (xs : List A) (y : B) (ys : List B) (z : C) (zs : List C) (n : ℕ) → Standing R xs ys zs n → Standing R (x ∷ xs) (y ∷ ys) (z ∷ zs) (suc n)
behind R x xs y ys z zs n h = record { x = h.x; y = h.y; z = h.z; at_x = h.at_x; at_y = h.at_y; at_z = h.at_z; so = h.so }

pub at_third : {A B C : Type 0} (R : A → B → C → Type 0) (xs : List A) (ys : List B) (zs : List C) → Zip3 R xs ys zs → (n : ℕ) (z : C) → slice_get zs n ≡ Some z → Standing R xs ys zs n
at_third R [] [] [] h n z at = absurd (none-some z at)
at_third R (x ∷ xs) (y ∷ ys) (z ∷ zs) h zero w at = record { x = x; y = y; z = z; at_x = refl; at_y = refl; at_z = refl; so = h.0 }
at_third R (x ∷ xs) (y ∷ ys) (z ∷ zs) h (suc n) w at = behind R x xs y ys z zs n (at_third R xs ys zs h.1 n w at)
at_third R xs ys zs h n z at = absurd h

pub at_second : {A B C : Type 0} (R : A → B → C → Type 0) (xs : List A) (ys : List B) (zs : List C) → Zip3 R xs ys zs → (n : ℕ) (y : B) → slice_get ys n ≡ Some y → Standing R xs ys zs n
at_second R [] [] [] h n y at = absurd (none-some y at)
at_second R (x ∷ xs) (y ∷ ys) (z ∷ zs) h zero w at = record { x = x; y = y; z = z; at_x = refl; at_y = refl; at_z = refl; so = h.0 }
at_second R (x ∷ xs) (y ∷ ys) (z ∷ zs) h (suc n) w at = behind R x xs y ys z zs n (at_second R xs ys zs h.1 n w at)
at_second R xs ys zs h n y at = absurd h

pub zip3_length : {A B C : Type 0} (R : A → B → C → Type 0) (xs : List A) (ys : List B) (zs : List C) → Zip3 R xs ys zs → length zs ≡ length xs
zip3_length R [] [] [] h = refl
zip3_length R (x ∷ xs) (y ∷ ys) (z ∷ zs) h = omega (arith, zip3_length R xs ys zs h.1)
zip3_length R xs ys zs h = absurd h

-- what holds of each at its place
pub all_flat : {X Y : Type 0} (P : Y → Type 0) (f : X → List Y) (xs : List X) → ((n : ℕ) (x : X) → slice_get xs n ≡ Some x → AllByRecursion P (f x)) → AllByRecursion P (flat_map f xs)
all_flat P f [] h = tt
all_flat P f (x ∷ xs) h = subst (AllByRecursion P) (sym (flat_map-cons f x xs)) (all_append P (f x) (flat_map f xs) (h zero x refl) (all_flat P f xs (λ n y at. h (suc n) y at)))

pub zip_by_place : {A B : Type 0} (R : A → B → Type 0) (f : ℕ → B) (a k : ℕ) (xs : List A) → length xs ≡ k → ((n : ℕ) (x : A) → slice_get xs n ≡ Some x → R x (f (a + n))) → AllZip R xs (map f (range_with_len a k))
zip_by_place R f a zero [] long h = tt
zip_by_place R f a zero (x ∷ xs) long h = absurd (omega (arith, long))
zip_by_place R f a (suc k) [] long h = absurd (omega (arith, long))
zip_by_place {A} R f a (suc k) (x ∷ xs) long h =
    let here : a + 0 ≡ a = omega arith in (
      subst (λ (m : ℕ). R x (f m)) here (h zero x refl),
      zip_by_place R f (a + 1) k xs (omega (arith, long)) (λ n y at.
          let next : a + suc n ≡ a + 1 + n = omega arith in
          subst (λ (m : ℕ). R y (f m)) next (h (suc n) y at)),
    )

-- Rounds ---------------------------------------------------------------------------------------------------------------------

-- the shard at this place went on by a round
pub record GoesAt (n : ℕ) (h : ShardHistory ShardState) (ts : List (ShardTurn Handled)) (h' : ShardHistory ShardState) : Type 0 where
  pub turn : ShardTurn Handled
  pub at : slice_get ts n ≡ Some turn
  pub next : NextInShard pppoe h turn h'

-- it stood there before the round
pub record Came (n : ℕ) (h : History ShardState) (ts : List (ShardTurn Handled)) (x' : ShardHistory ShardState) : Type 0 where
  pub before : ShardHistory ShardState
  pub at : slice_get h.shards n ≡ Some before
  pub goes : GoesAt n before ts x'

-- and before these rounds
pub record Column (n : ℕ) (h : History ShardState) (rounds : List (List (ShardTurn Handled))) (x' : ShardHistory ShardState) : Type 0 where
  pub first : ShardHistory ShardState
  pub at : slice_get h.shards n ≡ Some first
  pub goes : Chain (GoesAt n) first rounds x'

pub came : (n : ℕ) (h h' : History ShardState) (ts : List (ShardTurn Handled)) → NextRound pppoe h ts h' → (x' : ShardHistory ShardState) → slice_get h'.shards n ≡ Some x' → Came n h ts x'
came n h h' ts next x' at =
    let here = at_third (NextInShard pppoe) h.shards ts h'.shards (in_shards pppoe h h' ts next) n x' at in
    let same : here.z ≡ x' = same_Some here.z x' (sym here.at_z ∙ at) in
    record { before = here.x; at = here.at_x; goes = record { turn = here.y; at = here.at_y; next = subst (NextInShard pppoe here.x here.y) same here.so } }

pub column : (n : ℕ) (h h' : History ShardState) (rounds : List (List (ShardTurn Handled))) → Run pppoe h rounds h' → (x' : ShardHistory ShardState) → slice_get h'.shards n ≡ Some x' → Column n h rounds x'
column n h h' [] run x' at = record { first = x'; at = ap (λ (k : History ShardState). slice_get k.shards n) (sym run) ∙ at; goes = refl }
column n h h' (ts ∷ rounds) run x' at =
    let rest = column n run.0 h' rounds run.2 x' at in
    let here = came n h run.0 ts run.1 rest.first rest.at in
    record { first = here.before; at = here.at; goes = (rest.first, here.goes, rest.goes) }

pub run_length : (h h' : History ShardState) (rounds : List (List (ShardTurn Handled))) → Run pppoe h rounds h' → length h'.shards ≡ length h.shards
run_length h h' [] run = ap (λ (k : History ShardState). length k.shards) run
run_length h h' (ts ∷ rounds) run = run_length run.0 h' rounds run.2 ∙ zip3_length (NextInShard pppoe) h.shards ts run.0.shards (in_shards pppoe h run.0 ts run.1)

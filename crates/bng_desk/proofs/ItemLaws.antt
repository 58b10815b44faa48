-- The items of a turn are items of a round.
use Rattle.std.proofs.Common.{◌≡◌, ℕ, suc, ◌+◌, ◌<◌, ◌≤◌, Bool, false, List, [], ◌∷◌, ◌++◌, map, cond, refl, sym, ap, ◌∙◌, arith}
use Rattle.std.specs.List.{All, AllPairs, filter, range_with_len}
use Rattle.std.proofs.lemmas.List.Elements.{All-nil, All-head, All-tail, All-append, All-map}
use Rattle.std.proofs.lemmas.List.FromFn.{length-range_with_len, get_or-range_with_len}
use Rattle.std.proofs.lemmas.List.Kept.{AllPairs-cons, AllPairs-filter}
use Rattle.std.proofs.lemmas.List.Sums.{sum_by-cons}
use Rattle.bng_base.specs.declared.item.Entry.{Entry}
use Rattle.bng_base.specs.declared.item.Item.{Item}
use Rattle.bng_base.specs.declared.item.ItemKind.TheVariants.{Tick, End}
use Rattle.bng_base.specs.declared.outside.Role.{Role}
use Rattle.bng_base.specs.declared.outside.Role.TheVariants.{Access, Core, Tunnel, Auth, Acct, Coa, Control}
use Rattle.bng_base.specs.FateOf.{Arrival}
use Rattle.bng_engine.specs.Views.{ShardView}
use Rattle.bng_steps.specs.Hearing.{outs_most}
use Rattle.bng_steps.specs.Protocol.{ShardState}
use Rattle.bng_desk.specs.Items.{DataReading, arrived, kind_of, drawn_from, for_shard, is_due, taken_items, ticks_of, ends_of}
use Rattle.bng_desk.specs.Random.{draw}
use Rattle.bng_desk.specs.Taking.{AreInOrder, is_once, outs_of_items}
use Rattle.bng_desk.proofs.Drawing.{drawn_all}

abbrev pub IsWhole : Item → Type 0
IsWhole i = i.frame.headroom ≡ 64

abbrev pub HasFew : ℕ → Item → Type 0
HasFew most i = outs_most i.kind ≤ most

abbrev pub IsTaken : Item → Type 0
IsTaken i = is_once i.kind ≡ false

abbrev pub IsBelow : Item → Item → Type 0
IsBelow a b = a.target < b.target

-- of what was taken ---------------------------------------------------------------------------------------------------

pub all_taken : (P : Item → Type 0) → ((role : Role) (a : Arrival) → P (arrived role a)) → (readings : List DataReading) → All P (taken_items readings)
all_taken P holds [] = All-nil P
all_taken P holds (r ∷ rs) = All-append P (map (arrived r.role) r.arrivals) (taken_items rs) (All-map P (arrived r.role) r.arrivals (λ k d l. holds r.role _)) (all_taken P holds rs)

pub taken_few : (role : Role) → outs_most (kind_of role) ≤ 10
taken_few (Access number) = omega arith
taken_few Core = omega arith
taken_few Tunnel = omega arith
taken_few Auth = omega arith
taken_few Acct = omega arith
taken_few Coa = omega arith
taken_few Control = omega arith

pub taken_twice : (role : Role) → is_once (kind_of role) ≡ false
taken_twice (Access number) = refl
taken_twice Core = refl
taken_twice Tunnel = refl
taken_twice Auth = refl
taken_twice Acct = refl
taken_twice Coa = refl
taken_twice Control = refl

-- of what is due ------------------------------------------------------------------------------------------------------

pairs_map : {X Y : Type 0} (R : Y → Y → Type 0) (f : X → Y) (xs : List X) → AllPairs (λ a b. R (f a) (f b)) xs → AllPairs R (map f xs)
pairs_map R f [] pairs = λ i j d low high. absurd (omega arith)
pairs_map R f (x ∷ xs) pairs =
    AllPairs-cons R (f x) (map f xs)
    (All-map (R (f x)) f xs (λ k d l. pairs 0 (suc k) d (omega arith) (omega arith)))
    (pairs_map R f xs (λ i j d low high. pairs (suc i) (suc j) d (omega arith) (omega arith)))

numbers_rise : (vs : List (ShardView ShardState Entry)) → AreInOrder vs → AllPairs (λ (a b : ShardView ShardState Entry). a.number < b.number) vs
numbers_rise vs order i j d low high = omega (arith, low, order i d (omega arith), order j d high)

pub ticks_rise : (moment : ℕ) (vs : List (ShardView ShardState Entry)) → AreInOrder vs → AllPairs IsBelow (ticks_of moment vs)
ticks_rise moment vs order =
    pairs_map IsBelow (λ (v : ShardView ShardState Entry). for_shard Tick v.number) (filter (is_due moment) vs)
    (AllPairs-filter (λ (a b : ShardView ShardState Entry). a.number < b.number) (is_due moment) vs (numbers_rise vs order))

pub ends_rise : (n : ℕ) → AllPairs IsBelow (ends_of n)
ends_rise n =
    pairs_map IsBelow (for_shard End) (range_with_len 0 n)
    (λ i j d low high. omega (arith, low, high, length-range_with_len 0 n, get_or-range_with_len 0 n i d (omega (arith, length-range_with_len 0 n)), get_or-range_with_len 0 n j d (omega (arith, length-range_with_len 0 n))))

pub all_due : (P : Item → Type 0) → ((shard : ℕ) → P (for_shard Tick shard)) → (moment : ℕ) (vs : List (ShardView ShardState Entry)) → All P (ticks_of moment vs)
all_due P holds moment vs = All-map P (λ (v : ShardView ShardState Entry). for_shard Tick v.number) (filter (is_due moment) vs) (λ k d l. holds _)

pub all_ends : (P : Item → Type 0) → ((shard : ℕ) → P (for_shard End shard)) → (n : ℕ) → All P (ends_of n)
all_ends P holds n = All-map P (for_shard End) (range_with_len 0 n) (λ k d l. holds _)

-- of items that draw their random octets ------------------------------------------------------------------------------

pairs_head : (x : Item) (xs : List Item) → AllPairs IsBelow (x ∷ xs) → All (IsBelow x) xs
pairs_head x xs pairs k d l = pairs 0 (suc k) d (omega arith) (omega arith)

pairs_tail : (x : Item) (xs : List Item) → AllPairs IsBelow (x ∷ xs) → AllPairs IsBelow xs
pairs_tail x xs pairs i j d low high = pairs (suc i) (suc j) d (omega arith) (omega arith)

pub drawn_rise : (seed : List ℕ) (n : ℕ) (is : List Item) → AllPairs IsBelow is → AllPairs IsBelow (drawn_from seed n is)
drawn_rise seed n [] pairs = λ i j d low high. absurd (omega arith)
drawn_rise seed n (i ∷ is) pairs =
    AllPairs-cons IsBelow _ _
    (drawn_all (IsBelow i) (λ j octets below. below) seed (n + 1) is (pairs_head i is pairs))
    (drawn_rise seed (n + 1) is (pairs_tail i is pairs))

pub drawn_outs : (seed : List ℕ) (n : ℕ) (is : List Item) → outs_of_items (drawn_from seed n is) ≡ outs_of_items is
drawn_outs seed n [] = refl
drawn_outs seed n (i ∷ is) =
    let f = λ (x : Item). outs_most x.kind in
    sum_by-cons f (record i { random = draw seed n }) (drawn_from seed (n + 1) is) ∙ ap (λ (k : ℕ). outs_most i.kind + k) (drawn_outs seed (n + 1) is) ∙ sym (sum_by-cons f i is)

-- what was taken may come more than once
pub none_kept : (is : List Item) → All IsTaken is → (js : List Item) → filter (λ (i : Item). is_once i.kind) (is ++ js) ≡ filter (λ (i : Item). is_once i.kind) js
none_kept [] all js = refl
none_kept (i ∷ is) all js =
    let kept = filter (λ (x : Item). is_once x.kind) (is ++ js) in
    ap (λ (b : Bool). cond b (i ∷ kept) kept) (All-head IsTaken i is all) ∙ none_kept is (All-tail IsTaken i is all) js

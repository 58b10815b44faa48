-- Items and the random octets that they draw.
use Rattle.std.proofs.Common.{◌≡◌, ℕ, suc, ◌+◌, ◌≤◌, List, [], ◌∷◌, ◌++◌, map, length, refl, sym, ap, ◌∙◌, append_assoc, arith}
use Rattle.std.specs.List.{All, filter}
use Rattle.std.proofs.lemmas.List.{map-append, length-append, length-map}
use Rattle.std.proofs.lemmas.List.Elements.{All-nil, All-cons, All-head, All-tail, filter-append}
use Rattle.std.proofs.lemmas.List.FromFn.{length-map-range_with_len, map-range_with_len_more}
use Rattle.std.proofs.lemmas.List.Sums.{count_by-le-length, length-filter}
use Rattle.bng_base.specs.declared.item.Entry.{Entry}
use Rattle.bng_base.specs.declared.item.Item.{Item}
use Rattle.bng_base.specs.declared.item.ItemKind.TheVariants.{Tick, End}
use Rattle.bng_engine.specs.Views.{ShardView}
use Rattle.bng_steps.specs.Protocol.{ShardState}
use Rattle.bng_desk.specs.Items.{drawn_from, for_shard, is_due, ticks_of, ends_of}
use Rattle.bng_desk.specs.Random.{draw, Drawn}

pub drawn_length : (seed : List ℕ) (n : ℕ) (is : List Item) → length (drawn_from seed n is) ≡ length is
drawn_length seed n [] = refl
drawn_length seed n (i ∷ is) = ap suc (drawn_length seed (n + 1) is)

-- those of one list after another draw on from where the first ended
pub drawn_append : (seed : List ℕ) (n : ℕ) (is js : List Item) → drawn_from seed n (is ++ js) ≡ drawn_from seed n is ++ drawn_from seed (n + length is) js
drawn_append seed n [] js = ap (λ (k : ℕ). drawn_from seed k js) (omega arith)
drawn_append seed n (i ∷ is) js =
    let next : n + 1 + length is ≡ n + length (i ∷ is) = omega arith in
    ap (λ (ds : List Item). record i { random = draw seed n } ∷ ds)
    (drawn_append seed (n + 1) is js ∙ ap (λ (k : ℕ). drawn_from seed (n + 1) is ++ drawn_from seed k js) next)

-- what does not depend on the random octets holds of items that draw them
pub drawn_all : (P : Item → Type 0) → ((i : Item) (octets : List ℕ) → P i → P (record i { random = octets })) → (seed : List ℕ) (n : ℕ) (is : List Item) → All P is → All P (drawn_from seed n is)
drawn_all P stays seed n [] all = All-nil P
drawn_all P stays seed n (i ∷ is) all = All-cons P _ _ (stays i (draw seed n) (All-head P i is all)) (drawn_all P stays seed (n + 1) is (All-tail P i is all))

pub ends_length : (n : ℕ) → length (ends_of n) ≡ n
ends_length n = length-map-range_with_len (for_shard End) 0 n

-- one shard more
pub ends_more : (n : ℕ) → ends_of (n + 1) ≡ ends_of n ++ for_shard End n ∷ []
ends_more n = map-range_with_len_more (for_shard End) 0 n n (omega arith)

abbrev tick_of : ShardView ShardState Entry → Item
tick_of v = for_shard Tick v.number

pub ticks_append : (moment : ℕ) (vs ws : List (ShardView ShardState Entry)) → ticks_of moment (vs ++ ws) ≡ ticks_of moment vs ++ ticks_of moment ws
ticks_append moment vs ws = ap (λ (us : List (ShardView ShardState Entry)). map tick_of us) (filter-append (is_due moment) vs ws) ∙ map-append tick_of (filter (is_due moment) vs) (filter (is_due moment) ws)

pub ticks_length : (moment : ℕ) (vs : List (ShardView ShardState Entry)) → length (ticks_of moment vs) ≤ length vs
ticks_length moment vs = omega (arith, length-map (filter (is_due moment) vs) tick_of, length-filter (is_due moment) vs, count_by-le-length (is_due moment) vs)

-- further items stand after those before, each with its own random octets
pub drawn_more : (seed : List ℕ) (n : ℕ) (old items items' is js : List Item) (draws : Drawn) → items ≡ old ++ drawn_from seed n is → draws ≡ record { seed = seed; drawn = n + length is }
    → items' ≡ items ++ drawn_from draws.seed draws.drawn js → items' ≡ old ++ drawn_from seed n (is ++ js)
drawn_more seed n old items items' is js draws so_far drawn here =
    here ∙ ap (λ (xs : List Item). xs ++ drawn_from draws.seed draws.drawn js) so_far
    ∙ ap (λ (d : Drawn). old ++ drawn_from seed n is ++ drawn_from d.seed d.drawn js) drawn
    ∙ append_assoc old (drawn_from seed n is) (drawn_from seed (n + length is) js)
    ∙ ap (λ (xs : List Item). old ++ xs) (sym (drawn_append seed n is js))

pub draws_more : (seed : List ℕ) (n k : ℕ) (draws draws' : Drawn) (is js : List Item) → draws ≡ record { seed = seed; drawn = n + length is } → draws' ≡ record draws { drawn = draws.drawn + k } → length js ≡ k
    → draws' ≡ record { seed = seed; drawn = n + length (is ++ js) }
draws_more seed n k draws draws' is js drawn here counted =
    here ∙ ap (λ (d : Drawn). record d { drawn = d.drawn + k }) drawn
    ∙ ap (λ (m : ℕ). record { seed = seed; drawn = m }) (omega (arith, counted, length-append is js))

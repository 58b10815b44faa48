use Rattle.std.proofs.Common.{◌≡◌, ℕ, ◌+◌, ◌<◌, ◌≤◌, Bool, true, false, refl, List, length, take, get_or, ap, ◌∙◌, arith}
use Rattle.std.proofs.lemmas.List.{take_all}
use Rattle.std.proofs.lemmas.List.Sums.{sum_by_more, sum_by_more_le}
use Rattle.bng_engine.specs.Quantities.{Quantity, Octets, Packets, in_book}
use Rattle.bng_steps.specs.Live.{live_in}
use Rattle.bng_desk.specs.Model.{live_of}
use Rattle.bng_desk.specs.Taking.{Shown, live_by}
use Rattle.bng_desk.proofs.InAll.{book_is, live_in_all, plus_in}
use Rattle.bng_desk.proofs.sums.live.Goals as goal

-- what a shard says
one_live : (q : Quantity) (input : Bool) (v : Shown) → in_book q input (live_in v.rows) ≡ live_by q input v
one_live Octets true v = refl
one_live Octets false v = refl
one_live Packets true v = refl
one_live Packets false v = refl

-- the shards before one, and it, say no more than all
so_far : (q : Quantity) (input : Bool) (vs : List Shown) (i : ℕ) (v : Shown) → v ≡ get_or vs i v → i < length vs → in_book q input (live_of (take i vs)) + in_book q input (live_in v.rows) ≤ in_book q input (live_of vs)
so_far q input vs i v is lt =
    omega (arith, live_in_all q input (take i vs), live_in_all q input vs, one_live q input v, sum_by_more_le (live_by q input) vs i v lt, ap (live_by q input) is)

more : (q : Quantity) (input : Bool) (vs : List Shown) (i : ℕ) (v : Shown) → v ≡ get_or vs i v → i < length vs → in_book q input (live_of (take i vs)) + in_book q input (live_in v.rows) ≡ in_book q input (live_of (take (i + 1) vs))
more q input vs i v is lt =
    omega (arith, live_in_all q input (take i vs), live_in_all q input (take (i + 1) vs), one_live q input v, sum_by_more (live_by q input) vs i v lt, ap (live_by q input) is)

pub live-requires : goal.live-requires
live-requires c = record { low = λ q input. omega (arith, so_far q input c.args.shards.now c.loop-shard.shard-index c.shard-item.result c.shard-item.is c.loop-shard-test.true, c.requires.low q input) }

pub plus_book-sum-requires : goal.plus_book-sum-requires
plus_book-sum-requires c = record {
  low = λ q input. omega (arith, so_far q input c.args.shards.now c.loop-shard.shard-index c.shard-item.result c.shard-item.is c.loop-shard-test.true, c.requires.low q input, ap (in_book q input) c.loop-shard.invariant, ap (in_book q input) c.live.ensures);
}

pub loop-shard-preserved : goal.loop-shard-preserved
loop-shard-preserved c =
    let vs = c.args.shards.now in
    let i = c.loop-shard.shard-index in
    let v = c.shard-item.result in
    let next = live_of (take (i + 1) vs) in
    book_is c.plus_book-sum.result next
    (λ q input.
    omega (
      arith,
      more q input vs i v c.shard-item.is c.loop-shard-test.true,
      ap (in_book q input) c.plus_book-sum.ensures,
      plus_in q input c.loop-shard.sum c.live.result,
      ap (in_book q input) c.loop-shard.invariant,
      ap (in_book q input) c.live.ensures,
    ))

pub returns : goal.returns
returns c = c.loop-shard.invariant ∙ ap live_of (let e : take c.loop-shard.shard-index c.args.shards.now ≡ c.args.shards.now = take_all c.loop-shard.shard-index c.args.shards.now (omega arith) in e)

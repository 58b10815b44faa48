use Rattle.std.proofs.Common.{◌≡◌, ◌+◌, ◌<◌, ◌≤◌, ◌^◌, ◌++◌, ℕ, List, [], ◌∷◌, length, take, length-append, refl, sym, ap, ◌∙◌, arith}
use Rattle.std.proofs.lemmas.List.{take_more, length-take-le}
use Rattle.bng_base.specs.declared.item.Entry.{Entry}
use Rattle.bng_base.specs.declared.item.Item.{Item}
use Rattle.bng_engine.specs.Views.{ShardView}
use Rattle.bng_steps.specs.Protocol.{ShardState}
use Rattle.bng_desk.specs.Items.{ticks_of, drawn_from}
use Rattle.bng_desk.specs.Random.{Drawn}
use Rattle.bng_desk.proofs.Drawing.{drawn_length, drawn_more, draws_more, ticks_append, ticks_length}
use Rattle.bng_desk.proofs.due.add_ticks.Goals as goal

-- no more Ticks than shards so far
few : (moment k : ℕ) (vs : List (ShardView ShardState Entry)) → k < length vs → length (ticks_of moment (take k vs)) ≤ k
few moment k vs l = omega (arith, l, ticks_length moment (take k vs), length-take-le k vs (omega (arith, l)))

pub add_tick-requires-clause-room : goal.add_tick-requires-clause-room
add_tick-requires-clause-room c =
    let k = c.loop-number.number in
    let vs = c.args.shards.now in
    let so_far = c.loop-number.invariant in
    let ticks = ticks_of c.args.now (take k vs) in
    let drawn = drawn_from c.args.draws.now.seed c.args.draws.now.drawn ticks in
    let room : length c.loop-number.items.items < c.loop-number.items.room =
    omega (arith, few c.args.now k vs c.loop-number-test.true, c.loop-number-test.true, ap (λ (is : List Item). length is) so_far.items, length-append c.args.items.now.items drawn, drawn_length c.args.draws.now.seed c.args.draws.now.drawn ticks, so_far.capacity, c.requires.room) in
    room

pub add_tick-requires-clause-drawn : goal.add_tick-requires-clause-drawn
add_tick-requires-clause-drawn c =
    let k = c.loop-number.number in
    let low : c.loop-number.draws.drawn < 2 ^ 62 =
    omega (arith, few c.args.now k c.args.shards.now c.loop-number-test.true, c.loop-number-test.true, ap (λ (d : Drawn). d.drawn) c.loop-number.invariant.draws, c.requires.drawn, c.requires.few) in
    low

pub loop-number-preserved : goal.loop-number-preserved
loop-number-preserved c =
    let k = c.loop-number.number in
    let vs = c.args.shards.now in
    let v = c.index-shards-number.result in
    let so_far = c.loop-number.invariant in
    let seed = c.args.draws.now.seed in
    let n = c.args.draws.now.drawn in
    let old = c.args.items.now.items in
    let before = ticks_of c.args.now (take k vs) in
    let here = ticks_of c.args.now (v ∷ []) in
    let more : before ++ here ≡ ticks_of c.args.now (take (k + 1) vs) =
    sym (ticks_append c.args.now (take k vs) (v ∷ []))
    ∙ ap (λ (w : ShardView ShardState Entry). ticks_of c.args.now (take k vs ++ w ∷ [])) c.index-shards-number.is
    ∙ ap (ticks_of c.args.now) (sym (take_more vs k v c.loop-number-test.true)) in
    record {
      items = drawn_more seed n old c.loop-number.items.items c.add_tick.new.items.items before here c.loop-number.draws so_far.items so_far.draws c.add_tick.ensures.items
          ∙ ap (λ (is : List Item). old ++ drawn_from seed n is) more;
      draws = draws_more seed n (length here) c.loop-number.draws c.add_tick.new.draws before here so_far.draws c.add_tick.ensures.drawn refl
          ∙ ap (λ (is : List Item). record { seed = seed; drawn = n + length is }) more;
      capacity = c.add_tick.ensures.capacity ∙ so_far.capacity;
    }

use Rattle.std.proofs.Common.{rules, ◌≡◌, ◌<◌, ℕ, Some, length, length-set, slice_get, slice_index_or, sym, ◌∙◌, subst, arith}
use Rattle.std.proofs.lemmas.Option.{slice_get_within}
use Rattle.bng_pool.specs.Seats.{SeatView as Hold}
use Rattle.bng_round.specs.Views.{PlacedView}
use Rattle.bng_round.specs.Telling.{IsTold}
use Rattle.bng_round.proofs.Places.{at_set_other}
use Rattle.bng_round.proofs.Tellings.{item_at, told_more}
use Rattle.bng_round.proofs.telling.hear_all.Goals as goal

pub hear_one-requires-clause-at : goal.hear_one-requires-clause-at
hear_one-requires-clause-at g c =
    let n : ℕ = c.loop-shard.shard-index in let d : PlacedView = c.shard-item.result in
    let low : n < length c.loop-shard.shards = search rules in
    (c.requires.at.0, (c.requires.at.1.holds n (slice_index_or c.loop-shard.shards n d) (sym (c.loop-shard.invariant.rest n (omega arith)) ∙ item_at c.loop-shard.shards n d low)).0)

pub loop-shard-preserved : goal.loop-shard-preserved
loop-shard-preserved g c =
    let inv = c.loop-shard.invariant in let did = c.hear_one.ensures in
    let n : ℕ = c.loop-shard.shard-index in let d : PlacedView = c.shard-item.result in let x : PlacedView = slice_index_or c.loop-shard.shards n d in
    let low : n < length c.loop-shard.shards = search rules in
    let here : slice_get c.loop-shard.shards n ≡ Some x = item_at c.loop-shard.shards n d low in
    record {
      from = did.same ∙ inv.from;
      count = length-set c.loop-shard.shards n c.hear_one.new.shard ∙ inv.count;
      rest = λ s high. at_set_other c.loop-shard.shards n s c.hear_one.new.shard (λ e. omega (arith, e, high)) ∙ inv.rest s (omega (arith, high));
      told = told_more c.args.from.now c.args.shards.now c.loop-shard.shards n x c.hear_one.new.shard (sym (inv.rest n (omega arith)) ∙ here) low (subst (λ (z : Hold). IsTold z x c.hear_one.new.shard) inv.from did.told) inv.told;
    }

pub returns-clause-told : goal.returns-clause-told
returns-clause-told t c s g g' e f = c.loop-shard.invariant.told s g g' (let low = slice_get_within c.loop-shard.shards s g' f in search rules) e f

use Rattle.std.proofs.Common.{rules, ◌≡◌, ◌<◌, ℕ, Some, length, slice_get, slice_index_or, slice_set, sym, ap, ◌∙◌}
use Rattle.std.proofs.lemmas.Option.{slice_get_within}
use Rattle.bng_round.specs.Views.{PlacedView}
use Rattle.bng_round.proofs.Answering.{goes_on}
use Rattle.bng_round.proofs.Tellings.{item_at, set_back, all_more}
use Rattle.bng_round.proofs.telling.tell_all.Goals as goal

pub tell_one-requires-clause-at : goal.tell_one-requires-clause-at
tell_one-requires-clause-at g c =
    let n : ℕ = c.loop-shard.shard-index in let d : PlacedView = c.shard-item.result in
    let low : n < length c.loop-shard.shards = search rules in
    (c.requires.at.0, (c.requires.at.1.holds n (slice_index_or c.loop-shard.shards n d) (ap (λ l. slice_get l n) (sym c.loop-shard.invariant.same) ∙ item_at c.loop-shard.shards n d low)).0)

pub loop-shard-preserved : goal.loop-shard-preserved
loop-shard-preserved g c =
    let inv = c.loop-shard.invariant in let did = c.tell_one.ensures in
    let n : ℕ = c.loop-shard.shard-index in let d : PlacedView = c.shard-item.result in let x : PlacedView = slice_index_or c.loop-shard.shards n d in
    let low : n < length c.loop-shard.shards = search rules in
    let here : slice_get c.loop-shard.shards n ≡ Some x = item_at c.loop-shard.shards n d low in
    record {
      same = ap (λ z. slice_set c.loop-shard.shards n z) did.same ∙ (set_back c.loop-shard.shards n x here ∙ inv.same);
      goes = goes_on c.args.to.now c.loop-shard.to c.tell_one.new.to inv.goes did.goes;
      held = did.held ∙ inv.held;
      knows = all_more c.loop-shard.to c.tell_one.new.to did.goes c.args.shards.now n x (ap (λ l. slice_get l n) (sym inv.same) ∙ here) did.knows inv.knows;
    }

pub returns-clause-knows : goal.returns-clause-knows
returns-clause-knows g c j q e = c.loop-shard.invariant.knows j q (let low = slice_get_within c.args.shards.now j q e in search rules) e

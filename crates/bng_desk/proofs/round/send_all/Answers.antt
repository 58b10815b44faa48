use Rattle.std.proofs.Common.{◌∙◌, ◌+◌, ◌*◌, ◌^◌, List, [], length, take, get_or, refl, sym, ap, subst, arith}
use Rattle.std.specs.List.{count_by, sum_by}
use Rattle.std.proofs.lemmas.List.Sums.{count_by-le-length, sum_by_more_le}
use Rattle.bng_base.specs.declared.item.Entry.{Entry}
use Rattle.bng_base.specs.declared.item.OutRecord.{OutRecord}
use Rattle.bng_engine.specs.Views.{ShardView}
use Rattle.bng_engine.proofs.Walks.{same_at}
use Rattle.bng_steps.specs.Protocol.{ShardState}
use Rattle.bng_steps.specs.Sums.{RowsAreLow}
use Rattle.bng_desk.specs.Round.{is_failed}
use Rattle.bng_desk.specs.Taking.{IsLight, joined}
use Rattle.bng_desk.proofs.Sending.{failed_within}
use Rattle.bng_desk.proofs.Settling.{settles_none, settles_more, settles_them, next_covered, joined_count, falls_low, turns_at}
use Rattle.bng_desk.proofs.round.send_all.Goals as goal

pub loop-shard-init : goal.loop-shard-init
loop-shard-init g c = record {
  settles = settles_none c.args.shards.now (g.P.Plant.told c.args.plant.now) c.args.outs.now.items c.args.journals.now.items c.args.drops.now c.args.tally.now c.requires.outs c.requires.journals;
  outs_room = omega arith;
  journals_room = refl;
}

pub send_outs-journal-requires-clause-turns : goal.send_outs-journal-requires-clause-turns
send_outs-journal-requires-clause-turns g c =
    let i = c.loop-shard.shard-index in let d = c.shard-item.result in
    turns_at c.args.shards.now i d (get_or c.loop-shard.shards i d) c.loop-shard-test.true (same_at c.args.shards.now c.loop-shard.shards i d c.loop-shard.invariant.settles.rest) c.requires.turning

pub send_outs-journal-requires-clause-low : goal.send_outs-journal-requires-clause-low
send_outs-journal-requires-clause-low g c =
    let i = c.loop-shard.shard-index in let d = c.shard-item.result in
    subst (λ (v : ShardView ShardState Entry). RowsAreLow (2 ^ 62 + 2 ^ 61) v.rows) (sym (same_at c.args.shards.now c.loop-shard.shards i d c.loop-shard.invariant.settles.rest)) (c.requires.low i d c.loop-shard-test.true)

pub send_outs-journal-requires-clause-light : goal.send_outs-journal-requires-clause-light
send_outs-journal-requires-clause-light g c =
    let i = c.loop-shard.shard-index in let d = c.shard-item.result in
    subst (λ (v : ShardView ShardState Entry). IsLight (4160 * 1024) v.outs) (sym (same_at c.args.shards.now c.loop-shard.shards i d c.loop-shard.invariant.settles.rest)) (c.requires.light i d c.loop-shard-test.true)

pub send_outs-journal-requires-clause-room : goal.send_outs-journal-requires-clause-room
send_outs-journal-requires-clause-room g c =
    let was = c.loop-shard.invariant.settles in
    let i = c.loop-shard.shard-index in let d = c.shard-item.result in
    let number = joined_count (take i c.args.shards.now) (take i c.loop-shard.shards) was.sends was.done in
    let within = sum_by_more_le (λ (v : ShardView ShardState Entry). length v.outs) c.args.shards.now i d c.loop-shard-test.true in
    let here = ap (λ (v : ShardView ShardState Entry). length v.outs) (same_at c.args.shards.now c.loop-shard.shards i d was.rest) in
    omega (arith, number, within, here, ap (λ (xs : List OutRecord). length xs) was.outs_are, c.requires.outs_room, c.loop-shard.invariant.outs_room)

pub send_outs-journal-requires-clause-few : goal.send_outs-journal-requires-clause-few
send_outs-journal-requires-clause-few g c =
    let was = c.loop-shard.invariant.settles in
    let i = c.loop-shard.shard-index in let d = c.shard-item.result in
    let within = sum_by_more_le (λ (v : ShardView ShardState Entry). length v.outs) c.args.shards.now i d c.loop-shard-test.true in
    let here = ap (λ (v : ShardView ShardState Entry). length v.outs) (same_at c.args.shards.now c.loop-shard.shards i d was.rest) in
    omega (arith, within, here, c.requires.few)

pub send_outs-journal-requires-clause-drops : goal.send_outs-journal-requires-clause-drops
send_outs-journal-requires-clause-drops g c =
    let was = c.loop-shard.invariant.settles in
    let i = c.loop-shard.shard-index in let d = c.shard-item.result in
    let number = joined_count (take i c.args.shards.now) (take i c.loop-shard.shards) was.sends was.done in
    let within = sum_by_more_le (λ (v : ShardView ShardState Entry). length v.outs) c.args.shards.now i d c.loop-shard-test.true in
    failed_within (2 ^ 62) (count_by is_failed (joined was.sends)) (2 ^ 62 + 2 ^ 61) c.args.drops.now c.loop-shard.drops
    (omega (arith, number, within, c.requires.few, count_by-le-length is_failed (joined was.sends))) c.requires.drops was.drops_are

pub send_outs-journal-requires-clause-covered : goal.send_outs-journal-requires-clause-covered
send_outs-journal-requires-clause-covered g c =
    let told = g.P.Plant.told in
    let i = c.loop-shard.shard-index in let d = c.shard-item.result in
    next_covered c.args.shards.now c.loop-shard.shards i d (told c.args.plant.now) (told c.loop-shard.plant) (told c.loop-shard.plant) c.loop-shard.outs.items c.loop-shard.outs.items c.loop-shard.journals.items c.loop-shard.journals.items [] c.args.drops.now c.loop-shard.drops c.loop-shard.drops
    c.args.tally.now c.loop-shard.tally c.loop-shard.tally c.loop-shard-test.true c.loop-shard.invariant.settles c.requires.covered (λ f. omega (arith, sum_by_more_le f c.args.shards.now i d c.loop-shard-test.true))

pub loop-shard-preserved : goal.loop-shard-preserved
loop-shard-preserved g c =
    let told = g.P.Plant.told in
    let i = c.loop-shard.shard-index in
    record {
      settles = settles_more c.args.shards.now c.loop-shard.shards i c.shard-item.result (told c.args.plant.now) (told c.loop-shard.plant) (told c.send_outs-journal.new.plant)
          c.loop-shard.outs.items c.send_outs-journal.new.outs.items c.loop-shard.journals.items c.push_reserved.new.self.items c.send_outs-journal.result.items c.args.drops.now c.loop-shard.drops c.send_outs-journal.new.drops
          c.args.tally.now c.loop-shard.tally c.send_outs-journal.new.tally
          c.loop-shard-test.true c.loop-shard.auto.shards c.send_outs-journal.new.shard c.loop-shard.invariant.settles c.send_outs-journal.ensures.sends
          c.of_batch.result c.push_reserved.ensures.items c.of_batch.ensures;
      outs_room = c.send_outs-journal.ensures.capacity ∙ c.loop-shard.invariant.outs_room;
      journals_room = omega (arith, c.push_reserved.ensures.capacity, c.loop-shard.invariant.journals_room);
    }

pub returns-clause-sends : goal.returns-clause-sends
returns-clause-sends g c =
    let told = g.P.Plant.told in
    settles_them c.args.shards.now c.loop-shard.shards c.loop-shard.shard-index (told c.args.plant.now) (told c.loop-shard.plant) c.loop-shard.outs.items c.loop-shard.journals.items c.args.drops.now c.loop-shard.drops c.args.tally.now c.loop-shard.tally (omega arith) c.loop-shard.auto.shards c.loop-shard.invariant.settles

pub returns-clause-tally : goal.returns-clause-tally
returns-clause-tally g c most low = falls_low c.args.tally.now c.loop-shard.tally (joined c.loop-shard.invariant.settles.sends) c.loop-shard.invariant.settles.falls most low

pub returns-clause-within : goal.returns-clause-within
returns-clause-within g c most within =
    let told = g.P.Plant.told in
    let s = settles_them c.args.shards.now c.loop-shard.shards c.loop-shard.shard-index (told c.args.plant.now) (told c.loop-shard.plant) c.loop-shard.outs.items c.loop-shard.journals.items c.args.drops.now c.loop-shard.drops c.args.tally.now c.loop-shard.tally (omega arith) c.loop-shard.auto.shards c.loop-shard.invariant.settles in
    failed_within most (count_by is_failed (joined s.sends)) (most + sum_by (λ (v : ShardView ShardState Entry). length v.outs) c.args.shards.now) c.args.drops.now c.loop-shard.drops
    (omega (arith, joined_count c.args.shards.now c.loop-shard.shards s.sends s.each, count_by-le-length is_failed (joined s.sends))) within s.drops_are

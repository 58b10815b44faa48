use Rattle.std.proofs.Common.{◌≡◌, vec_capacity}
use Rattle.bng_desk.proofs.Settling.{SettlesSome}
use Rattle.bng_desk.proofs.round.send_all.Given as goal

abbrev pub invariant-loop-shard : goal.invariant-loop-shard
invariant-loop-shard g l =
    let told = g.P.Plant.told in
    record {
      settles : SettlesSome l.initial.shards l.shards l.shard-index (told l.fn.plant) (told l.plant) l.outs.items l.journals.items l.fn.drops l.drops l.fn.tally l.tally;
      outs_room : l.outs.room ≡ l.fn.outs.room;
      journals_room : vec_capacity l.journals ≡ vec_capacity l.fn.journals;
    }

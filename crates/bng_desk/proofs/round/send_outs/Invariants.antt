use Rattle.std.proofs.Common.{◌≡◌, ◌+◌, length, drop}
use Rattle.bng_desk.proofs.Sending.{SendsSome}
use Rattle.bng_desk.proofs.round.send_outs.Given as goal

-- the outs so far were sent, and stand among those of the turn
abbrev pub invariant-loop-out : goal.invariant-loop-out
invariant-loop-out g l =
    let told = g.P.Plant.told in
    record {
      sends : SendsSome l.fn.shard l.shard (told l.fn.plant) (told l.plant) l.fn.outs.items l.outs.items (drop l.out-index l.out-items) l.fn.drops l.drops l.fn.tally l.tally;
      count : length l.outs.items ≡ length l.fn.outs.items + l.out-index;
      room : l.outs.room ≡ l.fn.outs.room;
    }

use Rattle.std.proofs.Common.{◌≡◌, ◌+◌, ◌++◌, length, take}
use Rattle.bng_desk.specs.Items.{ticks_of, drawn_from}
use Rattle.bng_desk.proofs.due.add_ticks.Given as goal

-- the Ticks of the shards so far stand after the items before
abbrev pub invariant-loop-number : goal.invariant-loop-number
invariant-loop-number l =
    let ticks = ticks_of l.now (take l.number l.shards) in
    record {
      items : l.items.items ≡ l.fn.items.items ++ drawn_from l.fn.draws.seed l.fn.draws.drawn ticks;
      draws : l.draws ≡ record l.fn.draws { drawn = l.fn.draws.drawn + length ticks };
      capacity : l.items.room ≡ l.fn.items.room;
    }

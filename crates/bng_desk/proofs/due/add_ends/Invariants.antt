use Rattle.std.proofs.Common.{◌≡◌, ◌+◌, ◌++◌, length}
use Rattle.bng_desk.specs.Items.{ends_of, drawn_from}
use Rattle.bng_desk.proofs.due.add_ends.Given as goal

-- the Ends of the shards so far stand after the items before
abbrev pub invariant-loop-number : goal.invariant-loop-number
invariant-loop-number l =
    record {
      items : l.items.items ≡ l.fn.items.items ++ drawn_from l.fn.draws.seed l.fn.draws.drawn (ends_of l.number);
      count : length l.items.items ≡ length l.fn.items.items + l.number;
      draws : l.draws ≡ record l.fn.draws { drawn = l.fn.draws.drawn + l.number };
      capacity : l.items.room ≡ l.fn.items.room;
    }

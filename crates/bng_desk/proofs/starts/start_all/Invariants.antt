use Rattle.std.proofs.Common.{◌-◌, ◌≤◌, length, take}
use Rattle.bng_desk.specs.Taking.{BooksStarts}
use Rattle.bng_desk.proofs.ShardKeys.{keys_of}
use Rattle.bng_desk.proofs.starts.start_all.Given as goal

-- the Starts of the terms so far were formed
abbrev pub invariant-loop-term : goal.invariant-loop-term
invariant-loop-term l = record {
  booked : BooksStarts l.shard.state.slots.terms l.moment l.wall (take l.place (keys_of l.shard)) l.fn.accounts l.accounts;
  within : l.place ≤ length (keys_of l.shard);
}

-- how many terms are left
abbrev pub decreases-loop-term : goal.decreases-loop-term
decreases-loop-term l = length (keys_of l.shard) - l.place

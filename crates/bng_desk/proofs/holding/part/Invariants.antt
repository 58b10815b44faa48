use Rattle.std.proofs.Common.{◌≡◌, ◌++◌, take, vec_capacity}
use Rattle.bng_engine.proofs.Walks.{Walked}
use Rattle.bng_desk.specs.Items.{kept_of}
use Rattle.bng_desk.proofs.Staying.{IsParted}
use Rattle.bng_desk.proofs.holding.part.Given as goal

-- the items so far that stay were moved
abbrev pub invariant-loop-item : goal.invariant-loop-item
invariant-loop-item l = record {
  walked : Walked IsParted l.initial.item-items l.item-items l.item-index;
  kept : l.kept.items ≡ l.fn.kept.items ++ kept_of (take l.item-index l.initial.item-items);
  room : vec_capacity l.kept ≡ vec_capacity l.fn.kept;
}

use Rattle.std.proofs.Common.{◌≡◌, ◌++◌, take}
use Rattle.bng_desk.proofs.lists.move_all.Given as goal

-- the items so far were moved
abbrev pub invariant-loop-item : goal.invariant-loop-item
invariant-loop-item l = record {
  moved : l.to.items ≡ l.fn.to.items ++ take l.item-index l.item-items;
  room : l.to.room ≡ l.fn.to.room;
}

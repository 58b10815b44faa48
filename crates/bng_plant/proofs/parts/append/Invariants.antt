use Rattle.std.proofs.Common.{◌≡◌, ◌+◌, ◌++◌, take, vec_len, vec_capacity}
use Rattle.bng_plant.proofs.parts.append.Given as goal

abbrev pub invariant-loop-item : goal.invariant-loop-item
invariant-loop-item g l = record {
  copied : l.to.items ≡ l.fn.to.items ++ take l.item-index l.from;
  room : vec_capacity l.to ≡ vec_capacity l.fn.to;
  count : vec_len l.to ≡ vec_len l.fn.to + l.item-index;
}

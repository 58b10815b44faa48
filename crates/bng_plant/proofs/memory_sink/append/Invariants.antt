use Rattle.std.proofs.Common.{◌≡◌, ◌+◌, ◌++◌, take, vec_len, vec_capacity}
use Rattle.bng_plant.proofs.memory_sink.append.Given as goal

abbrev pub invariant-loop-octet : goal.invariant-loop-octet
invariant-loop-octet l = record {
  copied : l.to.items ≡ l.fn.to.items ++ take l.octet-index l.from;
  room : vec_capacity l.to ≡ vec_capacity l.fn.to;
  count : vec_len l.to ≡ vec_len l.fn.to + l.octet-index;
}

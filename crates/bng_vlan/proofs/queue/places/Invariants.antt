use Rattle.std.proofs.Common.{◌≡◌, vec_len, vec_capacity}
use Rattle.bng_vlan.specs.Ring.{HaveHeadroom}
use Rattle.bng_vlan.proofs.queue.places.Given as goal

abbrev pub invariant-loop : goal.invariant-loop
invariant-loop l = record { size : vec_len l.places ≡ l.counter; room : vec_capacity l.places ≡ 17; headroom : HaveHeadroom l.places.items }

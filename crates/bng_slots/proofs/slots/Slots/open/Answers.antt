use Rattle.std.proofs.Common.{◌∙◌, ap, arith, ◌+◌, ◌*◌}
use Rattle.bng_slots.specs.Inside.{by_number}
use Rattle.bng_slots.proofs.Numbered.{places_none}
use Rattle.bng_slots.proofs.SlotLaws.{opened}
use Rattle.bng_slots.proofs.slots.Slots.open.Goals as goal

pub invariant_of-result : goal.invariant_of-result
invariant_of-result g c = opened _ _ _ _ _ _ _ _ _ _ _ c.requires c.in_ok-open.ensures c.open-6.ensures
    (c.in_ok-circuits.ensures.empty, omega (arith, c.in_ok-circuits.ensures.room))
    (c.in_ok-addresses.ensures.empty, omega (arith, c.in_ok-addresses.ensures.room))
    (c.in_ok-terms.ensures.empty, omega (arith, c.in_ok-terms.ensures.room))
    (c.in_ok-deadlines.ensures.empty, omega (arith, c.in_ok-deadlines.ensures.room))

pub returns-clause-vacant : goal.returns-clause-vacant
returns-clause-vacant g c = ap (by_number c.args.shard) c.in_ok-open.ensures ∙ places_none (c.args.shard * 1024 + 1) 1022

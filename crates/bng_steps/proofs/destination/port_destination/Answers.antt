use Rattle.std.proofs.Common.{ℕ, List, refl, inl, ap}
use Rattle.bng_base.specs.FateOf.{Arrival}
use Rattle.bng_steps.proofs.NoFrames.{no_frame}
use Rattle.bng_steps.proofs.destination.port_destination.Goals as goal

pub returns-in-None-clause-is : goal.returns-in-None-clause-is
returns-in-None-clause-is c =
    let item = c.args.item.now in
    let same = ap (λ (o : List ℕ). let a : Arrival = record { from = item.from; cut = item.cut; octets = o } in a) c.payload.ensures.octets in
    inl (no_frame c.as_slice.result.now c.args.rules.now.access c.args.number (record { from = item.from; cut = item.cut; octets = c.payload.result.now }) (record { from = item.from; cut = item.cut; octets = item.frame.payload }) c.as_slice.ensures same c.in-None.ensures.none, refl)

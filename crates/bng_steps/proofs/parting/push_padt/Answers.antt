use Rattle.std.proofs.Common.{ap, refl}
use Rattle.bng_base.specs.Packet.{Packet}
use Rattle.bng_discovery.specs.Reply.{padt_of}
use Rattle.bng_steps.proofs.parting.push_padt.Goals as goal

pub returns-clause-items : goal.returns-clause-items
returns-clause-items c =
    let made = padt_of c.args.offers.now c.args.mac c.args.session.0 in
    c.push_written.ensures.items made (ap (λ (f : Packet). f.payload) c.terminate.ensures) (c.between.ensures made refl refl)

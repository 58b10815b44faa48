use Rattle.std.proofs.Common.{sym, subst}
use Rattle.bng_lns.specs.declared.datagram.TunnelDatagram.{TunnelDatagram}
use Rattle.bng_steps.specs.Destinations.{IsForRead}
use Rattle.bng_steps.proofs.destination.datagram_destination.Goals as goal

pub returns-in-Control-clause-is : goal.returns-in-Control-clause-is
returns-in-Control-clause-is c = subst (λ (d : TunnelDatagram). IsForRead c.args.rules.now c.args.from d c.message_destination.result) (sym c.in-Control.is) c.message_destination.ensures.is

pub returns-in-Data-clause-is : goal.returns-in-Data-clause-is
returns-in-Data-clause-is c = subst (λ (d : TunnelDatagram). IsForRead c.args.rules.now c.args.from d c.numbered_destination.result) (sym c.in-Data.is) c.numbered_destination.ensures.is

use Rattle.std.proofs.Common.{ℕ, List, inl, refl, subst}
use Rattle.bng_lns.specs.Datagrams.{IsNeither, IsReadAs}
use Rattle.bng_steps.proofs.Tunnelling.{for_datagram}
use Rattle.bng_steps.proofs.destination.tunnel_destination.Goals as goal

pub returns-in-Some-clause-is : goal.returns-in-Some-clause-is
returns-in-Some-clause-is c =
    let item = c.args.item.now in
    for_datagram c.args.rules.now item c.in-Some.datagram c.datagram_destination.result (subst (λ (octets : List ℕ). IsReadAs item.cut octets c.in-Some.datagram) c.payload.ensures.octets c.in-Some.ensures.found) c.datagram_destination.ensures.is

pub returns-in-None-clause-is : goal.returns-in-None-clause-is
returns-in-None-clause-is c = inl (subst (λ (octets : List ℕ). IsNeither c.args.item.now.cut octets) c.payload.ensures.octets c.in-None.ensures.none, refl)

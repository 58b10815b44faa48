use Rattle.std.proofs.Common.{ℕ, List, inl, refl, subst, arith}
use Rattle.bng_base.specs.declared.fate.DropCause.TheVariants.{Malformed}
use Rattle.bng_base.specs.declared.fate.Fate.TheVariants.{Dropped}
use Rattle.bng_lns.specs.Datagrams.{IsNeither, IsReadAs}
use Rattle.bng_steps.specs.Datagrams.{HearsTunnel}
use Rattle.bng_steps.specs.TermRows.{whole}
use Rattle.bng_steps.proofs.Carrying.{nothing_done}
use Rattle.bng_steps.proofs.SumsKept.{keeps_same}
use Rattle.bng_steps.proofs.l2tp.hear_tunnel.Goals as goal

pub hear_read-requires-clause-read : goal.hear_read-requires-clause-read
hear_read-requires-clause-read g c = subst (λ (octets : List ℕ). IsReadAs c.args.incoming.now.item.now.cut octets c.in-Some.datagram) c.payload.ensures.octets c.in-Some.ensures.found

pub hear_read-requires-clause-long : goal.hear_read-requires-clause-long
hear_read-requires-clause-long g c = omega (arith, c.payload.ensures.fits, c.requires.whole)

pub returns-in-None-clause-does : goal.returns-in-None-clause-does
returns-in-None-clause-does g c =
    let r = c.args.incoming.now.rules.now in
    let s = whole c.args.served.now c.args.terms.now in
    let item = c.args.incoming.now.item.now in
    let neither = subst (λ (octets : List ℕ). IsNeither item.cut octets) c.payload.ensures.octets c.in-None.ensures.none in
    nothing_done r s c.args.incoming.now.at item c.args.outs.now.items c.requires.here (λ e d. HearsTunnel r s e d) 10 (Dropped Malformed) (λ moment. inl (neither, refl)) c.args.incoming.now.moment

pub returns-in-None-clause-sums : goal.returns-in-None-clause-sums
returns-in-None-clause-sums g c = keeps_same c.args.terms.now

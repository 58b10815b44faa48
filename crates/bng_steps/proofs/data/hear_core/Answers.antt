use Rattle.std.proofs.Common.{ℕ, List, inl, inr, refl, subst, arith}
use Rattle.bng_base.specs.declared.fate.Fate.TheVariants.{Dropped}
use Rattle.bng_base.specs.declared.fate.DropCause.TheVariants.{Malformed}
use Rattle.bng_base.specs.declared.ipv4.Ipv4.{Ipv4}
use Rattle.bng_forward.specs.Fates.{IsCorePacket}
use Rattle.bng_steps.specs.Frames.{HearsCore, HearsPacket}
use Rattle.bng_steps.specs.TermRows.{whole}
use Rattle.bng_steps.proofs.Arriving.{does_more}
use Rattle.bng_steps.proofs.Carrying.{nothing_done}
use Rattle.bng_steps.proofs.data.hear_core.Goals as goal

pub returns-in-Some-clause-does : goal.returns-in-Some-clause-does
returns-in-Some-clause-does g c =
    let r = c.args.incoming.now.rules.now in
    let s = whole c.args.served.now c.args.terms.now in
    let item = c.args.incoming.now.item.now in
    let header = c.in-Some.header in
    let came = subst (λ (octets : List ℕ). IsCorePacket r.core_peer (record { from = item.from; cut = item.cut; octets = octets }) header) c.payload.ensures.octets c.in-Some.ensures.found in
    does_more s (whole c.hear_packet.new.served c.args.terms.now) c.args.outs.now.items c.hear_packet.new.outs.items c.args.incoming.now.at c.args.incoming.now.moment item c.hear_packet.result (λ e d. HearsPacket r s e header d) (λ e d. HearsCore r s e d) 1 1 (omega arith)
    (λ d says. inr (header, came, says)) c.hear_packet.ensures.does

pub returns-in-None-clause-does : goal.returns-in-None-clause-does
returns-in-None-clause-does g c =
    let r = c.args.incoming.now.rules.now in
    let s = whole c.args.served.now c.args.terms.now in
    let item = c.args.incoming.now.item.now in
    let none = subst (λ (octets : List ℕ). (v : Ipv4) → ¬ (IsCorePacket r.core_peer (record { from = item.from; cut = item.cut; octets = octets }) v)) c.payload.ensures.octets c.in-None.ensures.none in
    nothing_done r s c.args.incoming.now.at item c.args.outs.now.items c.requires.here (λ e d. HearsCore r s e d) 1 (Dropped Malformed) (λ moment. inl (none, refl)) c.args.incoming.now.moment

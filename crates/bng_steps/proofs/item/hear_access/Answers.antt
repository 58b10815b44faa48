use Rattle.std.proofs.Common.{ℕ, List, inl, inr, refl, ap, subst, arith}
use Rattle.bng_base.specs.declared.fate.Fate.TheVariants.{Dropped}
use Rattle.bng_base.specs.declared.fate.DropCause.TheVariants.{Malformed}
use Rattle.bng_base.specs.FateOf.{Arrival}
use Rattle.bng_base.specs.declared.settings.AccessPort.{AccessPort}
use Rattle.bng_forward.specs.Fates.{IsFrame}
use Rattle.bng_pppoe_wire.specs.View.{frame_of}
use Rattle.bng_steps.specs.Frames.{HearsAccess, HearsFrame}
use Rattle.bng_steps.specs.TermRows.{whole}
use Rattle.bng_steps.proofs.Arriving.{does_more}
use Rattle.bng_steps.proofs.Carrying.{nothing_done}
use Rattle.bng_steps.proofs.NoFrames.{no_frame}
use Rattle.bng_steps.proofs.item.hear_access.Goals as goal

pub returns-in-Some-clause-does : goal.returns-in-Some-clause-does
returns-in-Some-clause-does g c =
    let r = c.args.incoming.now.rules.now in
    let s = (whole c.args.served.now c.args.terms.now) in
    let item = c.args.incoming.now.item.now in
    let p = frame_of c.in-Some.frame in
    let taken : List ℕ → Arrival = λ octets. record { from = item.from; cut = item.cut; octets = octets } in
    let came : IsFrame r.access c.args.number (taken item.frame.payload) p =
    subst (λ (octets : List ℕ). IsFrame r.access c.args.number (taken octets) p) c.payload.ensures.octets
    (subst (λ (ports : List AccessPort). IsFrame ports c.args.number (taken c.payload.result.now) p) c.as_slice.ensures c.in-Some.ensures.found) in
    does_more s (whole c.hear_frame.new.served c.hear_frame.new.terms) c.args.outs.now.items c.hear_frame.new.outs.items c.args.incoming.now.at c.args.incoming.now.moment item c.hear_frame.result (λ e d. HearsFrame r s e c.args.number p d) (λ e d. HearsAccess r s e c.args.number d) 10 10
    (omega arith) (λ d says. inr (p, came, says)) c.hear_frame.ensures.does

pub returns-in-None-clause-does : goal.returns-in-None-clause-does
returns-in-None-clause-does g c =
    let item = c.args.incoming.now.item.now in
    let taken : List ℕ → Arrival = λ octets. record { from = item.from; cut = item.cut; octets = octets } in
    let none = no_frame c.as_slice.result.now c.args.incoming.now.rules.now.access c.args.number (taken c.payload.result.now) (taken item.frame.payload) c.as_slice.ensures (ap taken c.payload.ensures.octets) c.in-None.ensures.none in
    nothing_done c.args.incoming.now.rules.now (whole c.args.served.now c.args.terms.now) c.args.incoming.now.at item c.args.outs.now.items c.requires.here (λ e d. HearsAccess c.args.incoming.now.rules.now (whole c.args.served.now c.args.terms.now) e c.args.number d) 10 (Dropped Malformed) (λ moment. inl (none, refl)) c.args.incoming.now.moment

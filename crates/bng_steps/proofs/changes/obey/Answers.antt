use Rattle.std.proofs.Common.{◌∙◌, ℕ, Option, ap, sym}
use Rattle.bng_radius_wire.specs.Grammar.{whole as packet_of}
use Rattle.bng_steps.specs.Changes.{found_by, refusal_of, verdict_by}
use Rattle.bng_steps.specs.TermRows.{whole}
use Rattle.bng_steps.proofs.Obeying.{obeys_so, refuses}
use Rattle.bng_steps.proofs.changes.obey.Goals as goal

pub returns-in-Some-clause-verdict : goal.returns-in-Some-clause-verdict
returns-in-Some-clause-verdict g c =
    ap (λ (o : Option ℕ). verdict_by o (found_by c.args.incoming.now.rules.now (whole c.args.served.now c.args.terms.now) (packet_of c.args.request.now).attributes)) c.in-Some.ensures

pub returns-in-Some-clause-does : goal.returns-in-Some-clause-does
returns-in-Some-clause-does g c =
    let r = c.args.incoming.now.rules.now in
    let s = whole c.args.served.now c.args.terms.now in
    let p = packet_of c.args.request.now in
    refuses r s c.args.incoming.now.at c.args.incoming.now.item.now c.args.outs.now.items c.requires.here c.args.incoming.now.moment p (refusal_of r p) (found_by r s p.attributes) c.in-Some.cause (sym c.in-Some.ensures)

pub returns-in-None-clause-verdict : goal.returns-in-None-clause-verdict
returns-in-None-clause-verdict g c =
    c.obey_found.ensures.verdict
    ∙ ap (λ (o : Option ℕ). verdict_by o (found_by c.args.incoming.now.rules.now (whole c.args.served.now c.args.terms.now) (packet_of c.args.request.now).attributes)) c.in-None.ensures

pub returns-in-None-clause-does : goal.returns-in-None-clause-does
returns-in-None-clause-does g c =
    let r = c.args.incoming.now.rules.now in
    let s = whole c.args.served.now c.args.terms.now in
    let p = packet_of c.args.request.now in
    obeys_so r s c.args.incoming.now.at c.args.incoming.now.item.now c.args.outs.now.items c.requires.here c.args.incoming.now.moment (whole c.obey_found.new.served c.obey_found.new.terms) c.obey_found.new.outs.items p (refusal_of r p) (found_by r s p.attributes) (sym c.in-None.ensures)
    c.obey_found.ensures.does

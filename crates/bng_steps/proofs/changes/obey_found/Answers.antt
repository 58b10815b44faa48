use Rattle.std.proofs.Common.{None, ap, sym}
use Rattle.bng_radius_wire.specs.Grammar.{whole as packet_of}
use Rattle.bng_steps.specs.Changes.{found_by, verdict_by}
use Rattle.bng_steps.specs.TermRows.{whole}
use Rattle.bng_steps.proofs.Obeying.{finds_none, found_meant, none_meant_found, obeys_found}
use Rattle.bng_steps.proofs.changes.obey_found.Goals as goal

pub apply-requires-clause-found : goal.apply-requires-clause-found
apply-requires-clause-found g c = found_meant (found_by c.args.incoming.now.rules.now (whole c.args.served.now c.args.terms.now) (packet_of c.args.request.now).attributes) c.in-Some.meant c.in-Some.ensures

pub returns-in-Some-clause-verdict : goal.returns-in-Some-clause-verdict
returns-in-Some-clause-verdict g c =
    let (f, is, same) = found_meant (found_by c.args.incoming.now.rules.now (whole c.args.served.now c.args.terms.now) (packet_of c.args.request.now).attributes) c.in-Some.meant c.in-Some.ensures in
    sym (ap (verdict_by None) is)

pub returns-in-Some-clause-does : goal.returns-in-Some-clause-does
returns-in-Some-clause-does g c =
    let r = c.args.incoming.now.rules.now in
    let s = whole c.args.served.now c.args.terms.now in
    let p = packet_of c.args.request.now in
    let (f, is, same) = found_meant (found_by r s p.attributes) c.in-Some.meant c.in-Some.ensures in
    obeys_found r s c.args.incoming.now.at c.args.incoming.now.item.now c.args.outs.now.items c.requires.here c.args.incoming.now.moment (whole c.apply.new.served c.apply.new.terms) c.apply.new.outs.items p (found_by r s p.attributes) f is (c.apply.ensures.does f is)

pub returns-in-None-clause-verdict : goal.returns-in-None-clause-verdict
returns-in-None-clause-verdict g c =
    sym (ap (verdict_by None) (none_meant_found (found_by c.args.incoming.now.rules.now (whole c.args.served.now c.args.terms.now) (packet_of c.args.request.now).attributes) c.in-None.ensures))

pub returns-in-None-clause-does : goal.returns-in-None-clause-does
returns-in-None-clause-does g c =
    let r = c.args.incoming.now.rules.now in
    let s = whole c.args.served.now c.args.terms.now in
    let p = packet_of c.args.request.now in
    finds_none r s c.args.incoming.now.at c.args.incoming.now.item.now c.args.outs.now.items c.requires.here c.args.incoming.now.moment p (found_by r s p.attributes) (none_meant_found (found_by r s p.attributes) c.in-None.ensures)

use Rattle.std.proofs.Common.{refl}
use Rattle.bng_pppoe_wire.specs.View.{frame_of}
use Rattle.bng_steps.specs.TermRows.{whole}
use Rattle.bng_steps.proofs.Arriving.{by_discovery, by_data, by_control}
use Rattle.bng_steps.proofs.item.hear_frame.Goals as goal

pub hear_data-requires-clause-carries : goal.hear_data-requires-clause-carries
hear_data-requires-clause-carries g c = (c.in-Some.info.now, c.in-Some.ensures.found, refl)

pub returns-then-not-names_session-clause-does : goal.returns-then-not-names_session-clause-does
returns-then-not-names_session-clause-does g c =
    by_discovery (whole c.args.served.now c.args.terms.now) (whole c.hear_discovery.new.served c.args.terms.now) c.args.outs.now.items c.hear_discovery.new.outs.items c.args.incoming.now.at c.args.incoming.now.moment c.args.incoming.now.item.now c.hear_discovery.result c.args.incoming.now.rules.now c.args.number (frame_of c.args.frame.now)
    (c.names_session.ensures.no c.if-not-names_session.true) (c.hear_discovery.ensures.does c.args.terms.now)

pub returns-in-Some-clause-does : goal.returns-in-Some-clause-does
returns-in-Some-clause-does g c =
    by_data (whole c.args.served.now c.args.terms.now) (whole c.hear_data.new.served c.args.terms.now) c.args.outs.now.items c.hear_data.new.outs.items c.args.incoming.now.at c.args.incoming.now.moment c.args.incoming.now.item.now c.hear_data.result c.args.incoming.now.rules.now c.args.number (frame_of c.args.frame.now)
    c.in-Some.info.now c.in-Some.ensures.found (c.hear_data.ensures.does c.in-Some.info.now c.in-Some.ensures.found)

pub returns-in-None-clause-does : goal.returns-in-None-clause-does
returns-in-None-clause-does g c =
    by_control (whole c.args.served.now c.args.terms.now) (whole c.hear_control.new.served c.hear_control.new.terms) c.args.outs.now.items c.hear_control.new.outs.items c.args.incoming.now.at c.args.incoming.now.moment c.args.incoming.now.item.now c.hear_control.result c.args.incoming.now.rules.now c.args.number (frame_of c.args.frame.now)
    (c.names_session.ensures.yes c.if-not-names_session.false) c.in-None.ensures.none c.hear_control.ensures.does

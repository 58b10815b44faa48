use Rattle.bng_pppoe_wire.specs.View.{frame_of}
use Rattle.bng_ppp.specs.declared.input.Input.TheVariants.{Frame}
use Rattle.bng_ppp.specs.LinkRelation.{LinkSteps}
use Rattle.bng_steps.specs.TermRows.{whole}
use Rattle.bng_steps.proofs.Controls.{no_session, stays_idle, ends_it, hears_it}
use Rattle.bng_steps.proofs.Speaking.{heard}
use Rattle.bng_steps.proofs.frames.hear_control.Goals as goal

pub returns-in-Unknown-clause-does : goal.returns-in-Unknown-clause-does
returns-in-Unknown-clause-does g c =
    no_session c.args.incoming.now.rules.now (whole c.args.served.now c.args.terms.now) c.args.incoming.now.at c.args.incoming.now.item.now c.args.outs.now.items c.requires.here c.args.number (frame_of c.args.frame.now) c.in-Unknown.ensures c.args.incoming.now.moment

pub returns-in-Ignored-clause-does : goal.returns-in-Ignored-clause-does
returns-in-Ignored-clause-does g c =
    stays_idle c.args.incoming.now.rules.now (whole c.args.served.now c.args.terms.now) c.args.incoming.now.at c.args.incoming.now.item.now c.args.outs.now.items c.requires.here c.args.number (frame_of c.args.frame.now) c.in-Ignored.ensures c.args.incoming.now.moment

pub returns-then-frame-clause-does : goal.returns-then-frame-clause-does
returns-then-frame-clause-does g c =
    ends_it c.args.incoming.now.rules.now (whole c.args.served.now c.args.terms.now) c.args.incoming.now.at c.args.incoming.now.item.now c.args.outs.now.items c.requires.here c.args.number (frame_of c.args.frame.now) c.in-Heard.ensures c.if-frame.true (whole c.end_session.new.served c.end_session.new.terms) c.end_session.ensures.ended c.args.incoming.now.moment

pub returns-else-frame-clause-does : goal.returns-else-frame-clause-does
returns-else-frame-clause-does g c =
    hears_it c.args.incoming.now.rules.now (whole c.args.served.now c.args.terms.now) c.args.incoming.now.at c.args.incoming.now.item.now c.args.outs.now.items c.requires.here c.args.number (frame_of c.args.frame.now) (LinkSteps c.args.incoming.now.rules.now.link (Frame c.args.frame.now.payload) c.args.incoming.now.moment c.args.incoming.now.item.now.random) c.args.incoming.now.moment
    (λ old says new h. heard c.args.incoming.now.rules.now.link c.args.frame.now.payload.now c.args.incoming.now.moment c.args.incoming.now.item.now.random old says new h.turn h.cause h.goes h.said h.state) c.in-Heard.ensures c.if-frame.false (whole c.drive_at.new.served c.drive_at.new.terms) c.drive_at.new.outs.items c.drive_at.ensures.driven c.drive_at.ensures.few

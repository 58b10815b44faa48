use Rattle.bng_l2tp_wire.specs.View.{data_of}
use Rattle.bng_ppp.specs.LinkRelation.{LinkSteps}
use Rattle.bng_ppp.specs.declared.input.Input.TheVariants.{Frame}
use Rattle.bng_steps.specs.TermRows.{whole}
use Rattle.bng_steps.proofs.Controls.{call_hears_it, call_lives, call_stays_idle, no_call}
use Rattle.bng_steps.proofs.Speaking.{heard}
use Rattle.bng_steps.proofs.SumsKept.{keeps_same}
use Rattle.bng_steps.proofs.l2tp.hear_over.Goals as goal

pub drive_at-requires-clause-lives : goal.drive_at-requires-clause-lives
drive_at-requires-clause-lives g c = call_lives c.args.served.now c.args.incoming.now.item.now.from c.args.message.now.tunnel c.args.message.now.session c.in-Heard.ensures

pub returns-in-Unknown-clause-does : goal.returns-in-Unknown-clause-does
returns-in-Unknown-clause-does g c =
    no_call c.args.incoming.now.rules.now (whole c.args.served.now c.args.terms.now) c.args.incoming.now.at c.args.incoming.now.item.now c.args.outs.now.items c.requires.here (data_of c.args.message.now) c.in-Unknown.ensures c.args.incoming.now.moment

pub returns-in-Unknown-clause-sums : goal.returns-in-Unknown-clause-sums
returns-in-Unknown-clause-sums g c = keeps_same c.args.terms.now

pub returns-in-Ignored-clause-does : goal.returns-in-Ignored-clause-does
returns-in-Ignored-clause-does g c =
    call_stays_idle c.args.incoming.now.rules.now (whole c.args.served.now c.args.terms.now) c.args.incoming.now.at c.args.incoming.now.item.now c.args.outs.now.items c.requires.here (data_of c.args.message.now) c.in-Ignored.ensures c.args.incoming.now.moment

pub returns-in-Ignored-clause-sums : goal.returns-in-Ignored-clause-sums
returns-in-Ignored-clause-sums g c = keeps_same c.args.terms.now

pub returns-in-Heard-clause-does : goal.returns-in-Heard-clause-does
returns-in-Heard-clause-does g c =
    let r = c.args.incoming.now.rules.now in
    let now = c.args.incoming.now.moment in
    let random = c.args.incoming.now.item.now.random in
    call_hears_it r (whole c.args.served.now c.args.terms.now) c.args.incoming.now.at c.args.incoming.now.item.now c.args.outs.now.items c.requires.here (data_of c.args.message.now) (LinkSteps r.link (Frame c.args.message.now.ppp) now random) now
    (λ old says new h. heard r.link c.args.message.now.ppp.now now random old says new h.turn h.cause h.goes h.said h.state) c.in-Heard.ensures (whole c.drive_at.new.served c.drive_at.new.terms) c.drive_at.new.outs.items c.drive_at.ensures.driven c.drive_at.ensures.few

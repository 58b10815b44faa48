use Rattle.bng_steps.specs.TermRows.{whole}
use Rattle.bng_steps.proofs.SumsKept.{keeps_then}
use Rattle.bng_steps.proofs.Timing.{tick_done}
use Rattle.bng_steps.proofs.timers.tick.Goals as goal

pub tick_sessions-requires-clause-placed : goal.tick_sessions-requires-clause-placed
tick_sessions-requires-clause-placed g c = c.remind_tunnels.ensures.placed c.args.incoming.now.rules.now c.requires.placed

pub returns-clause-sums : goal.returns-clause-sums
returns-clause-sums g c = keeps_then c.args.terms.now c.remind_tunnels.new.terms c.tick_sessions.new.terms c.remind_tunnels.ensures.sums c.tick_sessions.ensures.sums

pub returns-clause-ticked : goal.returns-clause-ticked
returns-clause-ticked g c =
    tick_done c.args.incoming.now.rules.now c.args.incoming.now.at c.args.incoming.now.moment c.args.incoming.now.item.now.random (whole c.args.served.now c.args.terms.now) (whole c.remind_tunnels.new.served c.remind_tunnels.new.terms) (whole c.tick_sessions.new.served c.tick_sessions.new.terms)
    c.args.outs.now.items c.remind_tunnels.new.outs.items c.tick_sessions.new.outs.items c.remind_tunnels.ensures.shard c.remind_tunnels.ensures.reminded c.remind_tunnels.ensures.few c.tick_sessions.ensures.ticked

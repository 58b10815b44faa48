use Rattle.std.proofs.Common.{ap, arith, length, length-append}
use Rattle.bng_steps.specs.TermRows.{whole}
use Rattle.bng_steps.specs.State.{State}
use Rattle.bng_steps.proofs.Timing.{end_done}
use Rattle.bng_steps.proofs.timers.end.Goals as goal

pub stop_at_last-requires : goal.stop_at_last-requires
stop_at_last-requires g c =
    let ended = c.end_sessions.ensures.ended in
    record { room = omega (arith, c.requires.room, c.end_sessions.ensures.capacity, ended.few, ap length ended.outs_are, length-append c.args.outs.now.items ended.more) }

pub returns-clause-ended : goal.returns-clause-ended
returns-clause-ended g c =
    let terms = c.end_sessions.new.terms in
    let stopped = c.stop_at_last.ensures.stopped in
    end_done c.args.incoming.now.rules.now c.args.incoming.now.at c.args.incoming.now.moment (whole c.args.served.now c.args.terms.now) (whole c.end_sessions.new.served terms) (whole c.stop_at_last.new.served terms) c.stop_at_last.new.served.tunnels
    c.args.outs.now.items c.end_sessions.new.outs.items c.stop_at_last.new.outs.items stopped.more c.end_sessions.ensures.ended stopped.stops stopped.outs_are c.stop_at_last.ensures.few (ap (λ (q : State). whole q terms) c.stop_at_last.ensures.others)

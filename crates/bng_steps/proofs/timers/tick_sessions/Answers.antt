use Rattle.std.proofs.Common.{◌≡◌, ◌+◌, ◌≤◌, ℕ, length, subst, arith, rules}
use Rattle.bng_steps.specs.Timed.{Ticked}
use Rattle.bng_steps.specs.TermRows.{whole}
use Rattle.bng_steps.specs.Timers.{at_once}
use Rattle.bng_steps.proofs.SumsKept.{keeps_same, keeps_then}
use Rattle.bng_steps.proofs.Timing.{ticks_begin, ticks_more, ticks_done, ticks_stop}
use Rattle.bng_steps.proofs.timers.tick_sessions.Goals as goal

pub loop-init : goal.loop-init
loop-init g c = record {
  on = ticks_begin c.args.incoming.now.rules.now c.args.incoming.now.at c.args.incoming.now.moment c.args.incoming.now.item.now.random (whole c.args.served.now c.args.terms.now) c.args.outs.now.items;
  sums = keeps_same c.args.terms.now;
  placed = c.requires.placed;
  capacity = search rules;
  few = omega arith;
}

pub loop-preserved : goal.loop-preserved
loop-preserved g c = record {
  on = ticks_more c.args.incoming.now.rules.now c.args.incoming.now.at c.args.incoming.now.moment c.args.incoming.now.item.now.random (whole c.args.served.now c.args.terms.now) (whole c.loop.served c.loop.terms) c.args.outs.now.items c.loop.outs.items c.loop.counter (whole c.tick_once.new.served c.tick_once.new.terms) c.tick_once.new.outs.items c.loop.invariant.on c.if-not-tick_once.ensures.ticked;
  sums = keeps_then c.args.terms.now c.loop.terms c.tick_once.new.terms c.loop.invariant.sums c.if-not-tick_once.ensures.sums;
  placed = c.if-not-tick_once.ensures.placed;
  capacity = search rules;
  few = omega arith;
}

pub returns-then-not-tick_once-clause-ticked : goal.returns-then-not-tick_once-clause-ticked
returns-then-not-tick_once-clause-ticked g c =
    let few : length c.tick_once.new.outs.items ≤ length c.args.outs.now.items + 192 = omega arith in
    ticks_stop c.args.incoming.now.rules.now c.args.incoming.now.at c.args.incoming.now.moment c.args.incoming.now.item.now.random (whole c.args.served.now c.args.terms.now) (whole c.loop.served c.loop.terms) c.args.outs.now.items c.loop.outs.items c.loop.counter at_once (whole c.tick_once.new.served c.tick_once.new.terms) c.tick_once.new.outs.items c.loop-test.true c.loop.invariant.on c.if-not-tick_once.ensures.ticked few

pub returns-clause-ticked : goal.returns-clause-ticked
returns-clause-ticked g c =
    let all : c.loop.counter ≡ 64 = omega arith in
    let few : length c.loop.outs.items ≤ length c.args.outs.now.items + 192 = omega arith in
    subst (λ (n : ℕ). Ticked n c.args.incoming.now.rules.now c.args.incoming.now.at c.args.incoming.now.moment c.args.incoming.now.item.now.random (whole c.args.served.now c.args.terms.now) (whole c.loop.served c.loop.terms) c.args.outs.now.items c.loop.outs.items) all (ticks_done c.args.incoming.now.rules.now c.args.incoming.now.at c.args.incoming.now.moment c.args.incoming.now.item.now.random (whole c.args.served.now c.args.terms.now) (whole c.loop.served c.loop.terms) c.args.outs.now.items c.loop.outs.items c.loop.counter c.loop.invariant.on few)

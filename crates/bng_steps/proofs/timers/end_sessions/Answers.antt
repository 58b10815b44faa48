use Rattle.std.proofs.Common.{◌≡◌, ◌+◌, ◌≤◌, ℕ, length, subst, arith, rules}
use Rattle.bng_steps.specs.Timed.{Ended}
use Rattle.bng_steps.specs.TermRows.{whole}
use Rattle.bng_steps.specs.Timers.{at_once}
use Rattle.bng_steps.proofs.SumsKept.{keeps_same, keeps_then}
use Rattle.bng_steps.proofs.Timing.{ends_begin, ends_more, ends_done, ends_stop}
use Rattle.bng_steps.proofs.timers.end_sessions.Goals as goal

pub loop-init : goal.loop-init
loop-init g c = record {
  on = ends_begin c.args.rules.now c.args.at (whole c.args.served.now c.args.terms.now) c.args.outs.now.items;
  sums = keeps_same c.args.terms.now;
  placed = c.requires.placed;
  capacity = search rules;
  few = omega arith;
}

pub loop-preserved : goal.loop-preserved
loop-preserved g c = record {
  on = ends_more c.args.rules.now c.args.at (whole c.args.served.now c.args.terms.now) (whole c.loop.served c.loop.terms) c.args.outs.now.items c.loop.outs.items c.loop.counter (whole c.end_once.new.served c.end_once.new.terms) c.end_once.new.outs.items c.loop.invariant.on c.if-not-end_once.ensures.ended;
  sums = keeps_then c.args.terms.now c.loop.terms c.end_once.new.terms c.loop.invariant.sums c.if-not-end_once.ensures.sums;
  placed = c.if-not-end_once.ensures.placed;
  capacity = search rules;
  few = omega arith;
}

pub returns-then-not-end_once-clause-ended : goal.returns-then-not-end_once-clause-ended
returns-then-not-end_once-clause-ended g c =
    let few : length c.end_once.new.outs.items ≤ length c.args.outs.now.items + 64 = omega arith in
    ends_stop c.args.rules.now c.args.at (whole c.args.served.now c.args.terms.now) (whole c.loop.served c.loop.terms) c.args.outs.now.items c.loop.outs.items c.loop.counter at_once (whole c.end_once.new.served c.end_once.new.terms) c.end_once.new.outs.items c.loop-test.true c.loop.invariant.on c.if-not-end_once.ensures.ended few

pub returns-clause-ended : goal.returns-clause-ended
returns-clause-ended g c =
    let all : c.loop.counter ≡ 64 = omega arith in
    let few : length c.loop.outs.items ≤ length c.args.outs.now.items + 64 = omega arith in
    subst (λ (n : ℕ). Ended n c.args.rules.now c.args.at (whole c.args.served.now c.args.terms.now) (whole c.loop.served c.loop.terms) c.args.outs.now.items c.loop.outs.items) all (ends_done c.args.rules.now c.args.at (whole c.args.served.now c.args.terms.now) (whole c.loop.served c.loop.terms) c.args.outs.now.items c.loop.outs.items c.loop.counter c.loop.invariant.on few)

use Rattle.std.proofs.Common.{◌≡◌, refl, ◌∙◌, arith, rules}
use Rattle.bng_steps.specs.TermRows.{whole}
use Rattle.bng_steps.proofs.Reminding.{reminds_begin, reminds_done, reminds_more}
use Rattle.bng_steps.proofs.SumsKept.{keeps_same, keeps_then}
use Rattle.bng_steps.proofs.in_turn.remind_tunnels.Goals as goal

pub loop-place-init : goal.loop-place-init
loop-place-init g c = record {
  on = reminds_begin c.args.at c.args.now (whole c.args.served.now c.args.terms.now) c.args.outs.now.items;
  sums = keeps_same c.args.terms.now;
  shard = refl;
  placed = λ r all. all;
  capacity = search rules;
  few = omega arith;
}

pub loop-place-preserved : goal.loop-place-preserved
loop-place-preserved g c = record {
  on = reminds_more c.args.at c.args.now (whole c.args.served.now c.args.terms.now) (whole c.loop-place.served c.loop-place.terms) c.args.outs.now.items c.loop-place.outs.items c.loop-place.place
      (whole c.remind_one.new.served c.remind_one.new.terms) c.remind_one.new.outs.items c.loop-place.invariant.on c.remind_one.ensures.reminded;
  sums = keeps_then c.args.terms.now c.loop-place.terms c.remind_one.new.terms c.loop-place.invariant.sums c.remind_one.ensures.sums;
  shard = c.remind_one.ensures.shard ∙ c.loop-place.invariant.shard;
  placed = λ r all. c.remind_one.ensures.placed r (c.loop-place.invariant.placed r all);
  capacity = search rules;
  few = omega (arith, c.remind_one.ensures.few, c.loop-place.invariant.few);
}

pub returns-clause-reminded : goal.returns-clause-reminded
returns-clause-reminded g c =
    let all : c.loop-place.place ≡ 16 = omega (arith, c.loop-place-test.false, c.loop-place.auto.place-end) in
    reminds_done c.args.at c.args.now (whole c.args.served.now c.args.terms.now) (whole c.loop-place.served c.loop-place.terms) c.args.outs.now.items c.loop-place.outs.items c.loop-place.place all c.loop-place.invariant.on

pub returns-clause-few : goal.returns-clause-few
returns-clause-few g c = omega (arith, c.loop-place.invariant.few, c.loop-place.auto.place-end)

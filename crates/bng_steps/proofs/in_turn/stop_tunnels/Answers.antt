use Rattle.std.proofs.Common.{◌≡◌, refl, ap, ◌∙◌, arith, rules}
use Rattle.bng_lns.specs.Timed.{stopped}
use Rattle.bng_steps.specs.State.{State, with_tunnels}
use Rattle.bng_steps.proofs.Tunnelling.{tells_begin, tells_done, tells_more}
use Rattle.bng_steps.proofs.in_turn.stop_tunnels.Goals as goal

pub loop-place-init : goal.loop-place-init
loop-place-init g c = record {
  on = tells_begin stopped c.args.at c.args.now c.args.served.now.tunnels c.args.outs.now.items;
  others = refl;
  capacity = search rules;
  few = omega arith;
}

pub loop-place-preserved : goal.loop-place-preserved
loop-place-preserved g c = record {
  on = tells_more stopped c.args.at c.args.now c.args.served.now.tunnels c.loop-place.served.tunnels c.args.outs.now.items c.loop-place.outs.items c.loop-place.place c.stop_one.new.served.tunnels c.stop_one.new.outs.items c.loop-place.invariant.on c.stop_one.ensures.told;
  others = c.stop_one.ensures.others ∙ ap (λ (s : State). with_tunnels s c.stop_one.new.served.tunnels) c.loop-place.invariant.others;
  capacity = search rules;
  few = omega (arith, c.stop_one.ensures.few, c.loop-place.invariant.few);
}

pub returns-clause-told : goal.returns-clause-told
returns-clause-told g c =
    let all : c.loop-place.place ≡ 16 = omega (arith, c.loop-place-test.false, c.loop-place.auto.place-end) in
    tells_done stopped c.args.at c.args.now c.args.served.now.tunnels c.loop-place.served.tunnels c.args.outs.now.items c.loop-place.outs.items c.loop-place.place all c.loop-place.invariant.on

pub returns-clause-few : goal.returns-clause-few
returns-clause-few g c = omega (arith, c.loop-place.invariant.few, c.loop-place.auto.place-end)

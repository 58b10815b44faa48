use Rattle.std.proofs.Common.{rules, ◌≡◌, length, ap, ◌∙◌, arith}
use Rattle.bng_l2tp_wire.specs.View.{Said, said}
use Rattle.bng_l2tp_tunnel.specs.TunnelState.{TunnelState, lasting_of}
use Rattle.bng_l2tp_tunnel.specs.Steps.{stop_step}
use Rattle.bng_l2tp_tunnel.proofs.Soundness.{as_said, stop_step_sound}
use Rattle.bng_l2tp_tunnel.proofs.Kept.{stop_keeps}
use Rattle.bng_l2tp_tunnel.proofs.Few.{stop_one}
use Rattle.bng_l2tp_tunnel.proofs.tunnel.Tunnel.stop.Goals as goal

pub returns-in-Replied-clause-sound : goal.returns-in-Replied-clause-sound
unfolding stop_step
returns-in-Replied-clause-sound c = λ t.
    as_said c.args.self.now (stop_step c.args.self.now c.args.now) (said c.shut_down.result) c.shut_down.new.self (search rules) (search rules) (stop_step_sound c.args.self.now c.args.now t)

pub returns-in-Replied-clause-lasting : goal.returns-in-Replied-clause-lasting
unfolding stop_step
returns-in-Replied-clause-lasting c =
    let same : c.shut_down.new.self ≡ (stop_step c.args.self.now c.args.now).after = search rules in
    ap (λ (t : TunnelState). lasting_of t) same ∙ stop_keeps c.args.self.now c.args.now

pub returns-in-Replied-clause-one : goal.returns-in-Replied-clause-one
unfolding stop_step
returns-in-Replied-clause-one c = λ t.
    let same : said c.shut_down.result ≡ (stop_step c.args.self.now c.args.now).said = search rules in
    omega (arith, ap (λ (w : Said). length w.outs) same, stop_one c.args.self.now c.args.now t)

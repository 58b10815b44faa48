use Rattle.std.proofs.Common.{rules, ◌≡◌, length, ap, ◌∙◌, arith}
use Rattle.bng_l2tp_wire.specs.View.{Said, said}
use Rattle.bng_l2tp_tunnel.specs.TunnelState.{TunnelState, lasting_of}
use Rattle.bng_l2tp_tunnel.specs.Steps.{due_step}
use Rattle.bng_l2tp_tunnel.proofs.Soundness.{as_said, due_sound}
use Rattle.bng_l2tp_tunnel.proofs.Kept.{due_keeps}
use Rattle.bng_l2tp_tunnel.proofs.Few.{due_few}
use Rattle.bng_l2tp_tunnel.proofs.tunnel.Tunnel.due.Goals as goal

pub returns-in-Replied-clause-sound : goal.returns-in-Replied-clause-sound
unfolding due_step
returns-in-Replied-clause-sound c = λ t.
    as_said c.args.self.now (due_step c.args.self.now c.args.now) (said c.remind.result) c.remind.new.self (search rules) (search rules) (due_sound c.args.self.now c.args.now t)

pub returns-in-Replied-clause-lasting : goal.returns-in-Replied-clause-lasting
unfolding due_step
returns-in-Replied-clause-lasting c =
    let same : c.remind.new.self ≡ (due_step c.args.self.now c.args.now).after = search rules in
    ap (λ (t : TunnelState). lasting_of t) same ∙ due_keeps c.args.self.now c.args.now

pub returns-in-Replied-clause-few : goal.returns-in-Replied-clause-few
unfolding due_step
returns-in-Replied-clause-few c =
    let same : said c.remind.result ≡ (due_step c.args.self.now c.args.now).said = search rules in
    omega (arith, ap (λ (w : Said). length w.outs) same, due_few c.args.self.now c.args.now)

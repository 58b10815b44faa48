use Rattle.std.proofs.Common.{rules, ◌≡◌, length, ap, ◌∙◌, arith}
use Rattle.bng_l2tp_wire.specs.View.{Said, said}
use Rattle.bng_l2tp_tunnel.specs.TunnelState.{TunnelState, lasting_of}
use Rattle.bng_l2tp_tunnel.specs.Steps.{send_step}
use Rattle.bng_l2tp_tunnel.proofs.Soundness.{as_said, send_sound}
use Rattle.bng_l2tp_tunnel.proofs.Kept.{send_keeps}
use Rattle.bng_l2tp_tunnel.proofs.Few.{send_one}
use Rattle.bng_l2tp_tunnel.proofs.tunnel.Tunnel.send.Goals as goal

pub returns-in-Replied-clause-sound : goal.returns-in-Replied-clause-sound
unfolding send_step
returns-in-Replied-clause-sound c = λ t k.
    as_said c.args.self.now (send_step c.args.self.now c.args.message.now c.args.now) (said c.queue.result) c.queue.new.self (search rules) (search rules) (send_sound c.args.self.now c.args.message.now c.args.now t k)

pub returns-in-Replied-clause-lasting : goal.returns-in-Replied-clause-lasting
unfolding send_step
returns-in-Replied-clause-lasting c =
    let same : c.queue.new.self ≡ (send_step c.args.self.now c.args.message.now c.args.now).after = search rules in
    ap (λ (t : TunnelState). lasting_of t) same ∙ send_keeps c.args.self.now c.args.message.now c.args.now

pub returns-in-Replied-clause-one : goal.returns-in-Replied-clause-one
unfolding send_step
returns-in-Replied-clause-one c = λ t.
    let same : said c.queue.result ≡ (send_step c.args.self.now c.args.message.now c.args.now).said = search rules in
    omega (arith, ap (λ (w : Said). length w.outs) same, send_one c.args.self.now c.args.message.now c.args.now t)

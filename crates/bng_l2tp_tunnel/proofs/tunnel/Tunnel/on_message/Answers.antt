use Rattle.std.proofs.Common.{rules, ◌≡◌, length, sym, ap, ◌∙◌, arith}
use Rattle.bng_l2tp_wire.specs.View.{Said, payloads, said, control_of}
use Rattle.bng_l2tp_tunnel.specs.Steps.{is_established, message_step, heard_by}
use Rattle.bng_l2tp_tunnel.proofs.Soundness.{as_said, message_sound}
use Rattle.bng_l2tp_tunnel.proofs.Answered.{as_answered, message_answered}
use Rattle.bng_l2tp_tunnel.proofs.Authentic.{message_authentic}
use Rattle.bng_l2tp_tunnel.proofs.Kept.{message_keeps}
use Rattle.bng_l2tp_tunnel.proofs.Few.{message_few, message_hands}
use Rattle.bng_l2tp_tunnel.specs.TunnelState.{TunnelState, lasting_of}
use Rattle.bng_l2tp_tunnel.proofs.tunnel.Tunnel.on_message.Goals as goal

pub returns-in-Idle-clause-sound : goal.returns-in-Idle-clause-sound
unfolding message_step
returns-in-Idle-clause-sound c = λ t.
    as_said c.args.self.now (message_step c.args.self.now (control_of c.args.message.now) c.args.random.now c.args.now) (said c.open.result) c.open.new.self (search rules) (search rules)
    (message_sound c.args.self.now (control_of c.args.message.now) c.args.random.now c.args.now t)

pub returns-in-Replied-clause-sound : goal.returns-in-Replied-clause-sound
unfolding message_step
returns-in-Replied-clause-sound c = λ t.
    as_said c.args.self.now (message_step c.args.self.now (control_of c.args.message.now) c.args.random.now c.args.now) (said c.hear.result) c.hear.new.self (search rules) (search rules)
    (message_sound c.args.self.now (control_of c.args.message.now) c.args.random.now c.args.now t)

pub returns-in-Replied-clause-acknowledged : goal.returns-in-Replied-clause-acknowledged
unfolding message_step
returns-in-Replied-clause-acknowledged c = λ e other.
    let same : said c.hear.result ≡ (message_step c.args.self.now (control_of c.args.message.now) c.args.random.now c.args.now).said = search rules in
    as_answered (heard_by c.args.self.now (control_of c.args.message.now)) (payloads c.hear.result.outs.items) (message_step c.args.self.now (control_of c.args.message.now) c.args.random.now c.args.now).said.outs
    (ap (λ (w : Said). w.outs) same) (message_answered c.args.self.now (control_of c.args.message.now) c.args.random.now c.args.now e other)

pub returns-in-Replied-clause-authentic : goal.returns-in-Replied-clause-authentic
unfolding message_step
returns-in-Replied-clause-authentic c = λ yes.
    let same : said c.hear.result ≡ (message_step c.args.self.now (control_of c.args.message.now) c.args.random.now c.args.now).said = search rules in
    message_authentic c.args.self.now (control_of c.args.message.now) c.args.random.now c.args.now (sym (ap (λ (w : Said). w.established) same) ∙ yes)

pub returns-in-Idle-clause-lasting : goal.returns-in-Idle-clause-lasting
unfolding message_step
returns-in-Idle-clause-lasting c =
    let same : c.open.new.self ≡ (message_step c.args.self.now (control_of c.args.message.now) c.args.random.now c.args.now).after = search rules in
    ap (λ (t : TunnelState). lasting_of t) same ∙ message_keeps c.args.self.now (control_of c.args.message.now) c.args.random.now c.args.now

pub returns-in-Idle-clause-few : goal.returns-in-Idle-clause-few
unfolding message_step
returns-in-Idle-clause-few c =
    let same : said c.open.result ≡ (message_step c.args.self.now (control_of c.args.message.now) c.args.random.now c.args.now).said = search rules in
    omega (arith, ap (λ (w : Said). length w.outs) same, message_few c.args.self.now (control_of c.args.message.now) c.args.random.now c.args.now)

pub returns-in-Idle-clause-room : goal.returns-in-Idle-clause-room
unfolding message_step
returns-in-Idle-clause-room c = λ yes.
    let same : said c.open.result ≡ (message_step c.args.self.now (control_of c.args.message.now) c.args.random.now c.args.now).said = search rules in
    let handed = message_hands c.args.self.now (control_of c.args.message.now) c.args.random.now c.args.now (sym (ap (λ (w : Said). w.call) same) ∙ yes) in
    omega (arith, ap (λ (w : Said). length w.outs) same, handed.few)

pub returns-in-Idle-clause-established : goal.returns-in-Idle-clause-established
unfolding message_step
returns-in-Idle-clause-established c = λ yes.
    let same : said c.open.result ≡ (message_step c.args.self.now (control_of c.args.message.now) c.args.random.now c.args.now).said = search rules in
    let after : c.open.new.self ≡ (message_step c.args.self.now (control_of c.args.message.now) c.args.random.now c.args.now).after = search rules in
    let handed = message_hands c.args.self.now (control_of c.args.message.now) c.args.random.now c.args.now (sym (ap (λ (w : Said). w.call) same) ∙ yes) in
    ap (λ (t : TunnelState). is_established t.phase) after ∙ handed.established

pub returns-in-Replied-clause-lasting : goal.returns-in-Replied-clause-lasting
unfolding message_step
returns-in-Replied-clause-lasting c =
    let same : c.hear.new.self ≡ (message_step c.args.self.now (control_of c.args.message.now) c.args.random.now c.args.now).after = search rules in
    ap (λ (t : TunnelState). lasting_of t) same ∙ message_keeps c.args.self.now (control_of c.args.message.now) c.args.random.now c.args.now

pub returns-in-Replied-clause-few : goal.returns-in-Replied-clause-few
unfolding message_step
returns-in-Replied-clause-few c =
    let same : said c.hear.result ≡ (message_step c.args.self.now (control_of c.args.message.now) c.args.random.now c.args.now).said = search rules in
    omega (arith, ap (λ (w : Said). length w.outs) same, message_few c.args.self.now (control_of c.args.message.now) c.args.random.now c.args.now)

pub returns-in-Replied-clause-room : goal.returns-in-Replied-clause-room
unfolding message_step
returns-in-Replied-clause-room c = λ yes.
    let same : said c.hear.result ≡ (message_step c.args.self.now (control_of c.args.message.now) c.args.random.now c.args.now).said = search rules in
    let handed = message_hands c.args.self.now (control_of c.args.message.now) c.args.random.now c.args.now (sym (ap (λ (w : Said). w.call) same) ∙ yes) in
    omega (arith, ap (λ (w : Said). length w.outs) same, handed.few)

pub returns-in-Replied-clause-established : goal.returns-in-Replied-clause-established
unfolding message_step
returns-in-Replied-clause-established c = λ yes.
    let same : said c.hear.result ≡ (message_step c.args.self.now (control_of c.args.message.now) c.args.random.now c.args.now).said = search rules in
    let after : c.hear.new.self ≡ (message_step c.args.self.now (control_of c.args.message.now) c.args.random.now c.args.now).after = search rules in
    let handed = message_hands c.args.self.now (control_of c.args.message.now) c.args.random.now c.args.now (sym (ap (λ (w : Said). w.call) same) ∙ yes) in
    ap (λ (t : TunnelState). is_established t.phase) after ∙ handed.established

use Rattle.std.proofs.Common.{◌≡◌, length, ap, ◌∙◌, arith, length-drop}
use Rattle.std.proofs.lemmas.List.{length-map}
use Rattle.bng_l2tp_reliable.specs.Flight.{sent_again}
use Rattle.bng_l2tp_reliable.proofs.Sends.{pairs_again}
use Rattle.bng_l2tp_reliable.proofs.channel.Channel.due.Goals as goal

pub invariant_of-self-in-Resend : goal.invariant_of-self-in-Resend
invariant_of-self-in-Resend c =
    let sound = c.self.invariant.0 in
    let sends = c.self.inside.sends.items in
    let same : length c.send_again.new.sends.items ≡ length sends = ap length c.send_again.ensures ∙ length-map sends (sent_again c.args.now) in (
      record {
        window = sound.window;
        flying = omega (arith, sound.flying);
        known = omega (arith, sound.known);
        few = omega (arith, sound.few, length-drop (length sends) c.self.inside.messages, length-drop (length c.send_again.new.sends.items) c.self.inside.messages);
        ns = sound.ns;
        nr = sound.nr;
      },
      pairs_again c.args.now sends c.send_again.new.sends.items c.send_again.ensures c.self.invariant.1,
    )

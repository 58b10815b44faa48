use Rattle.std.proofs.Common.{◌<◌, ℕ, length, ap, arith}
use Rattle.bng_l2tp_reliable.specs.declared.sent.Sent.{Sent}
use Rattle.bng_l2tp_reliable.specs.Flight.{sent_again}
use Rattle.bng_l2tp_reliable.proofs.Sends.{mapped_more}
use Rattle.bng_l2tp_reliable.proofs.sent.each_again.Goals as goal

pub loop-sent-preserved : goal.loop-sent-preserved
loop-sent-preserved c =
    let in_new : c.loop-sent.sent-index < length c.loop-sent.sends = omega arith in
    let again = λ (r : ℕ). let s : Sent = record { moment = c.args.now; resends = r } in s in
    mapped_more (sent_again c.args.now) c.loop-sent.sends c.args.sends.now c.loop-sent.sent-index _ _ in_new c.loop-sent-test.true c.loop-sent.invariant.0 c.loop-sent.invariant.1 (ap again c.saturating_add.ensures)

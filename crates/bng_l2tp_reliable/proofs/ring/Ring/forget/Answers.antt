use Rattle.std.proofs.Common.{List, ◌≤◌, length, drop, ap, ◌∙◌, arith}
use Rattle.bng_l2tp_reliable.specs.ChannelState.{Message}
use Rattle.bng_l2tp_reliable.proofs.Rings.{length-window, window_after_forget}
use Rattle.bng_l2tp_reliable.proofs.ring.Ring.forget.Goals as goal

pub returns : goal.returns
returns c =
    let r = c.self.inside in
    let length_old = length-window 72 _ _ r.places c.self.invariant.0 c.self.invariant.1 c.self.invariant.2 in
    let same_length = ap length c.self.view_is in
    let in_window : c.args.count ≤ r.len = omega arith in
    window_after_forget 72 _ _ r.places c.self.invariant.0 c.self.invariant.1 c.self.invariant.2 c.args.count in_window
    ∙ ap (λ (xs : List Message). drop c.args.count xs) c.self.view_is

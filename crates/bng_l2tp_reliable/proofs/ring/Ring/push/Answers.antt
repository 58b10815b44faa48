use Rattle.std.proofs.Common.{List, [], ◌∷◌, ◌++◌, ◌<◌, length, ap, ◌∙◌, arith}
use Rattle.bng_l2tp_reliable.specs.ChannelState.{Message}
use Rattle.bng_l2tp_reliable.proofs.Rings.{length-window, window_after_push}
use Rattle.bng_l2tp_reliable.proofs.ring.Ring.push.Goals as goal

-- the write is behind the last message, since the ring has room
pub returns : goal.returns
returns c =
    let r = c.self.inside in
    let length_old = length-window 72 _ _ r.places c.self.invariant.0 c.self.invariant.1 c.self.invariant.2 in
    let same_length = ap length c.self.view_is in
    let has_room : r.len < 72 = omega arith in
    window_after_push 72 _ _ r.places c.self.invariant.0 c.self.invariant.1 c.self.invariant.2 c.args.message has_room
    ∙ ap (λ (xs : List Message). xs ++ c.args.message ∷ []) c.self.view_is

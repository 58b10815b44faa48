use Rattle.std.proofs.Common.{◌≡◌, ◌+◌, ◌-◌, ◌%◌, ◌<◌, ◌∷◌, ap, sym, ◌∙◌, length, get_or, arith}
use Rattle.bng_base.specs.Packet.{Packet}
use Rattle.bng_vlan.specs.Ring.{window, payloads}
use Rattle.bng_vlan.proofs.RingLaws.{window_before_pop, headroom_at, length-payloads}
use Rattle.bng_vlan.proofs.queue.FrameQueue.give.Goals as goal

pub returns-clause-given : goal.returns-clause-given
returns-clause-given c =
    let q = c.self.inside in
    let size = ap length c.self.view_is in
    let some : 0 < q.size = omega (arith, length-payloads 17 q.oldest q.size q.places.items c.self.invariant.0 c.self.invariant.1 c.self.invariant.2) in
    sym c.self.view_is
    ∙ ap payloads (window_before_pop 17 q.oldest q.size q.places.items c.self.invariant.0 c.self.invariant.1 c.self.invariant.2 c.index.result.now some)
    ∙ ap (λ (f : Packet). f.payload ∷ payloads (window ((q.oldest + 1) % 17) (q.size - 1) q.places.items)) (sym c.index.ensures ∙ sym c.copy_from.ensures)

pub returns-clause-headroom : goal.returns-clause-headroom
returns-clause-headroom c =
    let q = c.self.inside in
    ap (λ (f : Packet). f.headroom) (c.copy_from.ensures ∙ c.index.ensures) ∙ headroom_at q.places.items q.oldest c.index.result.now c.self.invariant.3 (omega arith)

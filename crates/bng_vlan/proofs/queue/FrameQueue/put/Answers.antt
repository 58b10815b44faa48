use Rattle.std.proofs.Common.{◌≡◌, ◌+◌, ◌-◌, ◌%◌, ◌<◌, ◌≤◌, ◌∷◌, ◌++◌, [], ℕ, List, ap, sym, ◌∙◌, length, take, drop, length-set, arith}
use Rattle.std.proofs.lemmas.List.{map-append, take_rest}
use Rattle.bng_base.specs.Packet.{Packet}
use Rattle.bng_vlan.specs.Ring.{window, payloads}
use Rattle.bng_vlan.proofs.RingLaws.{window_after_push, headroom_set, length-payloads}
use Rattle.bng_vlan.proofs.queue.FrameQueue.put.Goals as goal

pub invariant_of-self : goal.invariant_of-self
invariant_of-self c =
    let q = c.self.inside in
    let size = ap length c.self.view_is in
    let few : q.size < 17 = omega (arith, length-payloads 17 q.oldest q.size q.places.items c.self.invariant.0 c.self.invariant.1 c.self.invariant.2) in
    let whole : c.put_back.new.self.headroom ≡ 64 = c.put_back.ensures.headroom ∙ ap (λ (f : Packet). f.headroom) c.set.ensures in (
      c.self.invariant.0,
      omega arith,
      length-set q.places.items ((q.oldest + q.size) % 17) c.put_back.new.self ∙ c.self.invariant.2,
      headroom_set q.places.items ((q.oldest + q.size) % 17) c.put_back.new.self c.self.invariant.3 whole,
    )

pub returns : goal.returns
returns c =
    let q = c.self.inside in
    let p = c.put_back.new.self in
    let size = ap length c.self.view_is in
    let few : q.size < 17 = omega (arith, length-payloads 17 q.oldest q.size q.places.items c.self.invariant.0 c.self.invariant.1 c.self.invariant.2) in
    ap payloads (window_after_push 17 q.oldest q.size q.places.items c.self.invariant.0 c.self.invariant.1 c.self.invariant.2 p few)
    ∙ map-append (λ (f : Packet). f.payload) (window q.oldest q.size q.places.items) (p ∷ [])
    ∙ ap (λ (w : List (List ℕ)). w ++ p.payload ∷ []) c.self.view_is
    ∙ ap (λ (o : List ℕ). c.args.self.now ++ o ∷ []) (c.put_back.ensures.payload ∙ ap (λ (x : List ℕ). c.set.new.self.payload ++ x) (take_rest c.args.octets.now (12 + c.args.width)) ∙ ap (λ (f : Packet). f.payload ++ drop (12 + c.args.width) c.args.octets.now) c.set.ensures)

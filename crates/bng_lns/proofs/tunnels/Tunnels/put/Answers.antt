use Rattle.std.proofs.Common.{◌≡◌, ℕ, length, sym, ap, subst, arith}
use Rattle.bng_lns.specs.Places.{number_at, IsPlace}
use Rattle.bng_lns.specs.Tunnels.{TunnelsState}
use Rattle.bng_lns.proofs.Keeping.{kept_set, kept_push}
use Rattle.bng_lns.proofs.tunnels.Tunnels.put.Goals as goal

pub invariant_of-self : goal.invariant_of-self
invariant_of-self c =
    let is = subst (λ (t : TunnelsState). IsPlace (number_at t.shard c.args.at) c.args.place) (sym c.self.view_is) c.requires.place in
    kept_set c.self.inside.shard _ c.self.inside.places.items c.self.invariant c.args.at c.args.place is

pub invariant_of-self-else-at-len : goal.invariant_of-self-else-at-len
invariant_of-self-else-at-len c =
    let items = c.self.inside.places.items in
    let next : c.args.at ≡ length items = omega (arith, c.requires.next, ap (λ (t : TunnelsState). length t.places) c.self.view_is, c.if-at-len.false) in
    let is = subst (λ (t : TunnelsState). IsPlace (number_at t.shard c.args.at) c.args.place) (sym c.self.view_is) c.requires.place in
    let there = subst (λ (k : ℕ). IsPlace (number_at c.self.inside.shard k) c.args.place) next is in
    rw (c.push_reserved.ensures.items, c.push_reserved.ensures.capacity) (kept_push c.self.inside.shard _ items c.self.invariant c.args.place (omega (arith, next, c.requires.within)) there)

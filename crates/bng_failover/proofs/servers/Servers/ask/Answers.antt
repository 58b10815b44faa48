use Rattle.std.proofs.Common.{◌<◌, List, subst, arith}
use Rattle.bng_failover.specs.declared.server.Server.{Server}
use Rattle.bng_failover.specs.Servers.{in_hand, Gains}
use Rattle.bng_failover.proofs.Changes.{grown, room_at, more_sound, IsGrown}
use Rattle.bng_failover.proofs.servers.Servers.ask.Goals as goal

pub ask-peer-requires-clause-room : goal.ask-peer-requires-clause-room
ask-peer-requires-clause-room c =
    let few : in_hand c.self.inside.list.items < 256 = omega (arith, c.self.invariant.1, c.self.invariant.0.most, c.if-self-eq-MOST.false) in
    room_at c.self.inside.list.items 0 few

pub invariant_of-self : goal.invariant_of-self
invariant_of-self c =
    let old : List Server = c.self.inside.list.items in
    let new : List Server = c.ask-peer.new.servers.items in
    let few : in_hand old < 256 = omega (arith, c.self.invariant.1, c.self.invariant.0.most, c.if-self-eq-MOST.false) in
    let more : IsGrown old new c.args.owner = grown old c.self.invariant.0.each new 0 c.args.owner _ _ _ _ _ c.ask-peer.ensures in
    (more_sound old new c.args.owner c.self.invariant.0 few more, omega (arith, more.count, c.self.invariant.1))

pub returns-clause-owners : goal.returns-clause-owners
returns-clause-owners c =
    let old : List Server = c.self.inside.list.items in
    let new : List Server = c.ask-peer.new.servers.items in
    let more : IsGrown old new c.args.owner = grown old c.self.invariant.0.each new 0 c.args.owner _ _ _ _ _ c.ask-peer.ensures in
    subst (λ (s : List Server). Gains s new c.args.owner) c.self.view_is more.owners

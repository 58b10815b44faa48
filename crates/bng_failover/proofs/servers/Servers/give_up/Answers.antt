use Rattle.std.proofs.Common.{List, subst, arith}
use Rattle.bng_failover.specs.declared.server.Server.{Server}
use Rattle.bng_failover.specs.Servers.{Loses}
use Rattle.bng_failover.specs.Due.{HasTimedOut, IsGivenUp}
use Rattle.bng_failover.proofs.Changes.{IsShrunk, shrunk, fewer_sound}
use Rattle.bng_failover.proofs.Sending.{not_none, gives_up}
use Rattle.bng_failover.proofs.servers.Servers.give_up.Goals as goal

pub overflow_sub-self : goal.overflow_sub-self
overflow_sub-self c =
    let old : List Server = c.self.inside.list.items in
    let new : List Server = c.withdraw.new.servers.items in
    let less : IsShrunk old new c.in-Some.request.owner = shrunk old c.self.invariant.0.each new _ _ c.in-Some.request c.in-Some.ensures in
    omega (arith, less.count, c.self.invariant.1)

pub invariant_of-self : goal.invariant_of-self
invariant_of-self c =
    let old : List Server = c.self.inside.list.items in
    let new : List Server = c.withdraw.new.servers.items in
    let less : IsShrunk old new c.in-Some.request.owner = shrunk old c.self.invariant.0.each new _ _ c.in-Some.request c.in-Some.ensures in
    (fewer_sound old new c.in-Some.request.owner c.self.invariant.0 less, omega (arith, less.count, c.self.invariant.1))

pub unreachable-requires : goal.unreachable-requires
unreachable-requires c =
    let old : List Server = c.self.inside.list.items in
    let d = c.in_ok-last.last in
    let first = subst (λ (xs : List Server). HasTimedOut xs c.args.tries c.args.now d.at d.due) c.as_slice.ensures.value c.in_ok-last.ensures.some in
    not_none old c.withdraw.new.servers.items c.args.tries c.args.now d.at d.due first c.in-None.ensures

pub returns-clause-some : goal.returns-clause-some
returns-clause-some c =
    let old : List Server = c.self.inside.list.items in
    let new : List Server = c.withdraw.new.servers.items in
    let d = c.in_ok-last.last in
    let first = subst (λ (xs : List Server). HasTimedOut xs c.args.tries c.args.now d.at d.due) c.as_slice.ensures.value c.in_ok-last.ensures.some in
    subst (λ (xs : List Server). IsGivenUp xs new c.args.tries c.args.now c.in-Some.request.owner) c.self.view_is
    (gives_up old new c.args.tries c.args.now d.at d.due first c.in-Some.request c.in-Some.ensures)

pub returns-clause-owners : goal.returns-clause-owners
returns-clause-owners c =
    let old : List Server = c.self.inside.list.items in
    let new : List Server = c.withdraw.new.servers.items in
    let less : IsShrunk old new c.in-Some.request.owner = shrunk old c.self.invariant.0.each new _ _ c.in-Some.request c.in-Some.ensures in
    subst (λ (xs : List Server). Loses xs new c.in-Some.request.owner) c.self.view_is less.owners

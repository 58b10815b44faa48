use Rattle.std.proofs.Common.{List, ◌<◌, subst, arith}
use Rattle.bng_failover.specs.declared.server.Server.{Server}
use Rattle.bng_failover.specs.Servers.{Loses, Keeps}
use Rattle.bng_failover.proofs.Changes.{IsShrunk, IsAsMany, shrunk, unmoved, fewer_sound, still_sound}
use Rattle.bng_failover.proofs.servers.Servers.withdraw.Goals as goal

pub overflow_sub-self : goal.overflow_sub-self
overflow_sub-self c =
    let old : List Server = c.self.inside.list.items in
    let new : List Server = c.withdraw.new.servers.items in
    let less : IsShrunk old new c.in-Some.request.owner = shrunk old c.self.invariant.0.each new _ _ c.in-Some.request c.in-Some.ensures in
    omega (arith, less.count, c.self.invariant.1)

pub invariant_of-self : goal.invariant_of-self
invariant_of-self c =
    let old : List Server = c.self.inside.list.items in
    let new : List Server = c.withdraw.new.servers.items in
    let less : IsShrunk old new c.in-Some.request.owner = shrunk old c.self.invariant.0.each new _ _ c.in-Some.request c.in-Some.ensures in
    (fewer_sound old new c.in-Some.request.owner c.self.invariant.0 less, omega (arith, less.count, c.self.invariant.1))

pub invariant_of-self-in-None : goal.invariant_of-self-in-None
invariant_of-self-in-None c =
    let old : List Server = c.self.inside.list.items in
    let new : List Server = c.withdraw.new.servers.items in
    let small : c.args.id < 256 = omega (arith, c.ranges.id.fits) in
    let many : IsAsMany old new = unmoved old c.self.invariant.0.each new _ c.args.id small c.in-None.ensures in
    (still_sound old new c.self.invariant.0 many, omega (arith, many.count, c.self.invariant.1))

pub returns-in-Some-clause-owners : goal.returns-in-Some-clause-owners
returns-in-Some-clause-owners c =
    let old : List Server = c.self.inside.list.items in
    let new : List Server = c.withdraw.new.servers.items in
    let less : IsShrunk old new c.in-Some.request.owner = shrunk old c.self.invariant.0.each new _ _ c.in-Some.request c.in-Some.ensures in
    subst (λ (xs : List Server). Loses xs new c.in-Some.request.owner) c.self.view_is less.owners

pub returns-in-None-clause-owners : goal.returns-in-None-clause-owners
returns-in-None-clause-owners c =
    let old : List Server = c.self.inside.list.items in
    let new : List Server = c.withdraw.new.servers.items in
    let small : c.args.id < 256 = omega (arith, c.ranges.id.fits) in
    let many : IsAsMany old new = unmoved old c.self.invariant.0.each new _ c.args.id small c.in-None.ensures in
    subst (λ (xs : List Server). Keeps xs new) c.self.view_is many.owners

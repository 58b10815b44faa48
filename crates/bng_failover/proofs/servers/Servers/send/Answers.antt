use Rattle.std.proofs.Common.{List, subst, arith}
use Rattle.bng_rad_client.specs.declared.rules.Owner.{Owner}
use Rattle.bng_failover.specs.declared.server.Server.{Server}
use Rattle.bng_failover.specs.Servers.{Keeps}
use Rattle.bng_failover.specs.Due.{IsFirstDue, IsSent}
use Rattle.bng_failover.specs.Places.{GoesTo}
use Rattle.bng_failover.proofs.Changes.{IsAsMany, repeated, handed, still_sound}
use Rattle.bng_failover.proofs.Sending.{sends_again, hands_on}
use Rattle.bng_failover.proofs.servers.Servers.send.Goals as goal

pub invariant_of-self : goal.invariant_of-self
invariant_of-self c =
    let old : List Server = c.self.inside.list.items in
    let new : List Server = c.repeat.new.servers.items in
    let many : IsAsMany old new = repeated old c.self.invariant.0.each new _ _ _ _ _ c.repeat.ensures in
    (still_sound old new c.self.invariant.0 many, omega (arith, many.count, c.self.invariant.1))

pub invariant_of-self-in-Some : goal.invariant_of-self-in-Some
invariant_of-self-in-Some c =
    let old : List Server = c.self.inside.list.items in
    let new : List Server = c.hand_over.new.servers.items in
    let many : IsAsMany old new = handed old c.self.invariant.0 new _ _ _ _ _ _ _ c.hand_over.ensures in
    (still_sound old new c.self.invariant.0 many, omega (arith, many.count, c.self.invariant.1))

pub returns-in-None-clause-some : goal.returns-in-None-clause-some
returns-in-None-clause-some c =
    let old : List Server = c.self.inside.list.items in
    let new : List Server = c.repeat.new.servers.items in
    let d = c.in_ok-first.first in
    let first = subst (λ (xs : List Server). IsFirstDue c.args.lane xs c.args.tries c.args.now d.at d.due) c.as_slice.ensures.value c.in_ok-first.ensures.some in
    let told = subst (λ (xs : List Server). GoesTo c.args.lane xs c.args.tries d.at d.due.id c.goes_to-next.result) c.as_slice-2.ensures.value c.goes_to-next.ensures.goes in
    subst (λ (xs : List Server). (x : Owner) × IsSent c.args.lane xs new c.args.secret.now c.args.tries c.args.now x c.repeat.result c.repeat.new.into) c.self.view_is
    (sends_again c.args.lane old new c.args.secret.now c.args.tries c.args.now d.at d.due first c.goes_to-next.result told c.repeat.result c.repeat.new.into c.in-None.is c.repeat.ensures)

pub returns-in-None-clause-owners : goal.returns-in-None-clause-owners
returns-in-None-clause-owners c =
    let old : List Server = c.self.inside.list.items in
    let new : List Server = c.repeat.new.servers.items in
    let many : IsAsMany old new = repeated old c.self.invariant.0.each new _ _ _ _ _ c.repeat.ensures in
    subst (λ (xs : List Server). Keeps xs new) c.self.view_is many.owners

pub returns-in-Some-clause-some : goal.returns-in-Some-clause-some
returns-in-Some-clause-some c =
    let old : List Server = c.self.inside.list.items in
    let new : List Server = c.hand_over.new.servers.items in
    let d = c.in_ok-first.first in
    let first = subst (λ (xs : List Server). IsFirstDue c.args.lane xs c.args.tries c.args.now d.at d.due) c.as_slice.ensures.value c.in_ok-first.ensures.some in
    let told = subst (λ (xs : List Server). GoesTo c.args.lane xs c.args.tries d.at d.due.id c.goes_to-next.result) c.as_slice-2.ensures.value c.goes_to-next.ensures.goes in
    subst (λ (xs : List Server). (x : Owner) × IsSent c.args.lane xs new c.args.secret.now c.args.tries c.args.now x c.hand_over.result c.hand_over.new.into) c.self.view_is
    (hands_on c.args.lane old new c.args.secret.now c.args.tries c.args.now d.at d.due first c.goes_to-next.result told c.hand_over.result c.hand_over.new.into c.in-Some.next c.in-Some.is c.hand_over.ensures)

pub returns-in-Some-clause-owners : goal.returns-in-Some-clause-owners
returns-in-Some-clause-owners c =
    let old : List Server = c.self.inside.list.items in
    let new : List Server = c.hand_over.new.servers.items in
    let many : IsAsMany old new = handed old c.self.invariant.0 new _ _ _ _ _ _ _ c.hand_over.ensures in
    subst (λ (xs : List Server). Keeps xs new) c.self.view_is many.owners

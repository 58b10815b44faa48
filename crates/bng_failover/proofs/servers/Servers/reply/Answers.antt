use Rattle.std.proofs.Common.{◌≡◌, List, sym, ap, subst, arith}
use Rattle.bng_rad_client.specs.declared.replies.Replied.{Replied}
use Rattle.bng_rad_client.specs.declared.rules.Owner.{Owner}
use Rattle.bng_failover.specs.declared.server.Server.{Server}
use Rattle.bng_failover.specs.Servers.{held, in_hand, Keeps, Loses, Leaves, AreSound}
use Rattle.bng_failover.specs.Places.{HearsAt}
use Rattle.bng_failover.specs.Replies.{IsSender, Hears, answered}
use Rattle.bng_failover.proofs.Changes.{IsShrunk, shrunk, fewer_sound}
use Rattle.bng_failover.proofs.Hearing.{hears, same, withdrawn}
use Rattle.bng_failover.proofs.servers.Servers.reply.Goals as goal

pub overflow_sub-self : goal.overflow_sub-self
overflow_sub-self c =
    let old : List Server = c.self.inside.list.items in
    let new : List Server = c.hear-replied.new.servers.items in
    let sender = subst (λ (xs : List Server). IsSender xs c.args.from c.in-Some.at) c.as_slice.ensures.value c.in-Some.ensures.some in
    let heard = subst (HearsAt c.args.lane old new c.in-Some.at c.args.secret.now c.args.bytes.now) c.in-Matched.is c.hear-replied.ensures in
    let w = withdrawn c.args.lane old new c.in-Some.at c.args.from c.args.secret.now c.args.bytes.now sender c.in-Matched.field-0 heard in
    let less : IsShrunk old new w.1.owner = shrunk old c.self.invariant.0.each new c.in-Some.at w.0 w.1 w.2 in
    omega (arith, less.count, c.self.invariant.1)

pub invariant_of-self : goal.invariant_of-self
invariant_of-self c =
    let old : List Server = c.self.inside.list.items in
    let new : List Server = c.hear-replied.new.servers.items in
    let sender = subst (λ (xs : List Server). IsSender xs c.args.from c.in-Some.at) c.as_slice.ensures.value c.in-Some.ensures.some in
    let heard = subst (HearsAt c.args.lane old new c.in-Some.at c.args.secret.now c.args.bytes.now) c.in-Matched.is c.hear-replied.ensures in
    let w = withdrawn c.args.lane old new c.in-Some.at c.args.from c.args.secret.now c.args.bytes.now sender c.in-Matched.field-0 heard in
    let less : IsShrunk old new w.1.owner = shrunk old c.self.invariant.0.each new c.in-Some.at w.0 w.1 w.2 in
    (fewer_sound old new w.1.owner c.self.invariant.0 less, omega (arith, less.count, c.self.invariant.1))

pub invariant_of-self-in_default-replied : goal.invariant_of-self-in_default-replied
invariant_of-self-in_default-replied c =
    let old : List Server = c.self.inside.list.items in
    let new : List Server = c.hear-replied.new.servers.items in
    let sender = subst (λ (xs : List Server). IsSender xs c.args.from c.in-Some.at) c.as_slice.ensures.value c.in-Some.ensures.some in
    let heard = subst (HearsAt c.args.lane old new c.in-Some.at c.args.secret.now c.args.bytes.now) c.in_default-replied.is c.hear-replied.ensures in
    let still : new ≡ old = same c.args.lane old new c.in-Some.at c.args.from c.args.secret.now c.args.bytes.now sender c.in_default-replied.field-0 heard in
    subst (λ (xs : List Server). AreSound xs × (c.self.inside.out ≡ in_hand xs)) (sym still) c.self.invariant

pub returns-in-Matched-clause-answer : goal.returns-in-Matched-clause-answer
returns-in-Matched-clause-answer c =
    let old : List Server = c.self.inside.list.items in
    let new : List Server = c.hear-replied.new.servers.items in
    let sender = subst (λ (xs : List Server). IsSender xs c.args.from c.in-Some.at) c.as_slice.ensures.value c.in-Some.ensures.some in
    subst (λ (xs : List Server). Hears c.args.lane xs new c.args.from c.args.secret.now c.args.bytes.now c.hear-replied.result) c.self.view_is
    (hears c.args.lane old new c.in-Some.at c.args.from c.args.secret.now c.args.bytes.now sender c.hear-replied.result c.hear-replied.ensures)

pub returns-in-Matched-clause-owners : goal.returns-in-Matched-clause-owners
returns-in-Matched-clause-owners c =
    let old : List Server = c.self.inside.list.items in
    let new : List Server = c.hear-replied.new.servers.items in
    let sender = subst (λ (xs : List Server). IsSender xs c.args.from c.in-Some.at) c.as_slice.ensures.value c.in-Some.ensures.some in
    let heard = subst (HearsAt c.args.lane old new c.in-Some.at c.args.secret.now c.args.bytes.now) c.in-Matched.is c.hear-replied.ensures in
    let w = withdrawn c.args.lane old new c.in-Some.at c.args.from c.args.secret.now c.args.bytes.now sender c.in-Matched.field-0 heard in
    let less : IsShrunk old new w.1.owner = shrunk old c.self.invariant.0.each new c.in-Some.at w.0 w.1 w.2 in
    subst (λ (r : Replied). Leaves (answered r) c.args.self.now new) (sym c.in-Matched.is)
    (subst (λ (xs : List Server). Loses xs new c.in-Matched.field-0) c.self.view_is (subst (λ (o : Owner). Loses old new o) (sym w.3) less.owners))

pub returns-in_default-replied-clause-answer : goal.returns-in_default-replied-clause-answer
returns-in_default-replied-clause-answer c =
    let old : List Server = c.self.inside.list.items in
    let new : List Server = c.hear-replied.new.servers.items in
    let sender = subst (λ (xs : List Server). IsSender xs c.args.from c.in-Some.at) c.as_slice.ensures.value c.in-Some.ensures.some in
    subst (λ (xs : List Server). Hears c.args.lane xs new c.args.from c.args.secret.now c.args.bytes.now c.hear-replied.result) c.self.view_is
    (hears c.args.lane old new c.in-Some.at c.args.from c.args.secret.now c.args.bytes.now sender c.hear-replied.result c.hear-replied.ensures)

pub returns-in_default-replied-clause-owners : goal.returns-in_default-replied-clause-owners
returns-in_default-replied-clause-owners c =
    let old : List Server = c.self.inside.list.items in
    let new : List Server = c.hear-replied.new.servers.items in
    let sender = subst (λ (xs : List Server). IsSender xs c.args.from c.in-Some.at) c.as_slice.ensures.value c.in-Some.ensures.some in
    let heard = subst (HearsAt c.args.lane old new c.in-Some.at c.args.secret.now c.args.bytes.now) c.in_default-replied.is c.hear-replied.ensures in
    let still : new ≡ old = same c.args.lane old new c.in-Some.at c.args.from c.args.secret.now c.args.bytes.now sender c.in_default-replied.field-0 heard in
    subst (λ (r : Replied). Leaves (answered r) c.args.self.now new) (sym c.in_default-replied.is)
    (subst (λ (xs : List Server). Keeps xs new) c.self.view_is (λ test. ap (held test) still))

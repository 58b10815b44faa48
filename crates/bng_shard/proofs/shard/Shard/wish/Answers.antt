use Rattle.bng_shard.specs.declared.body.Body.{Body}
use Rattle.bng_shard.specs.Fits.{Fits, shown_of}
use Rattle.std.proofs.Common.{◌==◌, ◌<◌, sym, subst, ap, ◌∙◌}
use Rattle.bng_base.specs.declared.item.Entry.{Entry}
use Rattle.bng_engine.specs.Views.{ShardView}
use Rattle.bng_steps.specs.Protocol.{ShardState}
use Rattle.bng_steps.specs.Wished.{MayWish}
use Rattle.bng_shard.proofs.Answered.{wished_at}
use Rattle.bng_shard.proofs.AskedPool.{wished_may}
use Rattle.bng_shard.proofs.shard.Shard.wish.Goals as goal

pub returns-clause-wished : goal.returns-clause-wished
returns-clause-wished c =
    let a : Body = c.deref-body.result.now in
    let was : Fits c.deref-body.result.now = subst Fits (sym c.deref-body.ensures) c.self.invariant in
    let seen = ap shown_of c.deref-body.ensures ∙ c.self.view_is in
    wished_at a was (subst (λ (v : ShardView ShardState Entry). 0 < v.room) (sym seen) c.requires.room) c.args.self.now seen c.args.item.now c.wish_for.result c.wish_for.ensures

pub returns-clause-may : goal.returns-clause-may
returns-clause-may c =
    let a : Body = c.deref-body.result.now in
    let seen = ap shown_of c.deref-body.ensures ∙ c.self.view_is in
    subst (λ (v : ShardView ShardState Entry). MayWish v.state.rules.pools c.wish_for.result) seen (wished_may a.rules a.served c.args.item.now (a.left == 0) c.wish_for.result c.wish_for.ensures)

use Rattle.bng_shard.specs.declared.body.Body.{Body}
use Rattle.bng_shard.specs.Fits.{shown_of}
use Rattle.std.proofs.Common.{◌≡◌, [], sym, subst, ap, ◌∙◌}
use Rattle.bng_base.specs.declared.item.Entry.{Entry}
use Rattle.bng_engine.specs.Views.{ShardView}
use Rattle.bng_steps.specs.Protocol.{ShardState}
use Rattle.bng_steps.proofs.Idle.{no_rows}
use Rattle.bng_shard.proofs.shard.Shard.has_news.Goals as goal

pub returns-clause-some : goal.returns-clause-some
returns-clause-some c is none =
    let a : Body = c.deref.result.now in
    let seen = ap shown_of c.deref.ensures ∙ c.self.view_is in
    c.has_news.ensures.some is (no_rows a.terms.news (subst (λ (v : ShardView ShardState Entry). v.state.slots.news ≡ []) (sym seen) none))

use Rattle.bng_shard.specs.declared.body.Body.{Body}
use Rattle.bng_shard.specs.Fits.{shown_of}
use Rattle.std.proofs.Common.{◌≡◌, [], sym, subst, ap, ◌∙◌}
use Rattle.bng_base.specs.declared.item.Entry.{Entry}
use Rattle.bng_engine.specs.Views.{ShardView}
use Rattle.bng_steps.specs.Protocol.{ShardState, ended_terms}
use Rattle.bng_steps.proofs.Idle.{rows_none_over, whole_settled}
use Rattle.bng_steps.proofs.LeavingFirst.{none_over}
use Rattle.bng_steps.proofs.Wishing.{not_false, not_so}
use Rattle.bng_shard.proofs.shard.Shard.is_settled.Goals as goal

pub returns-then-not-has_over-clause-settled : goal.returns-then-not-has_over-clause-settled
returns-then-not-has_over-clause-settled c is =
    let a : Body = c.deref-body.result.now in
    let seen = ap shown_of c.deref-body.ensures ∙ c.self.view_is in
    let none = c.has_over.ensures.none c.if-not-has_over.true in
    let stay = c.has_leaving.ensures.none (not_so c.has_leaving.result is) in
    rw (← seen) (none_over a.terms.rows none, whole_settled a.served a.terms none stay)

pub returns-else-not-has_over-clause-unsettled : goal.returns-else-not-has_over-clause-unsettled
returns-else-not-has_over-clause-unsettled c is none stay =
    let a : Body = c.deref-body.result.now in
    let seen = ap shown_of c.deref-body.ensures ∙ c.self.view_is in
    let ended = subst (λ (v : ShardView ShardState Entry). ended_terms v.state ≡ []) (sym seen) none in
    c.has_over.ensures.some (not_false c.has_over.result is) (rows_none_over a.terms.rows ended)

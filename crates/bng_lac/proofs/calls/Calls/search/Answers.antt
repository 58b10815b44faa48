use Rattle.std.proofs.Common.{rules}
use Rattle.std.proofs.lemmas.List.Sorted.{answers_always}
use Rattle.bng_lac.specs.declared.call.LacCall.{LacCall}
use Rattle.bng_lac.proofs.Placed.{searched}
use Rattle.bng_lac.proofs.calls.Calls.search.Goals as goal

pub returns-clause-here : goal.returns-clause-here
returns-clause-here c =
    let facts = c.binary_search_by_key.ensures in
    let by_key = facts.position (λ (p : LacCall). p.session.0) (answers_always _ _ _ (λ f a r g called. search rules)) in
    let s = searched c.args.session c.deref.result.now (rw c.deref.ensures.value c.self.invariant.0) _ facts.bound by_key in
    rw (← c.self.view_is, ← c.deref.ensures.value) s.here

pub returns-clause-gap : goal.returns-clause-gap
returns-clause-gap c =
    let facts = c.binary_search_by_key.ensures in
    let by_key = facts.position (λ (p : LacCall). p.session.0) (answers_always _ _ _ (λ f a r g called. search rules)) in
    let s = searched c.args.session c.deref.result.now (rw c.deref.ensures.value c.self.invariant.0) _ facts.bound by_key in
    rw (← c.self.view_is, ← c.deref.ensures.value) s.gap

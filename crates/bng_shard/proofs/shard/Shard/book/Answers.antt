use Rattle.bng_shard.specs.declared.body.Body.{Body}
use Rattle.bng_shard.specs.Fits.{Fits, shown_of}
use Rattle.std.proofs.Common.{◌<◌, length, sym, subst, arith, ap, ◌∙◌}
use Rattle.std.proofs.lemmas.Option.{get_or_from_slice_get}
use Rattle.bng_base.specs.declared.item.Entry.{Entry}
use Rattle.bng_engine.specs.Quantities.{empty_book}
use Rattle.bng_engine.specs.Views.{ShardView}
use Rattle.bng_steps.specs.Protocol.{ShardState}
use Rattle.bng_shard.proofs.shard.Shard.book.Goals as goal

pub book-requires : goal.book-requires
book-requires c =
    let a : Body = c.deref.result.now in
    let was : Fits c.deref.result.now = subst Fits (sym c.deref.ensures) c.self.invariant in
    let seen = ap shown_of c.deref.ensures ∙ c.self.view_is in
    let there : c.args.profile < length a.rules.profiles = subst (λ (v : ShardView ShardState Entry). c.args.profile < length v.state.rules.profiles) (sym seen) c.requires in
    omega (arith, there, was.booked)

pub returns-clause-book : goal.returns-clause-book
returns-clause-book c =
    let a : Body = c.deref.result.now in
    let seen = ap shown_of c.deref.ensures ∙ c.self.view_is in
    rw (← seen) (sym (get_or_from_slice_get a.profiles.books c.args.profile c.book.result empty_book c.book.ensures))

pub returns-clause-number : goal.returns-clause-number
returns-clause-number c =
    let was : Fits c.deref.result.now = subst Fits (sym c.deref.ensures) c.self.invariant in
    let seen = ap shown_of c.deref.ensures ∙ c.self.view_is in
    rw (← seen) was.booked

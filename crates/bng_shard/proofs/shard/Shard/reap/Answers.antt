use Rattle.std.proofs.Common.{ℕ, sym, ap, subst, ◌∙◌}
use Rattle.bng_base.specs.declared.item.Entry.{Entry}
use Rattle.bng_engine.specs.Terms.{Key}
use Rattle.bng_engine.specs.Views.{ShardView}
use Rattle.bng_pool.specs.Tables.{entry}
use Rattle.bng_steps.specs.Protocol.{ShardState, terms_of}
use Rattle.bng_shard.specs.Handling.{AreHeld}
use Rattle.bng_shard.proofs.Reaping.{held_here, held_settled, held_still}
use Rattle.bng_shard.proofs.shard.Shard.reap.Goals as goal

pub returns-in_err-ended-clause-held : goal.returns-in_err-ended-clause-held
returns-in_err-ended-clause-held c =
    let v = c.args.self.now in
    subst (λ (w : ShardView ShardState Entry). AreHeld w.number (terms_of w.state) c.args.pool.now.table) (sym c.in_err-ended.ensures.none.1) (held_settled v.number v.state.slots c.args.pool.now.table c.requires.held)

pub give_back-requires : goal.give_back-requires
give_back-requires c =
    let v = c.args.self.now in
    let says = c.in_ok-ended.ensures.says in (
      v.number,
      ap (λ (k : Key). entry c.args.pool.now.table k.address.0) (sym says.1.key) ∙ held_here v.number v.state.slots.terms c.take_ended.new.self.state.slots.terms says.0 says.2 c.args.pool.now.table c.requires.held,
    )

pub returns-clause-held : goal.returns-clause-held
returns-clause-held c =
    let v = c.args.self.now in
    let v' = c.take_ended.new.self in
    let says = c.in_ok-ended.ensures.says in
    let frees = c.give_back.ensures.table in
    subst (λ (n : ℕ). AreHeld n (terms_of v'.state) c.give_back.new.self.table) (sym c.in_ok-ended.ensures.one.number)
    (held_still v.number v.state.slots.terms v'.state.slots.terms says.0 says.2 c.args.pool.now.table c.requires.held c.give_back.new.self.table frees.0 c.in_ok-ended.ended.address.0 frees.1 c.in_ok-ended.ensures.unused)

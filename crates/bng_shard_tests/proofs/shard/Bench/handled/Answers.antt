use Rattle.std.proofs.Common.{◌≡◌, length, sym, ap, subst, ◌∙◌}
use Rattle.bng_base.specs.declared.item.Entry.{Entry}
use Rattle.bng_engine.specs.Views.{ShardView}
use Rattle.bng_steps.specs.Protocol.{ShardState, entry_of}
use Rattle.bng_shard_tests.proofs.Benches.{handled, remains}
use Rattle.bng_shard_tests.proofs.shard.Bench.handled.Goals as goal

pub invariant_of-self : goal.invariant_of-self
invariant_of-self g c =
    let number = λ (v : ShardView ShardState Entry). v.number in
    let state = λ (v : ShardView ShardState Entry). v.state in
    let pool = c.self.inside.pool in
    let drained = remains c.self.inside.shard c.drain-none.new.self pool (ap number c.drain-none.ensures.after) (ap state c.drain-none.ensures.after) c.self.invariant in
    let ready = remains c.drain-none.new.self c.prepare.new.self pool c.prepare.ensures.kept.number c.prepare.ensures.kept.state drained in
    let did = handled c.prepare.new.self c.step-fate.new.self pool c.step-fate.new.pool _ _ _ _ c.prepare.ensures.empty.0 c.step-fate.ensures ready in
    remains c.step-fate.new.self c.drain-journal.new.self c.step-fate.new.pool (ap number c.drain-journal.ensures.after) (ap state c.drain-journal.ensures.after) did

pub has_low_books-requires : goal.has_low_books-requires
has_low_books-requires g c =
    let state = λ (v : ShardView ShardState Entry). v.state in
    subst (λ (s : ShardState). length s.rules.profiles ≡ 2) (sym (c.prepare.ensures.kept.state ∙ ap state c.drain-none.ensures.after)) c.self.invariant.3

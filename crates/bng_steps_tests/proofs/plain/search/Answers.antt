use Rattle.std.proofs.Common.{rules, of_calls}
use Rattle.std.proofs.lemmas.Fn.{always_returns_same}
use Rattle.std.specs.Cmp.{nat_cmp_total}
use Rattle.std.specs.Ordering.{nat_cmp}
use Rattle.bng_sessions.proofs.Entries.{searched}
use Rattle.bng_steps_tests.proofs.plain.search.Goals as goal

pub returns : goal.returns
returns c =
    let facts = c.binary_search_by.ensures in
    let by_key = facts.position (λ e. nat_cmp e.0 c.args.number) (always_returns_same _ _ _ (λ a r h called. search (rules, of_calls))) in
    let s = searched nat_cmp nat_cmp_total c.args.entries.now c.args.number _ c.requires facts.bound by_key in
    record { here = s.here; bound = s.bound; before = s.before; after = s.after }

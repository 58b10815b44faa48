use Rattle.std.proofs.Common.{arith}
use Rattle.toml.specs.View.{view}
use Rattle.bng_schema.specs.Keys.{entries}
use Rattle.bng_schema.specs.Checks.{entry_mentions, IsUnknown, mention_of}
use Rattle.bng_schema.proofs.Firsts.{first_entry, none_entries_next}
use Rattle.bng_schema.proofs.unknown.unknown_in_table.Goals as goal

pub returns-in-Some-clause-found : goal.returns-in-Some-clause-found
returns-in-Some-clause-found c =
    let document = view c.args.document.now in
    let count = c.entries_of-place-end.ensures in
    first_entry IsUnknown (entry_mentions document c.args.table) c.loop-place.place (entries document c.args.table) (mention_of c.in-Some.unknown) (omega (arith, c.loop-place-test.true)) c.loop-place.invariant
    c.in-Some.ensures.found

pub loop-place-preserved : goal.loop-place-preserved
loop-place-preserved c =
    none_entries_next IsUnknown (entry_mentions (view c.args.document.now) c.args.table) c.loop-place.place c.loop-place.invariant c.in_default.ensures.none

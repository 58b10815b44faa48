use Rattle.std.proofs.Common.{arith}
use Rattle.toml.specs.View.{view}
use Rattle.bng_schema.specs.declared.keys.Table.TheVariants.{Gateway}
use Rattle.bng_schema.specs.Checks.{table_mentions, IsUnknown, mention_of}
use Rattle.bng_schema.proofs.Firsts.{first_at, none_next}
use Rattle.bng_schema.proofs.unknown.unknown_in_tables.Goals as goal

pub returns-in-Some-clause-found : goal.returns-in-Some-clause-found
returns-in-Some-clause-found c =
    first_at IsUnknown (table_mentions (view c.args.document.now)) c.args.tables.now c.loop-table.table-index Gateway (mention_of c.in-Some.unknown) (omega (arith, c.loop-table-test.true)) c.loop-table.invariant
    c.in-Some.ensures.found

pub loop-table-preserved : goal.loop-table-preserved
loop-table-preserved c =
    none_next IsUnknown (table_mentions (view c.args.document.now)) c.args.tables.now c.loop-table.table-index Gateway (omega (arith, c.loop-table-test.true)) c.loop-table.invariant c.in_default.ensures.none

use Rattle.std.proofs.Common.{arith}
use Rattle.toml.specs.View.{view}
use Rattle.bng_schema.specs.declared.keys.Table.TheVariants.{Gateway}
use Rattle.bng_schema.specs.Keys.{table_keys}
use Rattle.bng_schema.specs.Rules.{Breaks}
use Rattle.bng_schema.proofs.Firsts.{first_at, none_next}
use Rattle.bng_schema.proofs.first.first_of_tables.Goals as goal

pub returns-in-Some-clause-found : goal.returns-in-Some-clause-found
returns-in-Some-clause-found c =
    let document = view c.args.document.now in
    first_at (Breaks document c.args.rule) (table_keys document) c.args.tables.now c.loop-table.table-index Gateway c.in-Some.key (omega (arith, c.loop-table-test.true)) c.loop-table.invariant
    c.in-Some.ensures.found

pub loop-table-preserved : goal.loop-table-preserved
loop-table-preserved c =
    let document = view c.args.document.now in
    none_next (Breaks document c.args.rule) (table_keys document) c.args.tables.now c.loop-table.table-index Gateway (omega (arith, c.loop-table-test.true)) c.loop-table.invariant
    c.in_default.ensures.none

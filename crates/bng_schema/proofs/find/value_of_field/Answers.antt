use Rattle.toml.specs.View.{view}
use Rattle.bng_schema.proofs.Finding.{field_found, field_absent}
use Rattle.bng_schema.proofs.find.value_of_field.Goals as goal

pub returns-in-Some : goal.returns-in-Some
returns-in-Some c =
    field_found (view c.args.document.now) c.args.field c.args.place c.row_of-row.result.table c.entry_of.result c.row_of-row.ensures.table c.entry_of.ensures
    c.in-Some.entry c.get.result c.row_of-row.result.name.now c.in-Some.is c.row_of-row.ensures.name c.get.ensures

pub returns-in-None : goal.returns-in-None
returns-in-None c =
    field_absent (view c.args.document.now) c.args.field c.args.place c.row_of-row.result.table c.entry_of.result c.row_of-row.ensures.table c.entry_of.ensures c.in-None.is

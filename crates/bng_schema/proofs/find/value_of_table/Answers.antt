use Rattle.toml.specs.View.{view}
use Rattle.bng_schema.specs.Keys.{table_row}
use Rattle.bng_schema.proofs.Finding.{found_named}
use Rattle.bng_schema.proofs.find.value_of_table.Goals as goal

pub returns : goal.returns
returns c = found_named c.get.result c.row_of-row.result.name.now (table_row c.args.table).name (view c.args.document.now) c.row_of-row.ensures.name c.get.ensures

use Rattle.std.proofs.Common.{sym, ◌∙◌}
use Rattle.toml.specs.View.{view}
use Rattle.bng_schema.proofs.Finding.{listed_entry, own_entry, absent_entry}
use Rattle.bng_schema.proofs.find.entry_of.Goals as goal

pub returns-then-listed : goal.returns-then-listed
returns-then-listed c =
    listed_entry (view c.args.document.now) c.args.table c.args.place c.value_of_table.result c.value_of_table.ensures c.in-Some.value c.get.result c.in-Some.is (sym c.is_listed-listed.ensures ∙ c.if-listed.true) c.get.ensures

pub returns-else-listed : goal.returns-else-listed
returns-else-listed c =
    own_entry (view c.args.document.now) c.args.table c.args.place c.value_of_table.result c.value_of_table.ensures c.in-Some.value c.in-Some.is (sym c.is_listed-listed.ensures ∙ c.if-listed.false)

pub returns-in-None : goal.returns-in-None
returns-in-None c =
    absent_entry (view c.args.document.now) c.args.table c.args.place c.value_of_table.result c.value_of_table.ensures c.in-None.is

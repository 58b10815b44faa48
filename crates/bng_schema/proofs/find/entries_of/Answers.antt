use Rattle.std.proofs.Common.{sym, ◌∙◌}
use Rattle.toml.specs.View.{view}
use Rattle.bng_schema.proofs.Finding.{listed_count, own_count, no_count}
use Rattle.bng_schema.proofs.find.entries_of.Goals as goal

pub returns-then-listed : goal.returns-then-listed
returns-then-listed c =
    listed_count (view c.args.document.now) c.args.table c.value_of_table.result c.value_of_table.ensures c.in-Some.value c.item_count.result c.in-Some.is (sym c.is_listed-listed.ensures ∙ c.if-listed.true) c.item_count.ensures

pub returns-else-listed : goal.returns-else-listed
returns-else-listed c =
    own_count (view c.args.document.now) c.args.table c.value_of_table.result c.value_of_table.ensures c.in-Some.value c.in-Some.is (sym c.is_listed-listed.ensures ∙ c.if-listed.false)

pub returns-in-None : goal.returns-in-None
returns-in-None c = no_count (view c.args.document.now) c.args.table c.value_of_table.result c.value_of_table.ensures c.in-None.is

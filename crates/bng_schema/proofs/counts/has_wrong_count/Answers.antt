use Rattle.std.proofs.Common.{◌≡◌, length, rules, sym, ◌∙◌}
use Rattle.toml.specs.View.{view, items_view}
use Rattle.bng_schema.proofs.Finding.{items_of_list, items_counted, items_of_none}
use Rattle.bng_schema.proofs.Tests.{wrong_count, no_count_wrong}
use Rattle.bng_schema.proofs.counts.has_wrong_count.Goals as goal

pub returns-in-Some : goal.returns-in-Some
returns-in-Some c =
    let d = view c.args.value.now in
    let long : c.len.result ≡ length c.in-Some.list.now.items = search (rules, c.len.ensures) in
    wrong_count c.args.form d (items_view c.in-Some.list.now.items) c.len.result c.is_count.result (items_of_list d c.as_array.result c.as_array.ensures c.in-Some.list c.in-Some.is)
    (items_counted d c.as_array.result c.as_array.ensures c.in-Some.list c.in-Some.is ∙ sym long) c.is_count.ensures

pub returns-in-None : goal.returns-in-None
returns-in-None c =
    let d = view c.args.value.now in
    no_count_wrong c.args.form d (items_of_none d c.as_array.result c.as_array.ensures c.in-None.is)

use Rattle.std.proofs.Common.{◌≡◌, length, rules, ◌∙◌}
use Rattle.toml.specs.View.{view}
use Rattle.bng_schema.proofs.Finding.{list_counted, none_counted}
use Rattle.bng_schema.proofs.find.item_count.Goals as goal

pub returns-in-Some : goal.returns-in-Some
returns-in-Some c =
    let d = view c.args.value.now in
    let long : c.len.result ≡ length c.in-Some.list.now.items = search (rules, c.len.ensures) in
    long ∙ list_counted d c.as_array.result c.as_array.ensures c.in-Some.list c.in-Some.is

pub returns-in-None : goal.returns-in-None
returns-in-None c = none_counted (view c.args.value.now) c.as_array.result c.as_array.ensures c.in-None.is

use Rattle.std.proofs.Common.{◌↔◌, IsTrue, subst}
use Rattle.std.specs.List.{Any}
use Rattle.toml.specs.View.{view}
use Rattle.bng_schema.specs.Names.{IsShortText}
use Rattle.bng_schema.specs.Forms.{HasWrongText}
use Rattle.bng_schema.proofs.Finding.{items_of_list, items_of_none}
use Rattle.bng_schema.proofs.Items.{is_wrong_list, no_wrong_list}
use Rattle.bng_schema.proofs.texts.has_wrong_service.Goals as goal

pub returns-in-Some : goal.returns-in-Some
returns-in-Some c =
    let d = view c.args.value.now in
    is_wrong_list (IsShortText 64) d c.in-Some.list.now.items c.one_is_wrong.result (items_of_list d c.as_array.result c.as_array.ensures c.in-Some.list c.in-Some.is)
    (subst (λ vs. IsTrue c.one_is_wrong.result ↔ Any (λ v. HasWrongText (IsShortText 64) (view v)) vs) c.as_slice.ensures.value c.one_is_wrong.ensures)

pub returns-in-None : goal.returns-in-None
returns-in-None c =
    let d = view c.args.value.now in
    no_wrong_list (IsShortText 64) d (items_of_none d c.as_array.result c.as_array.ensures c.in-None.is)

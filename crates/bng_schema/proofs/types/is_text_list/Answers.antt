use Rattle.std.proofs.Common.{◌↔◌, IsTrue, subst}
use Rattle.std.specs.List.{All}
use Rattle.toml.specs.Data.{Data}
use Rattle.toml.specs.View.{view}
use Rattle.bng_schema.specs.Forms.{IsText}
use Rattle.bng_schema.proofs.Finding.{items_of_list, items_of_none}
use Rattle.bng_schema.proofs.Items.{is_list_of, no_list_of}
use Rattle.bng_schema.proofs.types.is_text_list.Goals as goal

abbrev IsItem : Data → Type 0
IsItem = IsText

pub returns-in-Some : goal.returns-in-Some
returns-in-Some c =
    let d = view c.args.value.now in
    is_list_of IsItem d c.in-Some.list.now.items c.are_texts.result (items_of_list d c.as_array.result c.as_array.ensures c.in-Some.list c.in-Some.is)
    (subst (λ vs. IsTrue c.are_texts.result ↔ All (λ v. IsItem (view v)) vs) c.as_slice.ensures.value c.are_texts.ensures)

pub returns-in-None : goal.returns-in-None
returns-in-None c =
    let d = view c.args.value.now in
    no_list_of IsItem d (items_of_none d c.as_array.result c.as_array.ensures c.in-None.is)

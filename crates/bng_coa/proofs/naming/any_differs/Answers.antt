use Rattle.std.proofs.Common.{rules, Bool, sym, ◌∙◌}
use Rattle.std.proofs.Common.{tests}
use Rattle.std.proofs.lemmas.Iterator.{YieldsList-from_slice}
use Rattle.std.proofs.lemmas.Iterator.Search.{any_from_yields_List}
use Rattle.bng_radius_wire.specs.declared.views.Attribute.{Attribute}
use Rattle.bng_radius_wire.specs.Attributes.{field}
use Rattle.bng_coa.specs.Naming.{differs, named}
use Rattle.bng_coa.proofs.Views.{list_any-map}
use Rattle.bng_coa.proofs.naming.any_differs.Goals as goal

pub returns : goal.returns
returns c =
    let test : Attribute → Bool = λ a. differs (named c.args.of.now) (field a) in
    any_from_yields_List test _ _ _ c.any.ensures.ran (YieldsList-from_slice c.args.attributes.now cc) (λ x b q k. search (rules, tests))
    ∙ sym (list_any-map field (differs (named c.args.of.now)) c.args.attributes.now)

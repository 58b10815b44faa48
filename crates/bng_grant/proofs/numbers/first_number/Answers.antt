use Rattle.std.proofs.Common.{rules, tests, Bool, sym, ap, ◌∙◌}
use Rattle.std.specs.Option.{option_map}
use Rattle.std.proofs.lemmas.Iterator.{YieldsList-from_slice}
use Rattle.std.proofs.lemmas.Iterator.Consumers.{YieldsList-from_copied}
use Rattle.std.proofs.lemmas.Iterator.Search.{find_from_yields_List}
use Rattle.bng_radius_wire.specs.declared.views.Attribute.{Attribute}
use Rattle.bng_radius_wire.specs.Attributes.{field}
use Rattle.bng_grant.specs.Grants.{is_number}
use Rattle.bng_grant.proofs.Views.{find-map, map_same}
use Rattle.bng_grant.proofs.numbers.first_number.Goals as goal

pub returns-clause-first : goal.returns-clause-first
returns-clause-first c =
    let test : Attribute → Bool = λ a. is_number c.args.kind (field a) in
    let found = find_from_yields_List test _ _ c.find.result c.find.ensures.ran (YieldsList-from_copied (YieldsList-from_slice c.args.attributes.now cc)) (λ x b q k. search (rules, tests)) in
    ap (option_map field) (map_same c.find.result found) ∙ sym (find-map field (is_number c.args.kind) c.args.attributes.now)

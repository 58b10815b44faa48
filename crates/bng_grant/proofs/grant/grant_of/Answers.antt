use Rattle.std.proofs.Common.{rules, List, refl, subst}
use Rattle.bng_radius_wire.specs.declared.views.Attribute.{Attribute}
use Rattle.bng_radius_wire.specs.Attributes.{fields}
use Rattle.bng_radius_wire.specs.Grammar.{whole}
use Rattle.bng_grant.specs.Grants.{gift, Gives, Replied}
use Rattle.bng_grant.proofs.Fronts.{kept_are_classes}
use Rattle.bng_grant.proofs.grant.grant_of.Goals as goal

pub returns-in-Ok-clause-grant : goal.returns-in-Ok-clause-grant
returns-in-Ok-clause-grant c =
    let gives = subst (λ (list : List Attribute). Gives (fields list) (gift c.grant_in.result)) c.as_slice.ensures.value c.grant_in.ensures in
    Replied (whole c.in-Ok.packet) (record { packet = search rules; few = search rules }) (gift c.grant_in.result) gives refl

pub returns-in-Ok-clause-classes : goal.returns-in-Ok-clause-classes
returns-in-Ok-clause-classes c = kept_are_classes (fields c.as_slice.result.now) c.grant_in.result.class.items (search rules) c.grant_in.ensures.class

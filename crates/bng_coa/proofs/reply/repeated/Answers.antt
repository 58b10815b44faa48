use Rattle.std.proofs.Common.{◌≡◌, List, Some, length, sym, ap, ◌∙◌, arith, lit<, length-append, ◌<◌}
use Rattle.std.specs.Prelude.{filter, find}
use Rattle.std.specs.Option.{option_map}
use Rattle.bng_radius_wire.proofs.Progress.{length-fields}
use Rattle.bng_radius_wire.specs.declared.views.Attribute.{Attribute}
use Rattle.bng_radius_wire.specs.Attributes.{Field, field, fields}
use Rattle.bng_coa.specs.Kinds.{has_kind}
use Rattle.bng_coa.proofs.Weights.{state_beside}
use Rattle.bng_coa.proofs.reply.repeated.Goals as goal

pub push-requires : goal.push-requires
push-requires c =
    let attributes = c.as_slice-attributes.result.now in
    let found : find (has_kind 24) (fields attributes) ≡ Some (field c.in-Some.state) = sym c.first.ensures ∙ ap (option_map field) c.in-Some.is in
    let few = state_beside (fields attributes) (field c.in-Some.state) found in
    let least : length c.put_proxy_states.new.into.items < 64 =
    omega (
      arith,
      few,
      length-fields c.put_proxy_states.new.into.items,
      ap (λ (fs : List Field). length fs) c.put_proxy_states.ensures,
      ap (λ (xs : List Attribute). length xs) c.new-list.ensures,
      length-append (fields c.new-list.result.items) (filter (has_kind 33) (fields attributes)),
      length-fields c.new-list.result.items,
      length-fields attributes,
      ap (λ (xs : List Attribute). length xs) c.as_slice-attributes.ensures.value,
      c.requires,
    ) in
    (lit< tt, least)

use Rattle.std.proofs.Common.{rules, tests, ◌≡◌, suc, List, [], ℕ, length, take, drop, get_or, sym, ap, subst, ◌∙◌, arith}
use Rattle.bng_radius_wire.specs.declared.views.Attribute.{Attribute}
use Rattle.bng_radius_wire.specs.Attributes.{Field, field, fields}
use Rattle.bng_radius_wire.specs.Grammar.{attributes_text}
use Rattle.bng_grant.specs.Classes.{classes, HaveRoom, AreKept}
use Rattle.bng_grant.proofs.Fronts.{ends_at, full_of, fields_at, field_fits}
use Rattle.bng_grant.proofs.class.kept_classes.Goals as goal

pub put-requires-clause-fits : goal.put-requires-clause-fits
put-requires-clause-fits c = field_fits c.args.attributes.now c.loop-attribute.attribute-index _ c.requires (omega arith)

pub returns-then-not-has_room : goal.returns-then-not-has_room
returns-then-not-has_room c =
    let all : List Attribute = c.args.attributes.now in
    let i : ℕ = c.loop-attribute.attribute-index in
    let none : Attribute = record { kind = 0; value = record { ref_ptr = (0, 0); now = [] } } in
    let here : Attribute = get_or all i none in
    let before : List Field = fields (take i all) in
    let size : length c.loop-attribute.class.items ≡ length (attributes_text (classes before)) = ap length c.loop-attribute.invariant.kept in
    let room : HaveRoom (classes before) = record { few = omega (arith, c.loop-attribute.invariant.few, c.loop-attribute.invariant.counted); short = omega (arith, size, c.loop-attribute.invariant.short) } in
    let full = full_of (classes before) (field here) c.loop-attribute.count c.len.result c.loop-attribute.invariant.counted (c.len.ensures.value ∙ size) (sym c.has_room.ensures ∙ search rules) in
    let kept = ends_at (fields all) before (fields (drop (suc i) all)) (field here) (fields_at all i none (omega arith)) (search (rules, tests)) room full in
    subst (AreKept (fields all)) (sym c.loop-attribute.invariant.kept) kept

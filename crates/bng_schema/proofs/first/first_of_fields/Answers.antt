use Rattle.std.proofs.Common.{get_or, arith}
use Rattle.toml.specs.View.{view}
use Rattle.bng_schema.specs.declared.keys.Field.TheVariants.{GatewayName}
use Rattle.bng_schema.specs.declared.keys.Key.TheVariants.{Of}
use Rattle.bng_schema.specs.Rules.{Breaks}
use Rattle.bng_schema.proofs.Firsts.{first_map_at, none_map_next}
use Rattle.bng_schema.proofs.first.first_of_fields.Goals as goal

pub returns-then-breaks-clause-found : goal.returns-then-breaks-clause-found
returns-then-breaks-clause-found c =
    let document = view c.args.document.now in
    first_map_at (Breaks document c.args.rule) (λ f. Of f c.args.place) c.args.fields.now c.loop-field.field-index GatewayName (omega (arith, c.loop-field-test.true)) c.loop-field.invariant
    (c.breaks.ensures.0 c.if-breaks.true)

pub loop-field-preserved : goal.loop-field-preserved
loop-field-preserved c =
    let document = view c.args.document.now in
    let here : ¬ Breaks document c.args.rule (Of (get_or c.args.fields.now c.loop-field.field-index GatewayName) c.args.place) =
    λ broken. let both = c.breaks.ensures.1 broken in let not = c.if-breaks.false in cc in
    none_map_next (Breaks document c.args.rule) (λ f. Of f c.args.place) c.args.fields.now c.loop-field.field-index GatewayName (omega (arith, c.loop-field-test.true)) c.loop-field.invariant here

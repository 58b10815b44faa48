use Rattle.std.proofs.Common.{arith, below_more}
use Rattle.std.proofs.lemmas.Int.{to_z-of_z}
use mir.Val.{SFits}
use mir.Syntax.{w64}
use Rattle.toml.specs.View.{view}
use Rattle.bng_schema.specs.declared.keys.Field.TheVariants.{StaticSession}
use Rattle.bng_schema.specs.Circuits.{HasNumber}
use Rattle.bng_schema.proofs.circuits.has_session_below.Goals as goal

pub loop-place-preserved : goal.loop-place-preserved
loop-place-preserved c =
    let fits : SFits w64 c.args.number = c.ranges.number in
    let test = simp to_z-of_z at c.is_number.ensures in
    let before = simp to_z-of_z at c.loop-place.invariant in
    simp to_z-of_z (below_more (λ i. ¬ HasNumber (view c.args.document.now) StaticSession i c.args.number) c.loop-place.place before
    (λ has. let both = test.1 has in let not = c.if-is_number.false in cc))

pub returns : goal.returns
returns c =
    let fits : SFits w64 c.args.number = c.ranges.number in
    let before = simp to_z-of_z at c.loop-place.invariant in
    (λ t. cc, λ w. absurd (before w.0 (omega arith) w.2))

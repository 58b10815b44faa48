use Rattle.std.proofs.lemmas.Int.{to_z-of_z}
use mir.Val.{SFits}
use mir.Syntax.{w64}
use Rattle.bng_schema.proofs.Tests.{is_within}
use Rattle.bng_schema.proofs.numbers.is_within.Goals as goal

pub returns : goal.returns
returns c =
    let fits : SFits w64 c.args.number = c.ranges.number in
    is_within c.args.least c.args.most c.args.number c.within.result c.is_some.result c.is_some.ensures (simp to_z-of_z at c.within.ensures.found) (simp to_z-of_z at c.within.ensures.none)

use Rattle.std.proofs.lemmas.Int.{to_z-of_z}
use mir.Val.{SFits}
use mir.Syntax.{w64}
use Rattle.bng_schema.proofs.Tests.{is_of_shards}
use Rattle.bng_schema.proofs.numbers.is_of_shards.Goals as goal

pub returns : goal.returns
returns c =
    let fits : SFits w64 c.args.number = c.ranges.number in
    is_of_shards c.args.shards c.args.number c.of_shards.result c.is_some.result c.is_some.ensures (simp to_z-of_z at c.of_shards.ensures.found) (simp to_z-of_z at c.of_shards.ensures.none)

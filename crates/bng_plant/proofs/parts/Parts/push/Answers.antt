use Rattle.std.proofs.Common.{refl}
use Rattle.bng_plant.proofs.PartsLaws.{cut_more}
use Rattle.bng_plant.proofs.parts.Parts.push.Goals as goal

pub returns-clause-parts : goal.returns-clause-parts
returns-clause-parts g c =
    rw (c.push_reserved.ensures.items, c.append.ensures.items) (cut_more _ _ _ c.args.part.now c.args.self.now.whole refl)

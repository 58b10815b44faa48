use Rattle.std.proofs.Common.{sym, ◌∙◌}
use Rattle.bng_plant.proofs.PartsLaws.{join_cut}
use Rattle.bng_plant.proofs.parts.Parts.items.Goals as goal

pub returns : goal.returns
returns g c = c.as_slice.ensures.value ∙ sym (join_cut c.args.self.now.lengths.items c.args.self.now.items.items c.args.self.now.whole)

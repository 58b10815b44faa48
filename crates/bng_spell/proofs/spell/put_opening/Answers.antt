use Rattle.bng_spell.proofs.Spellings.{adds_both}
use Rattle.bng_spell.proofs.spell.put_opening.Goals as goal

pub returns : goal.returns
returns g c = adds_both c.put.ensures c.put_line.ensures

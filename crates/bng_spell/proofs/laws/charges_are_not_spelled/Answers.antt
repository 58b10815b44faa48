use Rattle.bng_spell.proofs.OneForm.{charges_unspelled}
use Rattle.bng_spell.proofs.laws.charges_are_not_spelled.Goals as goal

pub returns : goal.returns
returns c = charges_unspelled

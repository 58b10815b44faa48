use Rattle.bng_slots.proofs.BitLaws.{all_free}
use Rattle.bng_slots.proofs.vacancy.Vacancy.open.Goals as goal

pub returns : goal.returns
returns c = all_free

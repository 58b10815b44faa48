use Rattle.bng_steps.proofs.OpenedKeys.{rows_apart, rows_of_shard}
use Rattle.bng_steps.proofs.laws.terms_of_circuits_are_apart.Goals as goal

pub returns-clause-own : goal.returns-clause-own
returns-clause-own c number rules circuits now low own apart = rows_of_shard number rules circuits now own

pub returns-clause-apart : goal.returns-clause-apart
returns-clause-apart c number rules circuits now low own apart = rows_apart number rules circuits now apart

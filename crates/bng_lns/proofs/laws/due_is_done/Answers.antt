use Rattle.bng_lns.proofs.Reminding.{reminded_once, reminded_twice}
use Rattle.bng_lns.proofs.laws.due_is_done.Goals as goal

pub returns-clause-once : goal.returns-clause-once
returns-clause-once c = λ now t k p few e due. reminded_once now t k p few e due

pub returns-clause-twice : goal.returns-clause-twice
returns-clause-twice c = λ now t k p few e. reminded_twice now t k p few e

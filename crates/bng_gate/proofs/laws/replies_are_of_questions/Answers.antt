use Rattle.bng_gate.proofs.Replying.{replies_of}
use Rattle.bng_gate.proofs.laws.replies_are_of_questions.Goals as goal

pub returns : goal.returns
returns c = replies_of

use Rattle.std.proofs.Common.{◌∙◌}
use Rattle.bng_forward.proofs.packet.obstacle.Goals as goal

pub returns-in-Some-clause-fate : goal.returns-in-Some-clause-fate
returns-in-Some-clause-fate c = λ holders bytes is e. c.to_term.ensures.fate holders bytes is (e ∙ c.in-Some.is)

use Rattle.bng_lac.proofs.Up.{up_is}
use Rattle.bng_lac.proofs.law.a_call_is_up.Goals as goal

pub returns : goal.returns
returns c = λ s session tunnel peer t e. up_is s session t tunnel peer e

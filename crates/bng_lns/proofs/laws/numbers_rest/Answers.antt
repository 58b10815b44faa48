use Rattle.bng_lns.proofs.Given.{is_given}
use Rattle.bng_lns.proofs.laws.numbers_rest.Goals as goal

pub returns : goal.returns
returns c = λ now t some. is_given now t some

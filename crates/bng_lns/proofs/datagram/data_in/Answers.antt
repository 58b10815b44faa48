use Rattle.std.proofs.lemmas.Bool.{both_ways}
use Rattle.bng_lns.proofs.datagram.data_in.Goals as goal

pub returns-then-cut-clause-none : goal.returns-then-cut-clause-none
returns-then-cut-clause-none c = λ d is. both_ways c.args.cut is.whole c.if-cut.true

pub returns-in-Err-clause-none : goal.returns-in-Err-clause-none
returns-in-Err-clause-none c = λ d is. c.in-Err.ensures.only d is.message

use Rattle.bng_lns.proofs.datagram.carried.Goals as goal

pub returns-in-Err-clause-none : goal.returns-in-Err-clause-none
returns-in-Err-clause-none c = λ info carries. c.in-Err.ensures.only (record { protocol = 33; info = info }) carries

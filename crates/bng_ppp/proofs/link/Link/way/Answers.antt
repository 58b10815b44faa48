use Rattle.std.proofs.Common.{sym, arith}
use Rattle.bng_ppp_wire.specs.View.{frame_of}
use Rattle.bng_ppp.proofs.link.Link.way.Goals as goal

pub returns-in_default-clause-way : goal.returns-in_default-clause-way
returns-in_default-clause-way c = λ f is short. absurd (c.in_default.ensures.only f is)

pub returns-in_default-read-clause-way : goal.returns-in_default-read-clause-way
returns-in_default-read-clause-way c = (omega arith, (frame_of c.in-Ok.frame, c.in-Ok.ensures.found, sym c.if-not-is_for_upper.ensures, λ p is. absurd (c.in_default-read.ensures.only p is)))

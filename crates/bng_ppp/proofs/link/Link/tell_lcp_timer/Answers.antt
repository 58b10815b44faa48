use Rattle.std.proofs.Common.{rules}
use Rattle.bng_ppp.specs.Said.{said}
use Rattle.bng_ppp.proofs.link.Link.tell_lcp_timer.Goals as goal

pub returns-clause-steps : goal.returns-clause-steps
returns-clause-steps c = record { says = said c.remind.new.steps; lcp = c.remind.new.self; steps = search rules; above = search rules }

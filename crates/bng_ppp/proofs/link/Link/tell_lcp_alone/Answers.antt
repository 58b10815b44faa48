use Rattle.std.proofs.Common.{rules}
use Rattle.bng_ppp.specs.Said.{said}
use Rattle.bng_ppp.proofs.link.Link.tell_lcp_alone.Goals as goal

pub returns-clause-steps : goal.returns-clause-steps
returns-clause-steps c = record { says = said c.take_input.new.steps; lcp = c.take_input.new.self; steps = search rules; above = search rules }

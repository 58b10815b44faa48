use Rattle.std.proofs.Common.{rules}
use Rattle.bng_ppp.specs.Said.{said}
use Rattle.bng_ppp.proofs.link.Link.hear_ipcp_within.Goals as goal

pub returns : goal.returns
returns c = record { doing = record { ipcp = c.hear.new.self; said = said c.hear.new.steps }; hears = search rules; done = search rules }

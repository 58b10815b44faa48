use Rattle.std.proofs.Common.{rules}
use Rattle.bng_ppp.specs.Said.{said}
use Rattle.bng_ppp.proofs.link.Link.close.Goals as goal

pub returns-clause-closes : goal.returns-clause-closes
returns-clause-closes c = record { doing = record { link = c.follow.new.self; said = said c.follow.new.steps }; follows = search rules; above = search rules }

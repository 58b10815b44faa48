use Rattle.std.proofs.Common.{rules}
use Rattle.bng_ppp.proofs.LinkLaws.{no_reject}
use Rattle.bng_ppp.proofs.link_frame.rejects_ipcp.Goals as goal

pub returns-in_default : goal.returns-in_default
returns-in_default c = (λ yes. absurd (search rules), λ r. absurd (no_reject c.args.octets.now c.frame_at.result c.frame_at.ensures.heard c.in_default.not-Lcp r))

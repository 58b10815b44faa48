-- The header stands before the number.
use Rattle.std.proofs.Common.{subst, sym}
use Rattle.bng_base.specs.Ipv4Grammar.{IsIpv4}
use Rattle.bng_peer.proofs.Header.{numbered}
use Rattle.bng_peer.proofs.packet.put_number.Goals as goal

pub returns-clause-packet : goal.returns-clause-packet
returns-clause-packet c = λ v bare is. subst (IsIpv4 v) (sym c.overwrite.ensures.payload) (numbered v c.args.number c.args.frame.now.payload c.requires bare is)

use Rattle.std.proofs.Common.{ap, ◌∙◌, arith}
use Rattle.std.specs.Net.Addr.{ipv4_bits}
use Rattle.bng_real.proofs.Bits.{bits_again, same_peer}
use Rattle.bng_real.proofs.ends.address_of.Goals as goal

pub returns : goal.returns
returns c =
    let bits = bits_again c.from_bits.result c.args.peer.ip.0 c.from_bits.ensures (omega arith) in
    same_peer _ _ c.args.peer (ap ipv4_bits c.new.ensures.ip ∙ bits) c.new.ensures.port

-- The packet that was written is the one that is numbered.
use Rattle.std.proofs.Common.{length, refl, ap, ◌∙◌, arith}
use Rattle.bng_base.specs.Packet.{Packet}
use Rattle.bng_peer.specs.Script.{packet_of}
use Rattle.bng_peer.proofs.Header.{spelled_size}
use Rattle.bng_peer.proofs.packet.ipv4_packet.Goals as goal

pub returns-clause-packet : goal.returns-clause-packet
returns-clause-packet c = c.put_number.ensures.packet (packet_of c.args.src c.args.dst c.args.total) refl (c.in-Done.ensures.again refl)

pub returns-clause-size : goal.returns-clause-size
returns-clause-size c =
    c.put_number.ensures.size
    ∙ ap (λ (f : Packet). length f.payload) (c.in-Done.ensures.done refl)
    ∙ spelled_size (packet_of c.args.src c.args.dst c.args.total) refl (omega (arith, c.requires.some))

use Rattle.bng_base.specs.PppGrammar.{ControlPacket, IsControlPacket}
use Rattle.bng_ppp_wire.specs.declared.view.Packet.{Packet}
use Rattle.bng_ppp_wire.specs.View.{packet_of}
use Rattle.bng_ppp_wire.proofs.Exactly.{exactly_outside}
use Rattle.bng_ppp_wire.proofs.view.Packet.read.Goals as goal

pub returns-clause-outside : goal.returns-clause-outside
returns-clause-outside c =
    let bytes = c.args.bytes.now in
    exactly_outside (λ (v : Packet). IsControlPacket (packet_of v) bytes) ((p : ControlPacket) → IsControlPacket p bytes → ⊥) c.packet_at.result (λ v h none. none (packet_of v) h)
    c.packet_at.ensures.found c.packet_at.ensures.outside c.packet_at.ensures.never

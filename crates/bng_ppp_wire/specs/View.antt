-- What the views say, without where it lies in memory.
use Rattle.std.specs.Prelude.{List, map}
use Rattle.bng_base.specs.PppGrammar.{PppFrame, ControlPacket, PppOption}
use Rattle.bng_ppp_wire.specs.declared.view.Ppp.{Ppp}
use Rattle.bng_ppp_wire.specs.declared.view.Packet.{Packet}
use Rattle.bng_ppp_wire.specs.declared.view.Opt.{Opt}

abbrev pub frame_of : Ppp → PppFrame
frame_of p = record { protocol = p.protocol; info = p.info.now }

abbrev pub packet_of : Packet → ControlPacket
packet_of p = record { code = p.code; id = p.id; body = p.body.now }

abbrev pub option_of : Opt → PppOption
option_of o = record { kind = o.kind; value = o.value.now }

abbrev pub options_of : List Opt → List PppOption
options_of os = map option_of os

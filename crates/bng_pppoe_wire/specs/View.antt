-- What the views say, without where it lies in memory.
use Rattle.std.specs.Prelude.{List, map}
use Rattle.bng_base.specs.PppoeGrammar.{PppoeFrame, PppoeTag}
use Rattle.bng_pppoe_wire.specs.declared.view.Pppoe.{Pppoe}
use Rattle.bng_pppoe_wire.specs.declared.view.Tag.{Tag}

abbrev pub frame_of : Pppoe → PppoeFrame
frame_of p = record { dst = p.dst; src = p.src; discovery = p.discovery; code = p.code; session = p.session; payload = p.payload.now }

abbrev pub tag_of : Tag → PppoeTag
tag_of t = record { kind = t.kind; value = t.value.now }

abbrev pub tags_of : List Tag → List PppoeTag
tags_of ts = map tag_of ts

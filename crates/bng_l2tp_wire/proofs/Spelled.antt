-- What is written is read as the same message.
use Rattle.std.proofs.Common.{◌≡◌, ◌+◌, ◌-◌, ◌<◌, ◌≤◌, ◌∷◌, length, take, refl, sym, ap, arith}
use Rattle.std.specs.List.{AllByRecursion}
use Rattle.std.proofs.lemmas.List.{take_all}
use Rattle.byteorder.specs.Endian.{big_from}
use Rattle.bng_l2tp_wire.specs.Avps.{AvpFits, avps_text}
use Rattle.bng_l2tp_wire.specs.Messages.{ControlMessage, IsControl, control_text, DataMessage, IsData, data_text, bare}

pub control_reads : (m : ControlMessage) → m.tunnel < 65536 → m.session < 65536 → m.ns < 65536 → m.nr < 65536 → AllByRecursion AvpFits m.avps → 12 + length (avps_text m.avps) ≤ 4096 → IsControl m (control_text m)
control_reads m t s n r fit small =
    let size : big_from 2 2 (control_text m) ≡ 12 + length (avps_text m.avps) = omega arith in
    record {
      bits = record { type = refl; len = refl; sequence = refl; offset = refl; priority = refl };
      version = refl;
      at_least = omega (arith, size);
      is_there = omega (arith, size);
      tunnel = omega arith;
      session = omega arith;
      ns = omega arith;
      nr = omega arith;
      avps = record { fit = fit; spelled = take_all _ (avps_text m.avps) (omega (arith, size)) };
    }

pub data_reads : (d : DataMessage) → d.tunnel < 65536 → d.session < 65536 → 2 ≤ length d.ppp → IsData d (data_text d)
data_reads d t s two =
    let payload : take (length (data_text d) - 6) (255 ∷ 3 ∷ d.ppp) ≡ 255 ∷ 3 ∷ d.ppp = take_all (length (data_text d) - 6) (255 ∷ 3 ∷ d.ppp) (omega arith) in
    record {
      type = refl;
      version = refl;
      tunnel = omega arith;
      session = omega arith;
      within = omega arith;
      is_there = omega arith;
      payload = ap bare (sym payload);
      ppp = two;
    }

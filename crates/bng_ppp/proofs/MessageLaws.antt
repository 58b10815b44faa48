-- A frame of a packet reads back as that packet, and as no other.
use Rattle.std.proofs.Common.{◌≡◌, ◌≤◌, ◌<◌, ◌+◌, ◌-◌, ℕ, true, List, [], ◌∷◌, length, refl, sym, ap, subst, arith, suc, zero}
use Rattle.std.specs.List.{All, AllByRecursion}
use Rattle.std.proofs.lemmas.Bool.Decides.{nat_tests}
use Rattle.std.proofs.lemmas.List.{take_all}
use Rattle.byteorder.specs.Endian.{big_from}
use Rattle.byteorder.specs.Numbers.{big_number-reads_back}
use Rattle.bng_base.specs.Packet.{Packet}
use Rattle.bng_base.specs.PppGrammar.{PppFrame, ControlPacket, IsPpp, IsControlPacket, packet_text, ppp_text}
use Rattle.bng_ppp.specs.Messages.{frame_text, is_written, ReadsBack}
use Rattle.bng_ppp.specs.Said.{payloads}
use Rattle.bng_ppp.proofs.OneOutcome.{frame_one, packet_one}

-- the text of a packet that the gateway writes
pub record IsWritten (octets : List ℕ) : Type 0 where
  pub number : ℕ
  pub packet : ControlPacket
  pub written : is_written number packet.code ≡ true
  pub spelled : octets ≡ frame_text number packet

abbrev pub AreWritten : List (List ℕ) → Type 0
AreWritten outs = AllByRecursion IsWritten outs

pub frame_back : (n : ℕ) (info : List ℕ) → n < 65536 → IsPpp (record { protocol = n; info = info }) (ppp_text (record { protocol = n; info = info }))
frame_back n info small = record { long = omega arith; protocol = sym (big_number-reads_back 2 n info small); info = refl }

pub packet_back : (p : ControlPacket) → length (packet_text p) < 65536 → IsControlPacket p (packet_text p)
packet_back p short =
    let size : big_from 2 2 (packet_text p) ≡ 4 + length p.body = big_number-reads_back 2 (4 + length p.body) p.body (omega arith) in
    record { code = refl; id = refl; at_least = omega (arith, size); is_there = omega (arith, size); body = sym (take_all (big_from 2 2 (packet_text p) - 4) p.body (omega (arith, size))) }

-- two messages of one text
pub message_one : (n m : ℕ) (p q : ControlPacket) → n < 65536 → m < 65536 → length (packet_text p) < 65536 → frame_text n p ≡ frame_text m q → (n ≡ m) × (p ≡ q)
message_one n m p q small little short e =
    let a : PppFrame = record { protocol = n; info = packet_text p } in
    let b : PppFrame = record { protocol = m; info = packet_text q } in
    let is_b : IsPpp b (frame_text n p) = subst (λ (octets : List ℕ). IsPpp b octets) (sym e) (frame_back m (packet_text q) little) in
    let same : a ≡ b = frame_one a b (frame_text n p) (frame_back n (packet_text p) small) is_b in
    let texts : packet_text p ≡ packet_text q = ap (λ (f : PppFrame). f.info) same in
    let short_q : length (packet_text q) < 65536 = omega (arith, short, ap length texts) in
    let is_q : IsControlPacket q (packet_text p) = subst (λ (octets : List ℕ). IsControlPacket q octets) (sym texts) (packet_back q short_q) in
    (ap (λ (f : PppFrame). f.protocol) same, packet_one p q (packet_text p) (packet_back p short) is_q)

-- What goes out -----------------------------------------------------------------------------------------------------------

-- the numbers of the protocols that the gateway writes
pub small : (n c : ℕ) → is_written n c ≡ true → n < 65536
small n c e = grind (arith, nat_tests)

one_back : (octets : List ℕ) → IsWritten octets → length octets ≤ 4160 → ReadsBack octets
one_back octets w short =
    let fits : length (packet_text w.packet) < 65536 = omega (arith, short, ap length w.spelled) in
    let f : PppFrame = record { protocol = w.number; info = packet_text w.packet } in
    record {
      number = w.number;
      packet = w.packet;
      written = w.written;
      spelled = w.spelled;
      frame_is = subst (λ (o : List ℕ). IsPpp f o) (sym w.spelled) (frame_back w.number (packet_text w.packet) (small w.number w.packet.code w.written));
      packet_is = packet_back w.packet fits;
    }

pub all_read_back : (frames : List Packet) → AreWritten (payloads frames) → All (λ (f : Packet). length f.payload ≤ 4160) frames → All (λ (f : Packet). ReadsBack f.payload) frames
all_read_back [] w fit = λ k d lt. absurd (omega (arith, lt))
all_read_back (x ∷ xs) w fit = at_place (one_back x.payload w.0 (fit 0 x (omega arith))) (all_read_back xs w.1 (λ k d lt. fit (suc k) d (omega (arith, lt))))
  where
    at_place : ReadsBack x.payload → All (λ (f : Packet). ReadsBack f.payload) xs → All (λ (f : Packet). ReadsBack f.payload) (x ∷ xs)
    at_place here rest zero d lt = here
    at_place here rest (suc k) d lt = rest k d (omega (arith, lt))

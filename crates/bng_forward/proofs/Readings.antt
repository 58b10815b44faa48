-- What is read of octets is one: one frame, one packet in it, and one header.
use Rattle.std.proofs.Common.{◌≡◌, ℕ, ◌+◌, ◌-◌, ◌≤◌, List, take, drop, length, sym, ap, ◌∙◌, arith}
use Rattle.std.proofs.lemmas.List.{drop-take, drop-drop, length-take, length-drop}
use Rattle.byteorder.specs.Endian.{big_from}
use Rattle.bng_base.specs.declared.address.Ip4.{Ip4}
use Rattle.bng_base.specs.declared.ipv4.Ipv4.{Ipv4}
use Rattle.bng_base.specs.declared.settings.AccessPort.{AccessPort}
use Rattle.bng_base.specs.FateOf.{Arrival}
use Rattle.bng_base.specs.Ipv4Grammar.{IsIpv4}
use Rattle.bng_base.specs.PppoeGrammar.{PppoeFrame, IsPppoe}
use Rattle.bng_pppoe_wire.proofs.Judging.{one_layout}
use Rattle.bng_forward.specs.Fates.{IsFrame, Carries}
use Rattle.bng_forward.specs.Framing.{IsFrameWith}

pub one_frame : (ports : List AccessPort) (number : ℕ) (a : Arrival) (p q : PppoeFrame) → IsFrame ports number a p → IsFrame ports number a q → p ≡ q
one_frame ports number a p q x y = one_layout p q a.octets x.2.frame.laid y.2.frame.laid

pub same_ip : (x y : Ip4) → x.0 ≡ y.0 → x ≡ y
same_ip x y e = let make : ℕ → Ip4 = λ n. record { 0 = n } in ap make e

-- octets begin with one packet
pub one_header : (v w : Ipv4) (bytes : List ℕ) → IsIpv4 v bytes → IsIpv4 w bytes → v ≡ w
one_header v w bytes x y =
    let made : Ip4 → Ip4 → ℕ → ℕ → ℕ → Ipv4 = λ s d t h n. record { src = s; dst = d; ttl = t; header = h; total = n } in
    ap (λ (s : Ip4). made s v.dst v.ttl v.header v.total) (same_ip v.src w.src (x.src ∙ sym y.src))
    ∙ ap (λ (d : Ip4). made w.src d v.ttl v.header v.total) (same_ip v.dst w.dst (x.dst ∙ sym y.dst))
    ∙ ap (λ (t : ℕ). made w.src w.dst t v.header v.total) (x.ttl ∙ sym y.ttl)
    ∙ ap (λ (h : ℕ). made w.src w.dst w.ttl h v.total) (x.header ∙ sym y.header)
    ∙ ap (made w.src w.dst w.ttl w.header) (x.total ∙ sym y.total)

-- The packet of a frame stands behind 22 octets, and has two octets fewer than LENGTH says.
pub record StandsAt22 (packet octets : List ℕ) : Type 0 where
  pub here : packet ≡ take (big_from 18 2 octets - 2) (drop 22 octets)
  pub counted : packet ≡ take (length packet) (drop 22 octets)
  pub fits : 22 + length packet ≤ length octets

pub carried_at : (p : PppoeFrame) (packet octets : List ℕ) → IsPppoe p octets → Carries p packet → StandsAt22 packet octets
carried_at p packet octets is carries =
    let n = big_from 18 2 octets in
    let behind : length (drop 20 octets) ≡ length octets - 20 = length-drop 20 octets in
    let payload : p.payload ≡ take (20 + n - 20) (drop 20 octets) = is.laid.payload in
    let size : length p.payload ≡ n = omega (arith, ap length payload, length-take (20 + n - 20) (drop 20 octets), behind, is.laid.is_there) in
    let count : 20 + n - 20 ≡ 2 + (n - 2) = omega (arith, size, carries.ppp.long) in
    let there : packet ≡ take (n - 2) (drop 22 octets) =
    carries.ppp.info ∙ ap (drop 2) payload ∙ ap (λ (k : ℕ). drop 2 (take k (drop 20 octets))) count ∙ drop-take 2 (n - 2) (drop 20 octets) ∙ ap (take (n - 2)) (drop-drop 2 20 octets) in
    let long : length packet ≡ n - 2 = omega (arith, ap length carries.ppp.info, length-drop 2 p.payload, size) in
    record {
      here = there;
      counted = there ∙ ap (λ (k : ℕ). take k (drop 22 octets)) (sym long);
      fits = omega (arith, long, size, carries.ppp.long, is.laid.is_there);
    }

pub packet_at : (packet octets : List ℕ) → IsFrameWith packet octets → StandsAt22 packet octets
packet_at packet octets is = carried_at is.frame packet octets is.read is.carries

-- a frame carries one packet
pub one_packet : (x y octets : List ℕ) → IsFrameWith x octets → IsFrameWith y octets → x ≡ y
one_packet x y octets p q = (packet_at x octets p).here ∙ sym (packet_at y octets q).here

-- what is left of a frame whose headers and padding are cut off
pub cut_out : (size : ℕ) (bytes front seen left : List ℕ) → 22 + size ≤ length bytes → front ≡ drop 22 bytes → seen ≡ front → left ≡ take (length front - (length seen - size)) front
    → left ≡ take size (drop 22 bytes)
cut_out size bytes front seen left fits behind same cut =
    let long : length front ≡ length bytes - 22 = ap length behind ∙ length-drop 22 bytes in
    let count : length front - (length seen - size) ≡ size = omega (arith, long, ap length same, fits) in
    cut ∙ ap (λ (k : ℕ). take k front) count ∙ ap (take size) behind

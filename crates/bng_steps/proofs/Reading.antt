-- What is a whole packet as its charge says is read so.
use Rattle.std.proofs.Common.{◌≡◌, ◌&&◌, ℕ, zero, suc, ◌+◌, ◌*◌, ◌^◌, Bool, true, false, not, cond, List, length, drop, Option, Some, None, MatchOption, refl, sym, ap, ◌∙◌, arith, eqb}
use Rattle.std.specs.Option.{option_map}
use Rattle.std.proofs.lemmas.Bool.{false≢true}
use Rattle.std.proofs.lemmas.List.{get_or-drop}
use Rattle.byteorder.specs.Endian.{big_from}
use Rattle.bng_base.specs.declared.address.Ip4.{Ip4}
use Rattle.bng_base.specs.declared.address.Mac.{Mac}
use Rattle.bng_base.specs.declared.address.Peer.{Peer}
use Rattle.bng_base.specs.declared.address.SessionNo.{SessionNo}
use Rattle.bng_base.specs.declared.address.TunnelNo.{TunnelNo}
use Rattle.bng_base.specs.declared.circuit.Circuit.{Circuit}
use Rattle.bng_base.specs.declared.circuit.Circuit.TheVariants.{Pppoe, L2tp}
use Rattle.bng_base.specs.declared.item.Charge.{Charge}
use Rattle.bng_base.specs.declared.item.OutRecord.{OutRecord}
use Rattle.bng_base.specs.declared.outside.Role.{Role}
use Rattle.bng_base.specs.declared.outside.Role.TheVariants.{Access, Core, Tunnel, Auth, Acct, Coa, Control}
use Rattle.bng_engine.specs.Wire.{WirePacket}
use Rattle.bng_engine.specs.Protocol.{as_told}
use Rattle.bng_steps.specs.Reader.{call_packet, is_call_data, is_session_data, frame_packet, pppoe_reader, tells_pppoe, IsInputOf, IsOutputOf, IsOutputOn, IsOutputOver, IsInDirection, IsNoPacket, IsWhole}

-- a number that stands after some octets
big_from_drop : (k i n : ℕ) (xs : List ℕ) → big_from i n (drop k xs) ≡ big_from (k + i) n xs
big_from_drop k i zero xs = refl
big_from_drop k i (suc n) xs =
    let next : k + suc i ≡ suc (k + i) = omega arith in
    omega (arith, ap (λ (x : ℕ). x * 256 ^ n) (get_or-drop k xs i 0), big_from_drop k (suc i) n xs, ap (λ (j : ℕ). big_from j n xs) next)

abbrev make : Bool → Option Circuit → Ip4 → ℕ → Option WirePacket
make input circuit address octets = let w : WirePacket = record { input = input; circuit = circuit; address = address; octets = octets } in Some w

abbrev ip4 : ℕ → Ip4
ip4 n = record { 0 = n }

abbrev mac_of : List ℕ → Mac
mac_of octets = record { 0 = octets }

abbrev session_of : ℕ → SessionNo
session_of n = record { 0 = n }

no_packet : (role : Role) (octets : List ℕ) → IsNoPacket role octets → pppoe_reader role octets ≡ None
no_packet (Access port) octets h = ap (λ (b : Bool). cond b (Some (frame_packet port octets)) None) (h.not_data refl)
no_packet Core octets h = absurd (false≢true (sym h.not_core))
no_packet Tunnel octets h = ap (λ (b : Bool). cond b (Some (call_packet octets)) None) (h.not_call refl)
no_packet Auth octets h = refl
no_packet Acct octets h = refl
no_packet Coa octets h = refl
no_packet Control octets h = refl

input_read : (c : Charge) (role : Role) (octets : List ℕ) → IsInputOf c role octets → c.input ≡ true → pppoe_reader role octets ≡ Some (as_told tells_pppoe c)
input_read c role octets h e =
    ap (λ (r : Role). pppoe_reader r octets) h.role_is
    ∙ ap (λ (n : ℕ). make true None (ip4 n) (length octets)) (sym h.packet.src ∙ ap (λ (x : Ip4). x.0) h.source)
    ∙ ap (λ (n : ℕ). make true None c.address n) (sym h.counted)
    ∙ ap (λ (b : Bool). make b (cond (not b && tells_pppoe c.circuit) (Some c.circuit) None) c.address c.octets) (sym e)

is_data : (c : Charge) (role : Role) (octets : List ℕ) → IsOutputOf c role octets → is_session_data octets ≡ true
is_data c role octets h = ap (λ (n : ℕ). eqb n 34916 && eqb (big_from 20 2 octets) 33) h.ether_type ∙ ap (λ (n : ℕ). eqb n 33) h.protocol

output_read : (c : Charge) (role : Role) (octets : List ℕ) → IsOutputOf c role octets → c.input ≡ false → pppoe_reader role octets ≡ Some (as_told tells_pppoe c)
output_read c role octets h e =
    let length' = length (drop 22 octets) in
    let address = ip4 (big_from 38 4 octets) in
    ap (λ (r : Role). pppoe_reader r octets) h.role_is
    ∙ ap (λ (b : Bool). cond b (Some (frame_packet h.port octets)) None) (is_data c role octets h)
    ∙ ap (λ (xs : List ℕ). make false (Some (Pppoe h.port (mac_of xs) (session_of (big_from 16 2 octets)))) address length') h.mac_is
    ∙ ap (λ (n : ℕ). make false (Some (Pppoe h.port h.mac (session_of n))) address length') h.session_id
    ∙ ap (λ (n : ℕ). make false (Some (Pppoe h.port h.mac h.session)) (ip4 n) length') (sym (big_from_drop 22 16 4 octets) ∙ sym h.packet.dst ∙ ap (λ (x : Ip4). x.0) h.destination)
    ∙ ap (λ (n : ℕ). make false (Some (Pppoe h.port h.mac h.session)) c.address n) (sym h.counted)
    ∙ ap (λ (x : Circuit). make false (cond (tells_pppoe x) (Some x) None) c.address c.octets) (sym h.circuit)
    ∙ ap (λ (b : Bool). make b (cond (not b && tells_pppoe c.circuit) (Some c.circuit) None) c.address c.octets) (sym e)

over_data : (peer : Peer) (c : Charge) (role : Role) (to : Peer) (octets : List ℕ) → IsOutputOver peer c role to octets → is_call_data octets ≡ true
over_data peer c role to octets h = ap (λ (n : ℕ). eqb n 0 && eqb (big_from 8 2 octets) 33) h.type ∙ ap (λ (n : ℕ). eqb n 33) h.protocol

over_read : (peer : Peer) (tunnel : TunnelNo) (session : SessionNo) (c : Charge) (role : Role) (to : Peer) (octets : List ℕ) → c.circuit ≡ L2tp peer tunnel session → IsOutputOver peer c role to octets → c.input ≡ false
    → pppoe_reader role octets ≡ Some (as_told tells_pppoe c)
over_read peer tunnel session c role to octets circuit h e =
    ap (λ (r : Role). pppoe_reader r octets) h.role_is
    ∙ ap (λ (b : Bool). cond b (Some (call_packet octets)) None) (over_data peer c role to octets h)
    ∙ ap (λ (n : ℕ). make false None (ip4 n) (length (drop 10 octets))) (sym (big_from_drop 10 16 4 octets) ∙ sym h.packet.dst ∙ ap (λ (x : Ip4). x.0) h.destination)
    ∙ ap (λ (n : ℕ). make false None c.address n) (sym h.counted)
    ∙ ap (λ (x : Circuit). make false (cond (tells_pppoe x) (Some x) None) c.address c.octets) (sym circuit)
    ∙ ap (λ (b : Bool). make b (cond (not b && tells_pppoe c.circuit) (Some c.circuit) None) c.address c.octets) (sym e)

on_read : (circuit : Circuit) (c : Charge) (role : Role) (to : Peer) (octets : List ℕ) → c.circuit ≡ circuit → IsOutputOn circuit c role to octets → c.input ≡ false → pppoe_reader role octets ≡ Some (as_told tells_pppoe c)
on_read (Pppoe port mac session) c role to octets is h e = output_read c role octets h e
on_read (L2tp peer tunnel session) c role to octets is h e = over_read peer tunnel session c role to octets is h e

either_read : (c : Charge) (role : Role) (to : Peer) (octets : List ℕ) (b : Bool) → c.input ≡ b → IsInDirection b c role to octets → pppoe_reader role octets ≡ Some (as_told tells_pppoe c)
either_read c role to octets true e h = input_read c role octets h e
either_read c role to octets false e h = on_read c.circuit c role to octets refl h e

pub whole_read_as : (role : Role) (to : Peer) (octets : List ℕ) (o : Option Charge) → MatchOption o (IsNoPacket role octets) (λ c. IsInDirection c.input c role to octets) → pppoe_reader role octets ≡ option_map (as_told tells_pppoe) o
whole_read_as role to octets None h = no_packet role octets h
whole_read_as role to octets (Some c) h = either_read c role to octets c.input refl h

-- so a protocol with this reader has its octets spelled where they are whole
pub whole_read : (o : OutRecord) → IsWhole o → pppoe_reader o.role o.frame ≡ option_map (as_told tells_pppoe) o.charge
whole_read o h = whole_read_as o.role o.to o.frame o.charge h

-- The session of a frame is on the frame's circuit, and that of a data message is its call.
use Rattle.std.proofs.Common.{◌≡◌, ℕ, true, Option, Some, None, sym, ap, subst, ◌∙◌}
use Rattle.std.specs.Prelude.{◌==◌}
use Rattle.std.specs.Str.{bytes_eq}
use Rattle.std.proofs.lemmas.Bool.{and_parts, eqb-true, false≢true}
use Rattle.std.proofs.lemmas.Slice.Eq.{bytes_eq-Decides}
use Rattle.bng_base.specs.declared.address.Mac.{Mac}
use Rattle.bng_base.specs.declared.address.Peer.{Peer}
use Rattle.bng_base.specs.declared.address.SessionNo.{SessionNo}
use Rattle.bng_base.specs.declared.address.TunnelNo.{TunnelNo}
use Rattle.bng_base.specs.declared.circuit.Circuit.TheVariants.{Pppoe, L2tp}
use Rattle.bng_lns.specs.Places.{same_peer}
use Rattle.bng_sessions.specs.Sessions.{value_at}
use Rattle.bng_steps.specs.declared.session.Session.{Session}
use Rattle.bng_steps.specs.declared.way.Way.{Way}
use Rattle.bng_steps.specs.declared.way.Way.TheVariants.{Port, Call}
use Rattle.bng_steps.specs.Serving.{AreOwn}
use Rattle.bng_steps.specs.State.{State, call_of, circuit_in, circuit_of, is_call_of, is_on, is_on_way, is_over_way, session_of, where_on, where_over}
use Rattle.bng_steps.proofs.GrantLaws.{if_some}
use Rattle.bng_steps.proofs.Values.{none_some, same_some}

-- a session that was found at a number is the one there, on the way that was asked for
record IsThere (found : Option Session) (way : Way) (x : Session) : Type 0 where
  there : found ≡ Some x
  way_is : x.way ≡ way

-- at an access port
at_port : (port : ℕ) (mac : Mac) (way : Way) → is_on_way port mac way ≡ true → way ≡ Port port mac
at_port port mac (Port p m) e =
    let parts = and_parts (p == port) (bytes_eq m.0 mac.0) e in
    let octets : m.0 ≡ mac.0 = (bytes_eq-Decides m.0 mac.0).0 parts.1 in
    let number : p ≡ port = eqb-true p port parts.0 in
    λ i. Port (number i) (record { 0 = octets i })
at_port port mac (Call c) e = absurd (false≢true e)

on_port : (port : ℕ) (mac : Mac) (found : Option Session) (x : Session) → where_on port mac found ≡ Some x → IsThere found (Port port mac) x
on_port port mac None x is = absurd (none_some x is)
on_port port mac (Some y) x is =
    let found = if_some (is_on port mac y) (Some y) x is in
    record { there = found.1; way_is = ap (λ (z : Session). z.way) (sym (same_some y x found.1)) ∙ at_port port mac y.way found.0 }

-- over a call
same_peer_is : (a b : Peer) → same_peer a b ≡ true → a ≡ b
same_peer_is a b e =
    let parts = and_parts (a.ip.0 == b.ip.0) (a.port == b.port) e in
    let ip = eqb-true a.ip.0 b.ip.0 parts.0 in
    let port = eqb-true a.port b.port parts.1 in
    λ i. record { ip = record { 0 = ip i }; port = port i }

-- the circuit of a way over a call of this peer's tunnel
over_call : (peer : Peer) (tunnel : ℕ) (n : SessionNo) (way : Way) → is_over_way peer tunnel way ≡ true → circuit_in way n ≡ L2tp peer (record { 0 = tunnel }) n
over_call peer tunnel n (Port p m) e = absurd (false≢true e)
over_call peer tunnel n (Call c) e =
    let parts = and_parts (same_peer c.peer peer) (c.tunnel.0 == tunnel) e in
    let from : c.peer ≡ peer = same_peer_is c.peer peer parts.0 in
    let number : c.tunnel.0 ≡ tunnel = eqb-true c.tunnel.0 tunnel parts.1 in
    λ i. L2tp (from i) (record { 0 = number i }) n

record IsCalled (found : Option Session) (peer : Peer) (tunnel : ℕ) (x : Session) : Type 0 where
  there : found ≡ Some x
  over : is_call_of peer tunnel x ≡ true

on_call : (peer : Peer) (tunnel : ℕ) (found : Option Session) (x : Session) → where_over peer tunnel found ≡ Some x → IsCalled found peer tunnel x
on_call peer tunnel None x is = absurd (none_some x is)
on_call peer tunnel (Some y) x is =
    let found = if_some (is_call_of peer tunnel y) (Some y) x is in
    record { there = found.1; over = subst (λ (z : Session). is_call_of peer tunnel z ≡ true) (same_some y x found.1) found.0 }

module _ (s : State) (own : AreOwn s.sessions) where
  its_number : (n : ℕ) (x : Session) → value_at s.sessions n ≡ Some x → x.number ≡ record { 0 = n }
  its_number n x at = let make : ℕ → SessionNo = λ k. record { 0 = k } in ap make (own n x at)

  pub port_circuit : (port : ℕ) (mac : Mac) (n : ℕ) (x : Session) → session_of s port mac n ≡ Some x → circuit_of x ≡ Pppoe port mac (record { 0 = n })
  port_circuit port mac n x is =
      let found = on_port port mac (value_at s.sessions n) x is in
      ap (λ (w : Way). circuit_in w x.number) found.way_is ∙ ap (Pppoe port mac) (its_number n x found.there)

  pub call_circuit : (peer : Peer) (tunnel n : ℕ) (x : Session) → call_of s peer tunnel n ≡ Some x → circuit_of x ≡ L2tp peer (record { 0 = tunnel }) (record { 0 = n })
  call_circuit peer tunnel n x is =
      let found = on_call peer tunnel (value_at s.sessions n) x is in
      let own_tunnel : TunnelNo = record { 0 = tunnel } in
      over_call peer tunnel x.number x.way found.over ∙ ap (L2tp peer own_tunnel) (its_number n x found.there)

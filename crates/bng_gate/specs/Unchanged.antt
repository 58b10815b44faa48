-- What is sent of packets is what was taken on the circuits of terms: nothing is invented, doubled, put into another order, or changed but
-- for what forwarding changes.
use Rattle.std.specs.Prelude.{◌≡◌, ◌⊎◌, ◌≤◌, ℕ, false, List, [], ◌∷◌, ◌++◌, Option, Some, None, filter, drop}
use Rattle.std.specs.List.{Contains, flat_map}
use Rattle.std.specs.Option.{option_map_or}
use Rattle.bng_base.specs.declared.address.Ip4.{Ip4}
use Rattle.bng_base.specs.declared.address.Mac.{Mac}
use Rattle.bng_base.specs.declared.address.Peer.{Peer}
use Rattle.bng_base.specs.declared.address.SessionNo.{SessionNo}
use Rattle.bng_base.specs.declared.address.TunnelNo.{TunnelNo}
use Rattle.bng_base.specs.declared.circuit.Circuit.{Circuit}
use Rattle.bng_base.specs.declared.circuit.Circuit.TheVariants.{Pppoe, L2tp}
use Rattle.bng_base.specs.declared.ipv4.Ipv4.{Ipv4}
use Rattle.bng_base.specs.declared.item.Entry.{Entry}
use Rattle.bng_base.specs.declared.outside.Datagram.{Datagram}
use Rattle.bng_base.specs.declared.outside.Role.TheVariants.{Access, Core, Tunnel}
use Rattle.bng_base.specs.declared.settings.AccessPort.{AccessPort}
use Rattle.bng_base.specs.FateOf.{Arrival}
use Rattle.bng_base.specs.PppoeGrammar.{PppoeFrame}
use Rattle.bng_config.specs.declared.config.Config.{Config}
use Rattle.bng_engine.specs.Terms.{Key, is_live, keys}
use Rattle.bng_engine.specs.Views.{ShardView}
use Rattle.bng_engine.specs.Wire.{is_from, is_to}
use Rattle.bng_forward.specs.Fates.{Carries, IsCorePacket, IsFrame, IsPort}
use Rattle.bng_forward.specs.Framing.{IsFrameTo}
use Rattle.bng_forward.specs.Packets.{IsPassedOn}
use Rattle.bng_l2tp_wire.specs.Messages.{DataMessage}
use Rattle.bng_lns.specs.Datagrams.{CarriesOver, IsDataIn}
use Rattle.bng_lns.specs.Framing.{IsCallFrameTo}
use Rattle.bng_steps.specs.Protocol.{ShardState, terms_of}
use Rattle.bng_steps.specs.Reader.{pppoe_reader}
use Rattle.bng_desk.specs.Round.{Round, starts_of}
use Rattle.bng_gate.specs.Granted.{Held}

-- Each of the second list comes of one of the first by this relation, each of another one, and in the order of these.
abbrev pub Arises : {X Y : Type 0} → (X → Y → Type 0) → List X → List Y → Type 0
Arises R [] ys = ys ≡ []
Arises R (x ∷ xs) [] = Unit {0}
Arises R (x ∷ xs) (y ∷ ys) = Arises R xs (y ∷ ys) ⊎ (R x y × Arises R xs ys)

-- a datagram, as one that came whole
abbrev pub arrival_from : Datagram → Arrival
arrival_from d = record { from = d.peer; cut = false; octets = d.octets }

-- one of these terms has this address, on this circuit
pub record IsTermOn (terms : List Key) (address : Ip4) (circuit : Circuit) : Type 0 where
  pub term : Key
  pub among : Contains terms term
  pub lease : term.address ≡ address
  pub circuit_is : term.circuit ≡ circuit

-- The datagram that was taken is a frame of the session stage for one of these access ports, with these octets as its packet (RFC 2516
-- section 6). It is of the circuit of one of these terms, which has this address: it came from the MAC and in the session of that circuit.
pub record ComesOnPort (ports : List AccessPort) (terms : List Key) (address : Ip4) (taken : Datagram) (info : List ℕ) : Type 0 where
  pub port : ℕ
  pub came : taken.role ≡ Access port
  pub frame : PppoeFrame
  pub is_frame : IsFrame ports port (arrival_from taken) frame
  pub carries : Carries frame info
  pub term : IsTermOn terms address (Pppoe port frame.src (record { 0 = frame.session }))

-- It is a data message to the gateway's end for tunnels, with these octets as its packet (RFC 2661 section 3.1). It is of the call of one of
-- these terms, which has this address: it came from the peer of the call's tunnel, and to the gateway's own numbers of both.
pub record ComesOverCall (terms : List Key) (address : Ip4) (taken : Datagram) (info : List ℕ) : Type 0 where
  pub came : taken.role ≡ Tunnel
  pub message : DataMessage
  pub is_data : IsDataIn false taken.octets message
  pub carries : CarriesOver message info
  pub term : IsTermOn terms address (L2tp taken.peer (record { 0 = message.tunnel }) (record { 0 = message.session }))

-- The datagram that was taken carries, on the access port or over the call of a term with this address, an IPv4 packet from the address whose
-- TTL is 2 or more, and the one that was sent is that packet, to the core's other end: its TTL is one lower, its header checksum is computed
-- again, and what stood past its total length is gone (RFC 791 section 3.1).
pub record IsPassedUp (ports : List AccessPort) (core : Peer) (terms : List Key) (address : Ip4) (taken sent : Datagram) : Type 0 where
  pub info : List ℕ
  pub way : ComesOnPort ports terms address taken info ⊎ ComesOverCall terms address taken info
  pub header : Ipv4
  pub source : header.src ≡ address
  pub alive : 2 ≤ header.ttl
  pub went : sent.role ≡ Core
  pub to : sent.peer ≡ core
  pub packet : IsPassedOn header info sent.octets

-- The datagram that was sent has the packet with this header, of these octets, after 22 octets: it went to the other end of an access port,
-- and is a frame of the session stage from that port that carries the packet and nothing after it. It is of the circuit of one of these
-- terms, which has the packet's destination.
pub record GoesOnPort (ports : List AccessPort) (terms : List Key) (header : Ipv4) (octets : List ℕ) (sent : Datagram) : Type 0 where
  pub number : ℕ
  pub port : AccessPort
  pub is_port : IsPort ports number port
  pub went : sent.role ≡ Access number
  pub to : sent.peer ≡ port.peer
  pub packet : IsPassedOn header octets (drop 22 sent.octets)
  pub mac : Mac
  pub session : ℕ
  pub frame : IsFrameTo port mac session (drop 22 sent.octets) sent.octets
  pub term : IsTermOn terms header.dst (Pppoe number mac (record { 0 = session }))

-- It has that packet after 10 octets: it went to the peer of a tunnel, and is a data message that carries the packet and nothing after it. That
-- peer has a call of one of these terms, which has the packet's destination. The gateway's own numbers of tunnel and call are those of the
-- circuit; the message has the peer's.
pub record GoesOverCall (terms : List Key) (header : Ipv4) (octets : List ℕ) (sent : Datagram) : Type 0 where
  pub went : sent.role ≡ Tunnel
  pub packet : IsPassedOn header octets (drop 10 sent.octets)
  pub far_tunnel : ℕ
  pub far_session : ℕ
  pub message : IsCallFrameTo far_tunnel far_session (drop 10 sent.octets) sent.octets
  pub tunnel : TunnelNo
  pub session : SessionNo
  pub term : IsTermOn terms header.dst (L2tp sent.peer tunnel session)

-- The datagram that was taken is a packet of the core to this address, whose TTL is 2 or more, and the one that was sent has that packet,
-- changed in the same way, on the access port or over the call of a term with this address.
pub record IsPassedDown (ports : List AccessPort) (core : Peer) (terms : List Key) (address : Ip4) (taken sent : Datagram) : Type 0 where
  pub came : taken.role ≡ Core
  pub header : Ipv4
  pub is_packet : IsCorePacket core (arrival_from taken) header
  pub destination : header.dst ≡ address
  pub alive : 2 ≤ header.ttl
  pub way : GoesOnPort ports terms header taken.octets sent ⊎ GoesOverCall terms header taken.octets sent

-- of what was sent, the packets to the core from an address, and those on access ports and to peers of tunnels to it, as anyone reads the
-- octets
abbrev pub sent_from : Ip4 → List Datagram → List Datagram
sent_from address ds = filter (λ (d : Datagram). option_map_or (is_from address) (pppoe_reader d.role d.octets) false) ds

abbrev pub sent_towards : Ip4 → List Datagram → List Datagram
sent_towards address ds = filter (λ (d : Datagram). option_map_or (is_to address) (pppoe_reader d.role d.octets) false) ds

-- For each address, the packets that were sent from it come, each of another one and in their order, of the frames and the data messages that
-- were taken with packets from it on the circuits of these terms with the address, and those that were sent to it of the packets that were
-- taken to it, on such circuits.
pub record NothingIsInvented (config : Config) (terms : List Key) (taken sent : List Datagram) : Type 0 where
  pub up : (address : Ip4) → Arises (IsPassedUp config.access config.core_peer terms address) taken (sent_from address sent)
  pub down : (address : Ip4) → Arises (IsPassedDown config.access config.core_peer terms address) taken (sent_towards address sent)

-- the terms of the Starts of a round, if it was opened
abbrev pub begun_in : Option Round → List Key
begun_in None = []
begun_in (Some round) = starts_of round

-- the terms that lived in a turn, or began in it: of all shards those that were live before it, and those of its Starts
abbrev pub lived_in : Held → List Key
lived_in h = flat_map (λ (v : ShardView ShardState Entry). keys (filter is_live (terms_of v.state))) h.desk.shards ++ begun_in h.round

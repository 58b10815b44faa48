-- What a datagram is that came to the gateway's end for tunnels: a control message or a data message, which its T bit tells apart (RFC 2661
-- section 3.1).
use Rattle.std.specs.Prelude.{◌≡◌, ◌≤◌, ℕ, Bool, false, List, length}
use Rattle.bng_base.specs.PppGrammar.{IsPpp}
use Rattle.bng_l2tp_wire.specs.Messages.{ControlMessage, DataMessage, IsControl, IsData}
use Rattle.bng_l2tp_wire.specs.View.{control_of, data_of}
use Rattle.bng_lns.specs.declared.datagram.TunnelDatagram.{TunnelDatagram}
use Rattle.bng_lns.specs.declared.datagram.TunnelDatagram.TheVariants.{Control, Data}

-- It came whole, and begins with a control message. One with more AVPs than are kept is none.
pub record IsControlIn (cut : Bool) (octets : List ℕ) (m : ControlMessage) : Type 0 where
  pub whole : cut ≡ false
  pub message : IsControl m octets
  pub few : length m.avps ≤ 64

-- it came whole, and begins with a data message
pub record IsDataIn (cut : Bool) (octets : List ℕ) (d : DataMessage) : Type 0 where
  pub whole : cut ≡ false
  pub message : IsData d octets

abbrev pub IsReadAs : Bool → List ℕ → TunnelDatagram → Type 0
IsReadAs cut octets (Control m) = IsControlIn cut octets (control_of m)
IsReadAs cut octets (Data d) = IsDataIn cut octets (data_of d)

-- neither
pub record IsNeither (cut : Bool) (octets : List ℕ) : Type 0 where
  pub no_control : (m : ControlMessage) → ¬ (IsControlIn cut octets m)
  pub no_data : (d : DataMessage) → ¬ (IsDataIn cut octets d)

-- what stands where a data message has its IPv4 packet: the information of a PPP frame of protocol 0021 (RFC 1332)
abbrev pub CarriesOver : DataMessage → List ℕ → Type 0
CarriesOver d info = IsPpp (record { protocol = 33; info = info }) d.ppp

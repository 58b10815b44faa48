-- What a contract sees of a tunnel of an access concentrator.
use Rattle.std.specs.Prelude.{ℕ, ◌<◌, Bool, true, false, List, [], Option, None, replicate}
use Rattle.std.specs.List.{AllPairs}
use Rattle.bng_base.specs.declared.address.Peer.{Peer}
use Rattle.bng_l2tp_reliable.specs.ChannelState.{ChannelState, begun}
use Rattle.bng_l2tp_wire.specs.Values.{default_window}
use Rattle.bng_l2tp_wire.specs.View.{octets_of}
use Rattle.bng_lac.specs.declared.phase.LacPhase.{LacPhase}
use Rattle.bng_lac.specs.declared.phase.LacPhase.TheVariants.{Idle, WaitReply, Established}
use Rattle.bng_lac.specs.declared.call.LacCall.{LacCall}
use Rattle.bng_lac.specs.declared.rules.LacRules.{LacRules}

pub record LacState : Type 0 where
  -- the gateway's Host Name
  pub name : List ℕ
  -- the secret that is shared with the network server
  pub secret : Option (List ℕ)
  -- the tunnel's number
  pub number : ℕ
  -- the network server
  pub lns : Peer
  pub phase : LacPhase
  -- the server's Assigned Tunnel ID
  pub peer_number : Option ℕ
  -- the Challenge that was sent, where there is a secret
  pub challenge : List ℕ
  pub channel : ChannelState
  -- by rising session number
  pub calls : List LacCall
  -- the Call Serial Number of the next ICRQ
  pub serial : ℕ

-- a tunnel that was never opened
abbrev pub unused : LacRules → LacState
unused rules = record {
  name = rules.name.items;
  secret = octets_of rules.secret;
  number = 0;
  lns = record { ip = record { 0 = 0 }; port = 0 };
  phase = Idle;
  peer_number = None;
  challenge = replicate 16 0;
  channel = begun default_window 0;
  calls = [];
  serial = 1;
}

-- the tunnel was opened, and was not cleared
abbrev pub is_used : LacPhase → Bool
is_used Idle = false
is_used WaitReply = true
is_used Established = true

abbrev pub is_waiting : LacPhase → Bool
is_waiting Idle = false
is_waiting WaitReply = true
is_waiting Established = false

abbrev pub is_established : LacPhase → Bool
is_established Idle = false
is_established WaitReply = false
is_established Established = true

abbrev pub IsBefore : LacCall → LacCall → Type 0
IsBefore a b = a.session.0 < b.session.0

-- the calls stand by rising session number
abbrev pub AreRising : List LacCall → Type 0
AreRising calls = AllPairs IsBefore calls

-- What a contract sees of a tunnel.
use Rattle.std.specs.Prelude.{ℕ, Bool, List, Option, None, replicate}
use Rattle.bng_base.specs.declared.address.Peer.{Peer}
use Rattle.bng_l2tp_reliable.specs.ChannelState.{ChannelState, begun}
use Rattle.bng_base.specs.declared.address.TunnelNo.{TunnelNo}
use Rattle.bng_l2tp_tunnel.specs.declared.phase.TunnelPhase.{TunnelPhase}
use Rattle.bng_l2tp_tunnel.specs.declared.phase.TunnelPhase.TheVariants.{Idle}
use Rattle.bng_l2tp_tunnel.specs.declared.rules.TunnelRules.{TunnelRules}
use Rattle.bng_l2tp_wire.specs.Values.{default_window}
use Rattle.bng_l2tp_wire.specs.View.{octets_of}

pub record TunnelState : Type 0 where
  -- the gateway's Host Name
  pub name : List ℕ
  -- the secret that is shared with the peer
  pub secret : Option (List ℕ)
  -- whether the peer's address is a configured one
  pub known : Bool
  -- the tunnel's number, 0 where none may be taken
  pub number : ℕ
  pub peer : Peer
  pub phase : TunnelPhase
  -- the peer's Assigned Tunnel ID
  pub peer_number : Option ℕ
  -- the Challenge that was sent, where there is a secret
  pub challenge : List ℕ
  pub channel : ChannelState

-- what stays as a tunnel was made with it: its rules, its number and its peer
pub record Lasting : Type 0 where
  pub name : List ℕ
  pub secret : Option (List ℕ)
  pub known : Bool
  pub number : ℕ
  pub peer : Peer

abbrev pub lasting_of : TunnelState → Lasting
lasting_of s = record { name = s.name; secret = s.secret; known = s.known; number = s.number; peer = s.peer }

-- a tunnel that has taken no message
abbrev pub fresh : TunnelRules → TunnelNo → Peer → ℕ → TunnelState
fresh rules number peer now = record {
  name = rules.name.items;
  secret = octets_of rules.secret;
  known = rules.known;
  number = number.0;
  peer = peer;
  phase = Idle;
  peer_number = None;
  challenge = replicate 16 0;
  channel = begun default_window now;
}

-- What a contract sees of the requests of both lanes.
use Rattle.std.specs.Prelude.{◌≡◌, ℕ, List, Option, Some, None, false, true, Bool, map, slice_get}
use Rattle.bng_base.specs.declared.address.Peer.{Peer}
use Rattle.bng_base.specs.Packet.{Packet as Bytes}
use Rattle.bng_rad_client.specs.declared.rules.Lane.{Lane}
use Rattle.bng_rad_client.specs.declared.rules.Lane.TheVariants.{Auth, Acct}
use Rattle.bng_rad_client.specs.declared.rules.Owner.{Owner}
use Rattle.bng_rad_client.specs.State.{other}
use Rattle.bng_failover.specs.declared.rules.DueSend.{DueSend}
use Rattle.bng_failover.specs.declared.rules.DueSend.TheVariants.{Send, TimedOut}
use Rattle.bng_failover.specs.declared.rules.FailoverRules.{FailoverRules}
use Rattle.bng_failover.specs.declared.server.Server.{Server}
use Rattle.bng_failover.specs.Servers.{new_server}
use Rattle.bng_failover.specs.Due.{NoneDue, IsSent, NoneGivenUp, IsGivenUp}

pub record State : Type 0 where
  pub auth : List Server
  pub acct : List Server
  pub secret : List ℕ
  pub tries : ℕ

-- the servers of a lane
abbrev pub servers_of : State → Lane → List Server
servers_of s Auth = s.auth
servers_of s Acct = s.acct

-- all but the servers of the lane is as it was
pub record ChangesLane (old new : State) (lane : Lane) : Type 0 where
  pub servers : servers_of new (other lane) ≡ servers_of old (other lane)
  pub secret : new.secret ≡ old.secret
  pub tries : new.tries ≡ old.tries

-- no two places of a list have the same server
abbrev pub NoneTwice : List Peer → Type 0
NoneTwice peers = (i j : ℕ) (p : Peer) → slice_get peers i ≡ Some p → slice_get peers j ≡ Some p → i ≡ j

-- the servers of the rules in their order, with no request
pub record IsOpened (rules : FailoverRules) (s : State) : Type 0 where
  pub auth : s.auth ≡ map new_server rules.auth
  pub acct : s.acct ≡ map new_server rules.acct
  pub secret : s.secret ≡ rules.secret.items
  pub tries : s.tries ≡ rules.tries

-- A request of this lane is sent to this server; for an Accounting-Request no Access-Request is due.
abbrev pub SendsOf : Lane → (old new : State) → (now : ℕ) → Owner → Peer → Bytes → Type 0
SendsOf Auth old new now owner peer frame = IsSent Auth old.auth new.auth old.secret old.tries now owner peer frame × ChangesLane old new Auth
SendsOf Acct old new now owner peer frame =
    NoneDue Auth old.auth old.tries now × IsSent Acct old.acct new.acct old.secret old.tries now owner peer frame × ChangesLane old new Acct

-- what is due: of the sends, or of the requests that time out
abbrev pub IsDue : (old new : State) → (now : ℕ) → (timeouts : Bool) → Bytes → Option DueSend → Type 0
IsDue old new now true frame None = NoneGivenUp old.auth old.tries now
IsDue old new now true frame (Some (Send lane peer)) = ⊥
IsDue old new now true frame (Some (TimedOut owner)) = IsGivenUp old.auth new.auth old.tries now owner × ChangesLane old new Auth
IsDue old new now false frame None = NoneDue Auth old.auth old.tries now × NoneDue Acct old.acct old.tries now
IsDue old new now false frame (Some (Send lane peer)) = (owner : Owner) × SendsOf lane old new now owner peer frame
IsDue old new now false frame (Some (TimedOut owner)) = ⊥

-- the owner whose request timed out
abbrev pub timed_out : Option DueSend → Option Owner
timed_out None = None
timed_out (Some (Send lane peer)) = None
timed_out (Some (TimedOut owner)) = Some owner

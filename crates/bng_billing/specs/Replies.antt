-- Which datagram acknowledges which record (RFC 2866 section 2, RFC 2865 section 3).
use Rattle.std.specs.Prelude.{◌≡◌, ℕ, true, List, Option, Some, None}
use Rattle.bng_base.specs.declared.address.Peer.{Peer}
use Rattle.bng_radius_wire.specs.Grammar.{Packet}
use Rattle.bng_radius_wire.specs.Digests.{IsSigned}
use Rattle.bng_rad_client.specs.declared.pending.Pending.{Pending}
use Rattle.bng_rad_client.specs.declared.rules.Lane.TheVariants.{Acct}
use Rattle.bng_rad_client.specs.Replies.{IsReplyTo, authenticator_of}
use Rattle.bng_acct.specs.declared.facts.RecordNo.{RecordNo}
use Rattle.bng_acct.specs.Queue.{sheet_at, Sets, without}
use Rattle.bng_acct.specs.Spool.{State as Spool, ReleasesIfAny, Agree}
use Rattle.bng_billing.specs.State.{BillingState, places_of, flag_of, owner_of, freed}

-- the record is open no longer
pub record IsAcknowledged (old new : Spool) (n : ℕ) : Type 0 where
  pub sets : Sets old.sheets new.sheets n None
  pub waiting : new.waiting ≡ without n old.waiting
  pub terms : ReleasesIfAny old.held new.held (sheet_at old.sheets n)
  pub agree : Agree new.sheets new.held
  pub rules : new.rules ≡ old.rules

-- the datagram is the server's reply to the request of this record, which is out and was sent
pub record Counts (b : BillingState) (from : Peer) (octets : List ℕ) (n : ℕ) : Type 0 where
  pub packet : Packet
  pub request : Pending
  pub reply : IsReplyTo Acct (places_of b) request packet octets
  pub signed : IsSigned packet (authenticator_of request) b.client.secret
  pub server : from ≡ b.client.acct_server
  pub sent : flag_of b packet.id ≡ true
  pub record_is : request.owner ≡ owner_of n

-- the record is open no longer, and its request is out no longer
pub record Acknowledges (old : BillingState) (from : Peer) (octets : List ℕ) (n : ℕ) (new : BillingState) : Type 0 where
  pub counts : Counts old from octets n
  pub acknowledged : IsAcknowledged old.spool new.spool n
  pub others : new ≡ record (freed counts.packet.id old) { spool = new.spool }

-- what a datagram of this sender acknowledges: a record, or nothing
abbrev pub Takes : BillingState → (from : Peer) (octets : List ℕ) → Option RecordNo → BillingState → Type 0
Takes old from octets None new = ((n : ℕ) → ¬ (Counts old from octets n)) × (new ≡ old)
Takes old from octets (Some n) new = Acknowledges old from octets n.0 new

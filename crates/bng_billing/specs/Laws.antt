-- What acknowledgements and requests say of records.
use Rattle.std.specs.Prelude.{◌≡◌, ◌≢◌, ◌≤◌, ℕ, true, List, ◌∷◌, Option, Some, None, length}
use Rattle.bng_base.specs.declared.address.Peer.{Peer}
use Rattle.bng_radius_wire.specs.Codes.{accounting_response}
use Rattle.bng_radius_wire.specs.Digests.{IsSigned}
use Rattle.bng_radius_wire.specs.Grammar.{Packet, IsRadius}
use Rattle.bng_rad_client.specs.declared.pending.Pending.{Pending}
use Rattle.bng_rad_client.specs.Table.{request_of}
use Rattle.bng_acct.specs.declared.facts.RecordNo.{RecordNo}
use Rattle.bng_acct.specs.declared.facts.StatusType.{StatusType}
use Rattle.bng_acct.specs.declared.sheet.Sheet.{Sheet}
use Rattle.bng_acct.specs.Queue.{sheet_at}
use Rattle.bng_acct.specs.Spool.{is_stop}
use Rattle.bng_billing.specs.State.{BillingState, places_of, flag_of, owner_of}
use Rattle.bng_billing.specs.Invariant.{SaysRecord}
use Rattle.bng_billing.specs.Calls.{BillingCall, Formed, Given, Again, Told, Heard, Stopped}

-- the datagram is one packet of the server, an Accounting-Response (RFC 2866 section 4.2) that is signed for the
-- Accounting-Request of the record; that request was out under the packet's identifier and was sent, and is out no longer, and the
-- record is open no longer
pub record IsAcknowledgementOf (old : BillingState) (from : Peer) (octets : List ℕ) (n : ℕ) (new : BillingState) : Type 0 where
  pub server : from ≡ old.client.acct_server
  pub packet : Packet
  pub reads : IsRadius packet octets
  pub one : (p : Packet) → IsRadius p octets → p ≡ packet
  pub code : packet.code ≡ accounting_response
  pub request : Pending
  pub pending : request_of (places_of old) packet.id ≡ Some request
  pub owner_is : request.owner ≡ owner_of n
  pub sent : flag_of old packet.id ≡ true
  pub sheet : Sheet
  pub is_open : sheet_at old.spool.sheets n ≡ Some sheet
  pub says : SaysRecord old.spool.rules old.client.secret sheet.record packet.id request.octets
  pub signed : IsSigned packet says.packet.authenticator old.client.secret
  pub gone : request_of (places_of new) packet.id ≡ None
  pub closed : sheet_at new.spool.sheets n ≡ None

-- the octets are the Accounting-Request of the record that waited longest, and are out under their identifier as that record's
pub record SaysFirst (old : BillingState) (n id : ℕ) (octets : List ℕ) (new : BillingState) : Type 0 where
  pub first : old.spool.waiting ≡ n ∷ new.spool.waiting
  pub sheet : Sheet
  pub is_open : sheet_at old.spool.sheets n ≡ Some sheet
  pub says : SaysRecord old.spool.rules old.client.secret sheet.record id octets
  pub free : request_of (places_of old) id ≡ None
  pub request : Pending
  pub pending : request_of (places_of new) id ≡ Some request
  pub octets_are : request.octets ≡ octets
  pub owner_is : request.owner ≡ owner_of n

-- the octets are those that are out under this identifier, and the Accounting-Request of their record
pub record SaysAgain (old : BillingState) (id : ℕ) (octets : List ℕ) (new : BillingState) : Type 0 where
  pub request : Pending
  pub was : request_of (places_of old) id ≡ Some request
  pub octets_are : octets ≡ request.octets
  pub number : ℕ
  pub owner_is : request.owner ≡ owner_of number
  pub sheet : Sheet
  pub is_open : sheet_at old.spool.sheets number ≡ Some sheet
  pub says : SaysRecord old.spool.rules old.client.secret sheet.record id octets
  pub later : Pending
  pub pending : request_of (places_of new) id ≡ Some later
  pub same_octets : later.octets ≡ octets
  pub same_owner : later.owner ≡ request.owner

-- the answer is not the record with this number
abbrev pub IsOther : Option RecordNo → ℕ → Type 0
IsOther None n = Unit {0}
IsOther (Some m) n = m.0 ≢ n

-- the call does not acknowledge a record of this number and kind, and is not the stop, unless the record is a Stop
abbrev pub Spares : BillingCall → ℕ → StatusType → Type 0
Spares (Formed kind facts moment m) n status = Unit {0}
Spares (Given now m id octets) n status = Unit {0}
Spares (Again now id octets) n status = Unit {0}
Spares (Told id sent) n status = Unit {0}
Spares (Heard from octets found) n status = IsOther found n
Spares Stopped n status = is_stop status ≡ true

-- a request with this identifier, owner and octets is out
pub record IsStillOut (b : BillingState) (id : ℕ) (r : Pending) : Type 0 where
  pub request : Pending
  pub pending : request_of (places_of b) id ≡ Some request
  pub octets : request.octets ≡ r.octets
  pub owner : request.owner ≡ r.owner

-- each request that is out stays out as it is where the call spares its record
abbrev pub KeepsRecords : BillingState → BillingCall → BillingState → Type 0
KeepsRecords old call new =
    (id n : ℕ) (r : Pending) (x : Sheet) → request_of (places_of old) id ≡ Some r → r.owner ≡ owner_of n → sheet_at old.spool.sheets n ≡ Some x
    → Spares call n x.record.status → IsStillOut new id r

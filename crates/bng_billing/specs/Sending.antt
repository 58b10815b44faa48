-- A record that is handed out.
use Rattle.std.specs.Prelude.{◌≡◌, ℕ, false, List, [], Some, length, slice_set, ◌⊎◌}
use Rattle.bng_base.specs.Packet.{Packet as Bytes}
use Rattle.bng_radius_wire.specs.Grammar.{length_in}
use Rattle.bng_rad_client.specs.Asking.{IsAsked}
use Rattle.bng_rad_client.specs.Table.{request_of, taken}
use Rattle.bng_acct.specs.Spool.{HandsOver}
use Rattle.bng_billing.specs.State.{BillingState, places_of, owner_of, with_table_of}

-- no record waits, or 256 requests are out
abbrev pub NoneToSend : BillingState → Type 0
NoneToSend b = (b.spool.waiting ≡ []) ⊎ (taken (places_of b) ≡ 256)

-- the record that waited longest is handed out; its request has the next free identifier and was not sent yet, and the octets are
-- that request, signed and without what pads it
pub record IsSentBy (old : BillingState) (now n id : ℕ) (octets : List ℕ) (new : BillingState) : Type 0 where
  pub request : Bytes
  pub handed : HandsOver old.spool new.spool n request
  pub frame : Bytes
  pub payload : octets ≡ frame.payload
  pub asked : IsAsked old.client.acct new.client.acct (owner_of n) handed.holds.packet old.client.secret now id frame
  pub pending : request_of (places_of new) id ≡ Some asked.made
  pub unpadded : length_in octets ≡ length octets
  pub others : new ≡ record { client = with_table_of old.client new.client; spool = new.spool; sent = slice_set old.sent id false }

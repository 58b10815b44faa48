-- Requests that are sent again or given up.
use Rattle.std.specs.Prelude.{◌≡◌, ℕ, ◌+◌, min, Bool, Some, None, slice_set}
use Rattle.bng_base.specs.Packet.{Packet as Bytes}
use Rattle.bng_rad_client.specs.declared.pending.Pending.{Pending}
use Rattle.bng_rad_client.specs.declared.due.LastSend.{LastSend}
use Rattle.bng_rad_client.specs.declared.rules.Owner.{Owner}
use Rattle.bng_rad_client.specs.Table.{Table, request_of}
use Rattle.bng_rad_client.specs.Due.{IsOldestBelow}

-- the oldest of the wanted requests is out no longer
pub record IsGivenUp (old new : Table) (wanted : Pending → Bool) (owner : Owner) : Type 0 where
  pub due : LastSend
  pub oldest : IsOldestBelow wanted old.places 256 due
  pub owner_is : owner ≡ oldest.request.owner
  pub places : new.places ≡ slice_set old.places due.id None
  pub last : new.last ≡ old.last

-- the frame has the octets of a request, which counts one send more and this moment
pub record IsSentAgain (old new : Table) (id now : ℕ) (frame : Bytes) : Type 0 where
  pub before : Pending
  pub after : Pending
  pub was : request_of old.places id ≡ Some before
  pub payload : frame.payload ≡ before.octets
  pub owner : after.owner ≡ before.owner
  pub octets : after.octets ≡ before.octets
  pub moment : after.sent_at ≡ now
  pub sends : after.sends ≡ min 255 (before.sends + 1)
  pub places : new.places ≡ slice_set old.places id (Some after)
  pub last : new.last ≡ old.last

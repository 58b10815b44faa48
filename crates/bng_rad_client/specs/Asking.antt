-- A request that is given an identifier.
use Rattle.std.specs.Prelude.{◌≡◌, ℕ, List, Some, slice_set}
use Rattle.bng_base.specs.Packet.{Packet as Bytes}
use Rattle.bng_radius_wire.specs.Grammar.{Packet, IsRadius}
use Rattle.bng_radius_wire.specs.Digests.{signed_request}
use Rattle.bng_rad_client.specs.declared.rules.Asked.{Asked}
use Rattle.bng_rad_client.specs.declared.rules.Asked.TheVariants.{Sent, Waiting}
use Rattle.bng_rad_client.specs.declared.rules.Owner.{Owner}
use Rattle.bng_rad_client.specs.declared.pending.Pending.{Pending}
use Rattle.bng_rad_client.specs.Table.{Table, IsNextFree}

abbrev pub WhenSent : Asked → (ℕ → Bytes → Type 0) → Type 0
WhenSent (Sent id frame) P = P id frame
WhenSent Waiting P = Unit {0}

abbrev pub WhenWaiting : Asked → Type 0 → Type 0
WhenWaiting (Sent id frame) P = Unit {0}
WhenWaiting Waiting P = P

-- the request has the next free identifier, and the frame holds it with that identifier, signed
pub record IsAsked (old new : Table) (owner : Owner) (p : Packet) (secret : List ℕ) (now id : ℕ) (frame : Bytes) : Type 0 where
  pub next : IsNextFree old id
  pub reads : IsRadius (signed_request (record p { id = id }) secret) frame.payload
  pub made : Pending
  pub owner_is : made.owner ≡ owner
  pub octets : made.octets ≡ frame.payload
  pub moment : made.sent_at ≡ now
  pub once : made.sends ≡ 1
  pub places : new.places ≡ slice_set old.places id (Some made)
  pub last : new.last ≡ id

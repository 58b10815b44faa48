-- A question that is asked (RFC 2865 section 4.1).
use Rattle.std.specs.Prelude.{◌≡◌, ℕ, false, List, Some, length, slice_set}
use Rattle.bng_base.specs.Packet.{Packet as Bytes}
use Rattle.bng_radius_wire.specs.Grammar.{Packet, length_in}
use Rattle.bng_rad_client.specs.declared.rules.Owner.TheVariants.{Ask}
use Rattle.bng_rad_client.specs.Table.{request_of as request_at}
use Rattle.bng_rad_client.specs.Asking.{IsAsked}
use Rattle.bng_verdict.specs.declared.question.AuthAsk.{AuthAsk}
use Rattle.bng_access.specs.Request.{request_of}
use Rattle.bng_lane.specs.State.{LaneState, places_of, with_table_of}

-- the Access-Request of a question, still without identifier and digest
abbrev pub access_request_of : LaneState → AuthAsk → (authenticator : List ℕ) → Packet
access_request_of l ask authenticator = request_of l.nas l.client.secret ask authenticator

-- the request of the question has the next free identifier and was not sent yet, and the octets are that request, signed
-- and without what pads it
pub record IsAskedBy (old : LaneState) (now : ℕ) (ask : AuthAsk) (authenticator : List ℕ) (id : ℕ) (octets : List ℕ) (new : LaneState) : Type 0 where
  pub frame : Bytes
  pub payload : octets ≡ frame.payload
  pub asked : IsAsked old.client.auth new.client.auth (Ask ask.number.session ask.number.ask) (access_request_of old ask authenticator) old.client.secret now id frame
  pub pending : request_at (places_of new) id ≡ Some asked.made
  pub unpadded : length_in octets ≡ length octets
  pub others : new ≡ record (with_table_of old new) { sent = slice_set old.sent id false }

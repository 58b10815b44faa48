-- What replies and requests say of questions.
use Rattle.std.specs.Prelude.{◌≡◌, ◌⊎◌, ℕ, List, [], Some, None, map, if◌then◌else◌}
use Rattle.bng_base.specs.declared.address.Peer.{Peer}
use Rattle.bng_radius_wire.specs.Attributes.{Field}
use Rattle.bng_radius_wire.specs.Grammar.{Packet, IsRadius}
use Rattle.bng_radius_wire.specs.Digests.{IsSigned, is_message_authenticator}
use Rattle.bng_radius_wire.specs.Codes as codes
use Rattle.bng_rad_client.specs.declared.pending.Pending.{Pending}
use Rattle.bng_rad_client.specs.declared.rules.Owner.TheVariants.{Ask}
use Rattle.bng_rad_client.specs.Table.{request_of as request_at}
use Rattle.bng_rad_client.specs.Replies.{authenticator_of}
use Rattle.bng_verdict.specs.declared.question.QuestionNo.{QuestionNo}
use Rattle.bng_lane.specs.State.{LaneState, places_of}
use Rattle.bng_lane.specs.Asking.{access_request_of}
use Rattle.bng_lane.specs.Sends.{LaneAsk}

-- the codes of replies to Access-Requests (RFC 2865 sections 4.2 to 4.4)
abbrev pub IsAnswer : ℕ → Type 0
IsAnswer code = (code ≡ codes.access_accept) ⊎ (code ≡ codes.access_reject) ⊎ (code ≡ codes.access_challenge)

-- the datagram is one packet of the server, which is signed for the request of the question that has its identifier, and
-- that request is out no longer
pub record IsReplyFor (old : LaneState) (from : Peer) (octets : List ℕ) (q : QuestionNo) (new : LaneState) : Type 0 where
  pub server : from ≡ old.client.auth_server
  pub packet : Packet
  pub reads : IsRadius packet octets
  pub one : (p : Packet) → IsRadius p octets → p ≡ packet
  pub code : IsAnswer packet.code
  pub request : Pending
  pub pending : request_at (places_of old) packet.id ≡ Some request
  pub question : request.owner ≡ Ask q.session q.ask
  pub signed : IsSigned packet (authenticator_of request) old.client.secret
  pub gone : request_at (places_of new) packet.id ≡ None

-- an attribute, but for the value of a Message-Authenticator
abbrev pub but_for_digest : Field → Field
but_for_digest f = if is_message_authenticator f then record f { value = [] } else f

-- the octets that were given out read as the Access-Request of the question: its attributes but for the value of the
-- Message-Authenticator, and the authenticator that was drawn; and they are out under their identifier as the question's
pub record SaysItsQuestion (old : LaneState) (a : LaneAsk) (new : LaneState) : Type 0 where
  pub packet : Packet
  pub reads : IsRadius packet a.send.octets
  pub code : packet.code ≡ codes.access_request
  pub id : packet.id ≡ a.send.id
  pub authenticator : packet.authenticator ≡ a.authenticator
  pub attributes : map but_for_digest packet.attributes ≡ map but_for_digest (access_request_of old a.ask a.authenticator).attributes
  pub request : Pending
  pub pending : request_at (places_of new) a.send.id ≡ Some request
  pub octets : request.octets ≡ a.send.octets
  pub question : request.owner ≡ Ask a.ask.number.session a.ask.number.ask

-- a request that is out before and after has the same octets and is of the same question
abbrev pub KeepsRequests : (old new : LaneState) → Type 0
KeepsRequests old new =
    (id : ℕ) (r s : Pending) → request_at (places_of old) id ≡ Some r → request_at (places_of new) id ≡ Some s → (s.octets ≡ r.octets) × (s.owner ≡ r.owner)

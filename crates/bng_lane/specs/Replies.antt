-- Which datagram answers which question (RFC 2865 sections 2 and 3).
use Rattle.std.specs.Prelude.{◌≡◌, ℕ, true, List, Option, Some, None}
use Rattle.bng_base.specs.declared.address.Peer.{Peer}
use Rattle.bng_radius_wire.specs.Grammar.{Packet}
use Rattle.bng_radius_wire.specs.Digests.{IsSigned}
use Rattle.bng_rad_client.specs.declared.pending.Pending.{Pending}
use Rattle.bng_rad_client.specs.declared.rules.Lane.TheVariants.{Auth}
use Rattle.bng_rad_client.specs.declared.rules.Owner.TheVariants.{Ask}
use Rattle.bng_rad_client.specs.Replies.{IsReplyTo, authenticator_of}
use Rattle.bng_verdict.specs.declared.question.QuestionNo.{QuestionNo}
use Rattle.bng_lane.specs.State.{LaneState, places_of, flag_of, without}

-- the datagram is the server's reply to the request of this question, which is out and was sent
pub record Counts (l : LaneState) (from : Peer) (octets : List ℕ) (q : QuestionNo) : Type 0 where
  pub packet : Packet
  pub request : Pending
  pub reply : IsReplyTo Auth (places_of l) request packet octets
  pub signed : IsSigned packet (authenticator_of request) l.client.secret
  pub server : from ≡ l.client.auth_server
  pub sent : flag_of l packet.id ≡ true
  pub question : request.owner ≡ Ask q.session q.ask

-- what a datagram of this sender answers: a question, whose request is out no longer, or nothing
abbrev pub Takes : LaneState → (from : Peer) (octets : List ℕ) → Option QuestionNo → LaneState → Type 0
Takes old from octets None new = ((q : QuestionNo) → ¬ (Counts old from octets q)) × (new ≡ old)
Takes old from octets (Some q) new = (c : Counts old from octets q) × (new ≡ without old c.packet.id)

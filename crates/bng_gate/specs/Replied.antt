-- What the replies of the RADIUS server were replies to, over the turns of a run.
use Rattle.std.specs.Prelude.{◌≡◌, ℕ, ◌+◌, ◌<◌, ◌≤◌, List, [], Option, Some, None, length, map, slice_get}
use Rattle.std.specs.List.{Contains}
use Rattle.bng_base.specs.declared.address.Peer.{Peer}
use Rattle.bng_base.specs.declared.item.Entry.{Entry}
use Rattle.bng_base.specs.declared.outside.Role.TheVariants.{Auth}
use Rattle.bng_config.specs.declared.config.Config.{Config}
use Rattle.bng_engine.specs.Lists.{AnyOf}
use Rattle.bng_engine.specs.Views.{ShardView}
use Rattle.bng_access.specs.Request.{request_of}
use Rattle.bng_lane.specs.Laws.{IsAnswer, but_for_digest}
use Rattle.bng_lane.specs.Sends.{LaneAsk}
use Rattle.bng_radius_wire.specs.Codes.{access_request}
use Rattle.bng_radius_wire.specs.Digests.{IsSigned}
use Rattle.bng_radius_wire.specs.Grammar.{Packet, IsRadius}
use Rattle.bng_steps.specs.Protocol.{ShardState}
use Rattle.bng_steps.specs.Questions.{Asking, asking_from, questions_of}
use Rattle.bng_verdict.specs.declared.question.QuestionNo.{QuestionNo}
use Rattle.bng_desk.specs.Logins.{Answered}
use Rattle.bng_desk.specs.Model.{Desk}
use Rattle.bng_desk.specs.Opening.{lane_rules}
use Rattle.bng_desk.specs.Random.{draw}
use Rattle.bng_desk.specs.Turn.{Turn, after, new_items}
use Rattle.bng_gate.specs.Granted.{stage_in}
use Rattle.bng_gate.specs.Serving.{Made}

-- the datagrams of Auth that a turn took, each with the question that it answers, if it is the reply to one
abbrev pub answers_in : Option Turn → List Answered
answers_in None = []
answers_in (Some t) = t.answers

-- the shards as a turn leaves them: its requests are of their questions
abbrev pub shards_left : Desk → Option Turn → List (ShardView ShardState Entry)
shards_left d None = d.shards
shards_left d (Some t) = (after d t).shards

-- in the turn with this number, from 0 on, this datagram was sent to the server
pub record SentIn (turns : List Made) (j : ℕ) (server : Peer) (octets : List ℕ) : Type 0 where
  pub turn : Made
  pub at : slice_get turns j ≡ Some turn
  pub sent : Contains (stage_in turn.desk turn.turn).requests (record { role = Auth; peer = server; octets = octets })

-- when the turn with this number asked, the question was one of a session of a shard, and its verdict was not there
pub record OpenIn (turns : List Made) (j : ℕ) (a : Asking) : Type 0 where
  pub turn : Made
  pub at : slice_get turns j ≡ Some turn
  pub among : AnyOf (λ v. Contains (questions_of v.state.slots) a) (shards_left turn.desk turn.turn)

-- how often was drawn from the seed before a turn asks its questions
abbrev pub drawn_before : Desk → Option Turn → ℕ
drawn_before d None = d.drawn
drawn_before d (Some t) = d.drawn + length (new_items d t)

-- In the turn with this number, as its question with this place, from 0 on, this one was asked, with this draw from the seed as the
-- authenticator of its request: the first question of a turn has the next draw, and each has one of its own.
pub record AskedIn (seed : List ℕ) (turns : List Made) (j place drawn : ℕ) (a : LaneAsk) : Type 0 where
  pub turn : Made
  pub at : slice_get turns j ≡ Some turn
  pub here : slice_get (stage_in turn.desk turn.turn).asked place ≡ Some a
  pub number : drawn ≡ drawn_before turn.desk turn.turn + place
  pub authenticator : a.authenticator ≡ draw seed drawn

-- The octets, as a datagram of this sender in the turn with this number, are the reply to the question with this number: they come from
-- the configured server, and are one packet, an Access-Accept, an Access-Reject or an Access-Challenge, signed for the Access-Request
-- of the question. In an earlier turn the question was open in a shard and was asked; the request is the one that was made for it
-- then, with the draw as its authenticator, and says it, with the name and the proof of the question; and it was sent to the server in
-- that turn or in a later one before this.
pub record IsReplied (config : Config) (seed : List ℕ) (turns : List Made) (k : ℕ) (from : Peer) (octets : List ℕ) (q : QuestionNo) : Type 0 where
  pub server : from ≡ config.auth_server
  pub put : LaneAsk
  pub number : put.ask.number ≡ q
  pub asked : ℕ
  pub is_open : OpenIn turns asked (asking_from put.ask)
  pub place : ℕ
  pub drawn : ℕ
  pub is_asked : AskedIn seed turns asked place drawn put
  pub sent : ℕ
  pub since : asked ≤ sent
  pub before : sent < k
  pub is_sent : SentIn turns sent config.auth_server put.send.octets
  pub packet : Packet
  pub is_request : IsRadius packet put.send.octets
  pub code : packet.code ≡ access_request
  pub authenticator : packet.authenticator ≡ draw seed drawn
  pub says : map but_for_digest packet.attributes ≡ map but_for_digest (request_of (lane_rules config).nas config.secret.items put.ask packet.authenticator).attributes
  pub reply : Packet
  pub is_reply : IsRadius reply octets
  pub one : (p : Packet) → IsRadius p octets → p ≡ reply
  pub answer : IsAnswer reply.code
  pub same : reply.id ≡ packet.id
  pub signed : IsSigned reply packet.authenticator config.secret.items

-- each datagram that a turn took for the reply to a question is one
abbrev pub AreReplied : Config → List ℕ → List Made → Type 0
AreReplied config seed turns = (k place : ℕ) (m : Made) (a : Answered) (q : QuestionNo) → slice_get turns k ≡ Some m
    → slice_get (answers_in m.turn) place ≡ Some a → a.found ≡ Some q → IsReplied config seed turns k a.arrival.from a.arrival.octets q

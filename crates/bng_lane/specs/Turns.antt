-- What a lane does over the turns of a run, and what its replies were replies to.
use Rattle.std.specs.Prelude.{◌≡◌, ℕ, ◌<◌, true, List, ◌++◌, Option, Some, map, slice_get}
use Rattle.std.specs.List.{Contains}
use Rattle.bng_base.specs.declared.address.Peer.{Peer}
use Rattle.bng_base.specs.Chain.{Chain}
use Rattle.bng_access.specs.Request.{request_of}
use Rattle.bng_radius_wire.specs.Codes.{access_request}
use Rattle.bng_radius_wire.specs.Digests.{IsSigned}
use Rattle.bng_radius_wire.specs.Grammar.{Packet, IsRadius}
use Rattle.bng_verdict.specs.declared.question.QuestionNo.{QuestionNo}
use Rattle.bng_lane.specs.declared.rules.LaneRules.{LaneRules}
use Rattle.bng_lane.specs.Due.{GivesUp}
use Rattle.bng_lane.specs.Laws.{IsAnswer, but_for_digest}
use Rattle.bng_lane.specs.Replies.{Takes}
use Rattle.bng_lane.specs.Sends.{LaneSend, LaneAsk, Resends, Asks}
use Rattle.bng_lane.specs.State.{LaneState}

-- a datagram of this sender, and the question that it answers, if it is the reply to one
pub record LaneHeard : Type 0 where
  pub from : Peer
  pub octets : List ℕ
  pub found : Option QuestionNo

-- a turn at a moment: the datagrams that were heard, the questions that were given up, the requests that were sent again, and the
-- questions that were asked
pub record LaneTurn : Type 0 where
  pub now : ℕ
  pub heard : List LaneHeard
  pub given_up : List QuestionNo
  pub resent : List LaneSend
  pub asked : List LaneAsk

-- one after another, in this order
pub record Turns (l : LaneState) (t : LaneTurn) (l' : LaneState) : Type 0 where
  pub once_heard : LaneState
  pub once_given_up : LaneState
  pub once_resent : LaneState
  pub hears : Chain (λ a (h : LaneHeard) b. Takes a h.from h.octets h.found b) l t.heard once_heard
  pub gives_up : Chain (λ a (q : QuestionNo) b. GivesUp a t.now (Some q) b) once_heard t.given_up once_given_up
  pub resends : Chain (Resends t.now) once_given_up t.resent once_resent
  pub asks : Chain (Asks t.now) once_resent t.asked l'

-- all requests that a turn gave out, in their order
abbrev pub sends_of : LaneTurn → List LaneSend
sends_of t = t.resent ++ map (λ (a : LaneAsk). a.send) t.asked

-- in the turn with this number, counted from 0, this question was asked
pub record AskedIn (turns : List LaneTurn) (j : ℕ) (a : LaneAsk) : Type 0 where
  pub turn : LaneTurn
  pub at : slice_get turns j ≡ Some turn
  pub among : Contains turn.asked a

-- in that turn these octets were given out and sent
pub record SentIn (turns : List LaneTurn) (j : ℕ) (octets : List ℕ) : Type 0 where
  pub turn : LaneTurn
  pub at : slice_get turns j ≡ Some turn
  pub send : LaneSend
  pub among : Contains (sends_of turn) send
  pub sent : send.sent ≡ true
  pub octets_are : send.octets ≡ octets

-- The datagram of the turn with this number is the reply to this question: it comes from the server that the lane was opened with, and
-- is one packet, an Access-Accept, an Access-Reject or an Access-Challenge, signed for the Access-Request of the question. The question
-- was asked in an earlier turn; the request says it, and was sent in an earlier turn.
pub record IsReplied (rules : LaneRules) (turns : List LaneTurn) (k : ℕ) (from : Peer) (octets : List ℕ) (q : QuestionNo) : Type 0 where
  pub server : from ≡ rules.server
  pub ask : LaneAsk
  pub number : ask.ask.number ≡ q
  pub asked : ℕ
  pub asked_before : asked < k
  pub is_asked : AskedIn turns asked ask
  pub sent : ℕ
  pub sent_before : sent < k
  pub is_sent : SentIn turns sent ask.send.octets
  pub packet : Packet
  pub is_request : IsRadius packet ask.send.octets
  pub code : packet.code ≡ access_request
  pub authenticator : packet.authenticator ≡ ask.authenticator
  pub says : map but_for_digest packet.attributes ≡ map but_for_digest (request_of rules.nas rules.secret.items ask.ask ask.authenticator).attributes
  pub reply : Packet
  pub is_reply : IsRadius reply octets
  pub one : (p : Packet) → IsRadius p octets → p ≡ reply
  pub answer : IsAnswer reply.code
  pub same : reply.id ≡ packet.id
  pub signed : IsSigned reply packet.authenticator rules.secret.items

-- each datagram that a turn took for the reply to a question is one
abbrev pub AreReplied : LaneRules → List LaneTurn → Type 0
AreReplied rules turns = (k place : ℕ) (t : LaneTurn) (h : LaneHeard) (q : QuestionNo) → slice_get turns k ≡ Some t
    → slice_get t.heard place ≡ Some h → h.found ≡ Some q → IsReplied rules turns k h.from h.octets q

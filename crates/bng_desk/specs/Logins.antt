-- What a turn does with the questions of sessions: the datagrams of the server, the questions that are given up, and the requests that
-- are sent.
use Rattle.std.specs.Prelude.{◌≡◌, ◌⊎◌, ℕ, ◌/◌, ◌≤◌, false, List, [], ◌∷◌, ◌++◌, Option, Some, None, map, length, count_by, not, fold, take, slice_index_or, slice_set, if◌then◌else◌}
use Rattle.std.specs.List.{flat_map, range_with_len}
use Rattle.bng_base.specs.declared.address.Peer.{Peer}
use Rattle.bng_base.specs.declared.item.Entry.{Entry}
use Rattle.bng_base.specs.declared.item.Item.{Item}
use Rattle.bng_base.specs.declared.item.ItemKind.TheVariants as kind
use Rattle.bng_base.specs.declared.outside.Datagram.{Datagram}
use Rattle.bng_base.specs.declared.outside.Role.TheVariants.{Auth}
use Rattle.bng_base.specs.Chain.{Chain}
use Rattle.bng_base.specs.FateOf.{Arrival}
use Rattle.bng_base.specs.Stretch.{PlantStretch}
use Rattle.bng_engine.specs.Views.{ShardView}
use Rattle.bng_lane.specs.Due.{GivesUp}
use Rattle.bng_lane.specs.Replies.{Takes}
use Rattle.bng_lane.specs.Sends.{LaneSend, LaneAsk, AllResent, Asks}
use Rattle.bng_lane.specs.State.{LaneState}
use Rattle.bng_rad_client.specs.Table.{taken}
use Rattle.bng_steps.specs.Protocol.{ShardState}
use Rattle.bng_steps.specs.Questions.{Asking, asking_from, waiting, handed_after}
use Rattle.bng_verdict.specs.declared.question.QuestionNo.{QuestionNo}
use Rattle.bng_desk.specs.declared.reading.ReadEnd.{ReadEnd}
use Rattle.bng_desk.specs.Items.{DataReading, nobody}
use Rattle.bng_desk.specs.Random.{draw}

-- a datagram of Auth, and the question that it answers, if it is the reply to one
pub record Answered : Type 0 where
  pub arrival : Arrival
  pub found : Option QuestionNo

-- the octets of a reply to this question, as an item before its random octets are drawn
abbrev pub verdict_item : Arrival → QuestionNo → Item
verdict_item a q = record {
  kind = kind.Verdict;
  from = a.from;
  frame = record { payload = a.octets; headroom = 64 };
  cut = a.cut;
  random = [];
  target = q.session.0;
  ask = q.ask;
}

abbrev pub reply_in : Arrival → Option QuestionNo → List Item
reply_in a None = []
reply_in a (Some q) = verdict_item a q ∷ []

-- the items of what was taken from Auth: of each datagram that answers a question one, in their order
abbrev pub reply_items : List Answered → List Item
reply_items answers = flat_map (λ a. reply_in a.arrival a.found) answers

-- no datagram came: the item of a question that was given up has no octets
abbrev pub silence : Arrival
silence = record { from = nobody; cut = false; octets = [] }

abbrev pub timeout_items : List QuestionNo → List Item
timeout_items timed = map (verdict_item silence) timed

-- the most verdicts of a round
abbrev pub verdicts_most : ℕ
verdicts_most = 128

-- the lane heard these datagrams, one after the other, and each answered its question or none
abbrev pub Hears : LaneState → List Answered → LaneState → Type 0
Hears = Chain (λ l (a : Answered) l'. Takes l a.arrival.from a.arrival.octets a.found l')

-- These questions were given up, the one that was due first in front: so many at most, and all that are due if there are fewer.
pub record TimesOut (now most : ℕ) (l : LaneState) (timed : List QuestionNo) (l' : LaneState) : Type 0 where
  pub given_up : Chain (λ a (q : QuestionNo) b. GivesUp a now (Some q) b) l timed l'
  pub few : length timed ≤ most
  pub all : (length timed ≡ most) ⊎ GivesUp l' now None l'

-- what was taken from Auth, as a reading
abbrev pub auth_reading : List Answered → ReadEnd → DataReading
auth_reading answers ended = record { role = Auth; arrivals = map (λ a. a.arrival) answers; ended = ended }

-- the requests that the settlement of a turn sends: those that are sent again, and then those of the questions that it asks
pub record Requests : Type 0 where
  pub resent : List LaneSend
  pub asked : List LaneAsk

-- the questions of all shards that were not handed out yet: of the first shard first, and in each by rising session number
abbrev pub waiting_in : List (ShardView ShardState Entry) → List (List ℕ) → List Asking
waiting_in [] handed = []
waiting_in (v ∷ vs) [] = []
waiting_in (v ∷ vs) (h ∷ hs) = waiting v.state.slots h ++ waiting_in vs hs

-- a question is handed out by its shard
abbrev pub hand_out : List (List ℕ) → QuestionNo → List (List ℕ)
hand_out handed q = let shard : ℕ = q.session.0 / 1024 in slice_set handed shard (handed_after (slice_index_or handed shard []) q)

abbrev pub handed_over : List (List ℕ) → List QuestionNo → List (List ℕ)
handed_over handed qs = fold hand_out handed qs

-- At this moment all requests that are due are sent again, the longest due first. Then the questions that wait are asked, in their
-- order, as long as the lane has an identifier; each request has the next sixteen random octets as its authenticator.
pub record SettlesLane (now : ℕ) (l : LaneState) (shards : List (ShardView ShardState Entry)) (handed : List (List ℕ)) (seed : List ℕ) (drawn : ℕ) (q : Requests) (l' : LaneState) (handed' : List (List ℕ)) : Type 0 where
  pub mid : LaneState
  pub resends : AllResent now l q.resent mid
  pub asks : Chain (Asks now) mid q.asked l'
  pub questions : map (λ (a : LaneAsk). asking_from a.ask) q.asked ≡ take (length q.asked) (waiting_in shards handed)
  pub all : (length q.asked ≡ length (waiting_in shards handed)) ⊎ (256 ≤ taken l'.client.auth.places)
  pub authenticators : map (λ (a : LaneAsk). a.authenticator) q.asked ≡ map (draw seed) (range_with_len drawn (length q.asked))
  pub handed_is : handed' ≡ handed_over handed (map (λ (a : LaneAsk). a.ask.number) q.asked)

-- all sends of these requests, in their order
abbrev pub lane_sends : Requests → List LaneSend
lane_sends q = q.resent ++ map (λ (a : LaneAsk). a.send) q.asked

abbrev pub lane_datagram : Peer → LaneSend → List Datagram
lane_datagram server s = if s.sent then record { role = Auth; peer = server; octets = s.octets } ∷ [] else []

-- what sends add to what the plant tells; each that was not sent had failed
abbrev pub lane_stretch : Peer → List LaneSend → PlantStretch
lane_stretch server sends = record {
  heard = [];
  taken = [];
  sent = flat_map (lane_datagram server) sends;
  failed = count_by (λ (s : LaneSend). not s.sent) sends;
}

abbrev pub requests_stretch : Peer → Requests → PlantStretch
requests_stretch server q = lane_stretch server (lane_sends q)

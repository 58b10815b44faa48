-- What is taken from the outside in a turn, as items.
use Rattle.std.specs.Prelude.{◌≡◌, ◌⊎◌, ℕ, ◌+◌, ◌-◌, ◌/◌, ◌≤◌, ◌&&◌, Bool, List, [], ◌++◌, Option, All, length, map, fold, option_to_list}
use Rattle.std.specs.List.{flat_map, range_with_len}
use Rattle.bng_base.specs.declared.item.Item.{Item}
use Rattle.bng_base.specs.declared.item.Loose.{Loose}
use Rattle.bng_base.specs.declared.outside.Role.{Role}
use Rattle.bng_base.specs.declared.outside.Role.TheVariants.{Auth}
use Rattle.bng_base.specs.Chain.{Chain}
use Rattle.bng_base.specs.FateOf.{Arrival}
use Rattle.bng_base.specs.Told.{PlantTold}
use Rattle.bng_base.specs.Stretch.{ExtendsPlant, plant_joined}
use Rattle.bng_billing.specs.Due.{NoneToResend}
use Rattle.bng_billing.specs.Sending.{NoneToSend}
use Rattle.bng_billing.specs.State.{BillingState}
use Rattle.bng_coa.specs.declared.rules.Admitted.{Admitted}
use Rattle.bng_coa.specs.State.{State as CoaState}
use Rattle.bng_lane.specs.Asking.{IsAskedBy}
use Rattle.bng_lane.specs.Replies.{Takes as IsTaken}
use Rattle.bng_lane.specs.Sends.{LaneSend, LaneAsk, AllResent, Asks}
use Rattle.bng_lane.specs.State.{LaneState, noted}
use Rattle.bng_rad_client.specs.Table.{taken}
use Rattle.bng_steps.specs.declared.changes.ChangeAnswer.{ChangeAnswer}
use Rattle.bng_steps.specs.declared.rules.Rules.{Rules}
use Rattle.bng_steps.specs.Questions.{asking_from, waiting, handed_after}
use Rattle.bng_steps.specs.State.{State}
use Rattle.bng_verdict.specs.declared.question.AuthAsk.{AuthAsk}
use Rattle.bng_verdict.specs.declared.question.QuestionNo.{QuestionNo}
use Rattle.bng_desk.specs.declared.reading.ReadEnd.{ReadEnd}
use Rattle.bng_desk.specs.Accounting.{Acknowledged, Gives, HearsRecords, RecordRequests, RecordSend, Resends, SettlesRecords, acct_reading, acknowledged_most, record_stretch, records_stretch}
use Rattle.bng_desk.specs.Coa.{AdmitsAll, AdmitsOne, AnswersLooseKind, AreLooseAnswers, CoaReplies, CoaReply, CoaSend, Given, GivesAnswer, GivesTo, Requested, SettlesCoa, change_in, change_items, coa_reading, coa_sends, coa_stretch, repeat_in, repeats_of, requests_most}
use Rattle.bng_desk.specs.Items.{DataReading, taken_items, ticks_of, drawn_from}
use Rattle.bng_desk.specs.Random.{Drawn, draw}
use Rattle.bng_desk.specs.Reading.{EndsRight, is_empty, sending}
use Rattle.bng_desk.specs.Logins.{Answered, Requests, Hears, TimesOut, SettlesLane, reply_in, reply_items, timeout_items, auth_reading, lane_stretch, requests_stretch, verdicts_most}
use Rattle.bng_desk.specs.Turn.{asked_stretch, data_stretch, auth_stretch, reading_stretch, arrivals_in, data_roles, most_of, ReadsWhere}
use Rattle.bng_desk.specs.Taking.{Shown, told_all}

-- these roles were read, one after the other, and what was taken stands after the items before, each with its own random octets
pub record Takes (roles : List Role) (most : Role → ℕ) (few : ℕ) (old new : PlantTold) (draws draws' : Drawn) (items items' : List Item) (quiet : Bool) : Type 0 where
  pub readings : List DataReading
  pub are_roles : map (λ r. r.role) readings ≡ roles
  pub read : All (λ r. EndsRight (most r.role) (length r.arrivals) r.ended) readings
  pub told : ExtendsPlant old new (data_stretch readings)
  pub items_are : items' ≡ items ++ drawn_from draws.seed draws.drawn (taken_items readings)
  pub number : length (taken_items readings) ≤ few
  pub draws_are : draws' ≡ record draws { drawn = draws.drawn + length (taken_items readings) }
  pub quiet_is : quiet ≡ is_empty (arrivals_in readings)

-- Auth was read: each reply to a question is an item, with its own random octets.
pub record TakesReplies (old new : PlantTold) (lane lane' : LaneState) (draws draws' : Drawn) (items items' : List Item) (quiet : Bool) : Type 0 where
  pub answers : List Answered
  pub ended : ReadEnd
  pub ends : EndsRight verdicts_most (length answers) ended
  pub told : ExtendsPlant old new (reading_stretch (auth_reading answers ended))
  pub hears : Hears lane answers lane'
  pub items_are : items' ≡ items ++ drawn_from draws.seed draws.drawn (reply_items answers)
  pub draws_are : draws' ≡ record draws { drawn = draws.drawn + length (reply_items answers) }
  pub quiet_is : quiet ≡ is_empty answers

-- A datagram of Auth was heard: where it is the reply to a question it is an item.
pub record AddsReply (a : Arrival) (lane lane' : LaneState) (draws draws' : Drawn) (items items' : List Item) : Type 0 where
  pub found : Option QuestionNo
  pub takes : IsTaken lane a.from a.octets found lane'
  pub items_are : items' ≡ items ++ drawn_from draws.seed draws.drawn (reply_in a found)
  pub draws_are : draws' ≡ record draws { drawn = draws.drawn + length (reply_in a found) }

-- Acct was read, and accounting heard each datagram.
pub record TakesAcknowledgements (old new : PlantTold) (b b' : BillingState) (quiet : Bool) : Type 0 where
  pub acknowledged : List Acknowledged
  pub ended : ReadEnd
  pub ends : EndsRight acknowledged_most (length acknowledged) ended
  pub told : ExtendsPlant old new (reading_stretch (acct_reading acknowledged ended))
  pub hears : HearsRecords b acknowledged b'
  pub quiet_is : quiet ≡ is_empty acknowledged

-- Auth was read, where it is read.
pub record TakesAuth (reads : Bool) (old new : PlantTold) (lane lane' : LaneState) (draws draws' : Drawn) (items items' : List Item) (quiet : Bool) : Type 0 where
  pub answers : List Answered
  pub auth_end : Option ReadEnd
  pub auth : ReadsWhere verdicts_most reads answers auth_end
  pub told : ExtendsPlant old new (auth_stretch answers auth_end)
  pub hears : Hears lane answers lane'
  pub items_are : items' ≡ items ++ drawn_from draws.seed draws.drawn (reply_items answers)
  pub draws_are : draws' ≡ record draws { drawn = draws.drawn + length (reply_items answers) }
  pub quiet_is : quiet ≡ is_empty answers

-- A datagram of Coa was admitted: a new request is an item, and the reply to one that was repeated is kept for the settlement.
pub record AddsRequest (now wall : ℕ) (a : Arrival) (c c' : CoaState) (draws draws' : Drawn) (items items' : List Item) (repeats repeats' : List CoaReply) : Type 0 where
  pub admitted : Admitted
  pub target : ℕ
  pub admits : AdmitsOne now wall c (record { arrival = a; admitted = admitted; target = target }) c'
  pub items_are : items' ≡ items ++ drawn_from draws.seed draws.drawn (change_in a admitted target)
  pub draws_are : draws' ≡ record draws { drawn = draws.drawn + length (change_in a admitted target) }
  pub repeats_are : repeats' ≡ repeats ++ repeat_in a.from admitted

-- Coa was read: each new request is an item, with its own random octets.
pub record TakesRequests (now wall : ℕ) (old new : PlantTold) (c c' : CoaState) (draws draws' : Drawn) (items items' : List Item) (repeats repeats' : List CoaReply) (quiet : Bool) : Type 0 where
  pub requested : List Requested
  pub ended : ReadEnd
  pub ends : EndsRight requests_most (length requested) ended
  pub told : ExtendsPlant old new (reading_stretch (coa_reading requested ended))
  pub admits : AdmitsAll now wall c requested c'
  pub items_are : items' ≡ items ++ drawn_from draws.seed draws.drawn (change_items requested)
  pub draws_are : draws' ≡ record draws { drawn = draws.drawn + length (change_items requested) }
  pub repeats_are : repeats' ≡ repeats ++ repeats_of requested
  pub quiet_is : quiet ≡ is_empty requested

-- Coa was read, where it is read.
pub record TakesCoa (reads : Bool) (now wall : ℕ) (old new : PlantTold) (c c' : CoaState) (draws draws' : Drawn) (items items' : List Item) (repeats repeats' : List CoaReply) (quiet : Bool) : Type 0 where
  pub requested : List Requested
  pub coa_end : Option ReadEnd
  pub coa : ReadsWhere requests_most reads requested coa_end
  pub told : ExtendsPlant old new (asked_stretch requested coa_end)
  pub admits : AdmitsAll now wall c requested c'
  pub items_are : items' ≡ items ++ drawn_from draws.seed draws.drawn (change_items requested)
  pub draws_are : draws' ≡ record draws { drawn = draws.drawn + length (change_items requested) }
  pub repeats_are : repeats' ≡ repeats ++ repeats_of requested
  pub quiet_is : quiet ≡ is_empty requested

-- Questions were given up, so many at most: each is an item.
pub record AddsTimeouts (now most : ℕ) (lane lane' : LaneState) (draws draws' : Drawn) (items items' : List Item) : Type 0 where
  pub timed : List QuestionNo
  pub times_out : TimesOut now most lane timed lane'
  pub items_are : items' ≡ items ++ drawn_from draws.seed draws.drawn (timeout_items timed)
  pub draws_are : draws' ≡ record draws { drawn = draws.drawn + length timed }

-- What a turn takes while serving beside requests for changes: Auth was read, where it is read, and then the other roles. The items are
-- those that stand first, among which are so many verdicts, and then the replies, what was taken, the questions that are given up and the
-- Ticks that are due, each with its own random octets.
pub record Gathers (r : Rules) (shards : List Shown) (moment : ℕ) (reads : Bool) (verdicts : ℕ) (front : List Item) (old new : PlantTold) (lane lane' : LaneState) (draws draws' : Drawn) (items : List Item) (quiet : Bool) : Type 0 where
  pub answers : List Answered
  pub auth_end : Option ReadEnd
  pub auth : ReadsWhere verdicts_most reads answers auth_end
  pub readings : List DataReading
  pub are_roles : map (λ r. r.role) readings ≡ data_roles r
  pub read : All (λ x. EndsRight (most_of r x.role) (length x.arrivals) x.ended) readings
  pub told : ExtendsPlant old new (plant_joined (auth_stretch answers auth_end) (data_stretch readings))
  pub heard : LaneState
  pub hears : Hears lane answers heard
  pub timed : List QuestionNo
  pub times_out : TimesOut moment (verdicts_most - (verdicts + length (reply_items answers))) heard timed lane'
  pub items_are : items ≡ front ++ drawn_from draws.seed draws.drawn (reply_items answers ++ taken_items readings ++ timeout_items timed ++ ticks_of moment shards)
  pub draws_are : draws' ≡ record draws { drawn = draws.drawn + length (reply_items answers ++ taken_items readings ++ timeout_items timed ++ ticks_of moment shards) }
  pub quiet_is : quiet ≡ (is_empty answers && is_empty (arrivals_in readings))

-- The requests that are due were sent again, and the questions that wait were asked.
pub record SendsRequests (now : ℕ) (shards : List Shown) (old new : PlantTold) (lane lane' : LaneState) (handed handed' : List (List ℕ)) (draws draws' : Drawn) : Type 0 where
  pub requests : Requests
  pub settles : SettlesLane now lane shards handed draws.seed draws.drawn requests lane' handed'
  pub told : ExtendsPlant old new (requests_stretch lane.client.auth_server requests)
  pub draws_are : draws' ≡ record draws { drawn = draws.drawn + length requests.asked }

-- The requests that are due were sent again.
pub record SendsAgain (now : ℕ) (old new : PlantTold) (lane lane' : LaneState) : Type 0 where
  pub resent : List LaneSend
  pub resends : AllResent now lane resent lane'
  pub told : ExtendsPlant old new (lane_stretch lane.client.auth_server resent)

-- Questions that wait in the shard with this number were asked, in their order: each is handed out, and its request has the next sixteen
-- random octets as its authenticator.
pub record AsksSome (now shard : ℕ) (slots : State) (old new : PlantTold) (lane lane' : LaneState) (handed handed' : List ℕ) (draws draws' : Drawn) : Type 0 where
  pub asked : List LaneAsk
  pub asks : Chain (Asks now) lane asked lane'
  pub questions : waiting slots handed ≡ map (λ (a : LaneAsk). asking_from a.ask) asked ++ waiting slots handed'
  pub own : All (λ (a : LaneAsk). a.ask.number.session.0 / 1024 ≡ shard) asked
  pub handed_is : handed' ≡ fold handed_after handed (map (λ (a : LaneAsk). a.ask.number) asked)
  pub authenticators : map (λ (a : LaneAsk). a.authenticator) asked ≡ map (draw draws.seed) (range_with_len draws.drawn (length asked))
  pub told : ExtendsPlant old new (lane_stretch lane.client.auth_server (map (λ (a : LaneAsk). a.send) asked))
  pub draws_are : draws' ≡ record draws { drawn = draws.drawn + length asked }
  pub counted : taken lane'.client.auth.places ≡ taken lane.client.auth.places + length asked
  pub few : (asked ≡ []) ⊎ (taken lane'.client.auth.places ≤ 256)

-- A question was asked: its request has the next sixteen random octets as its authenticator.
pub record AsksOne (now : ℕ) (ask : AuthAsk) (old new : PlantTold) (lane lane' : LaneState) (draws draws' : Drawn) : Type 0 where
  pub send : LaneSend
  pub made : LaneState
  pub asked : IsAskedBy lane now ask (draw draws.seed draws.drawn) send.id send.octets made
  pub noted_is : lane' ≡ noted send.id send.sent made
  pub told : ExtendsPlant old new (sending Auth made.client.auth_server send.octets send.sent)
  pub draws_are : draws' ≡ record draws { drawn = draws.drawn + 1 }

-- and all of them were, or the lane has no identifier left
abbrev pub AsksAll : (now shard : ℕ) → State → PlantTold → PlantTold → LaneState → LaneState → List ℕ → List ℕ → Drawn → Drawn → Type 0
AsksAll now shard slots old new lane lane' handed handed' draws draws' =
    AsksSome now shard slots old new lane lane' handed handed' draws draws' × ((waiting slots handed' ≡ []) ⊎ (256 ≤ taken lane'.client.auth.places))

-- The requests of accounting that are due were sent again, and the records that wait were sent.
pub record SendsRecords (now : ℕ) (old new : PlantTold) (b b' : BillingState) : Type 0 where
  pub requests : RecordRequests
  pub settles : SettlesRecords now b requests b'
  pub told : ExtendsPlant old new (records_stretch b.client.acct_server requests)

-- The requests of accounting that are due were sent again.
pub record ResendsRecords (now : ℕ) (old new : PlantTold) (b b' : BillingState) : Type 0 where
  pub again : List LaneSend
  pub resends : Chain (Resends now) b again b'
  pub none_due : NoneToResend b' now
  pub told : ExtendsPlant old new (record_stretch b.client.acct_server again)

-- The records that wait were sent.
pub record GivesRecords (now : ℕ) (old new : PlantTold) (b b' : BillingState) : Type 0 where
  pub given : List RecordSend
  pub gives : Chain (Gives now) b given b'
  pub all : NoneToSend b'
  pub told : ExtendsPlant old new (record_stretch b.client.acct_server (map (λ (r : RecordSend). r.send) given))

-- The replies of requests that were repeated were sent.
pub record RepeatsAll (repeats : List CoaReply) (old new : PlantTold) : Type 0 where
  pub repeated : List CoaSend
  pub are : map (λ (s : CoaSend). s.reply) repeated ≡ repeats
  pub told : ExtendsPlant old new (coa_stretch repeated)

-- A reply was sent, if the request that the answer is for was in hand.
pub record GivesOne (a : ChangeAnswer) (old new : PlantTold) (c c' : CoaState) : Type 0 where
  pub send : Option CoaSend
  pub gives : GivesTo c a send c'
  pub told : ExtendsPlant old new (coa_stretch (option_to_list send))

-- so for these answers, one after the other
pub record GivesSome (answers : List ChangeAnswer) (old new : PlantTold) (c c' : CoaState) : Type 0 where
  pub given : List Given
  pub are : map (λ (g : Given). g.answer) given ≡ answers
  pub gives : Chain GivesAnswer c given c'
  pub told : ExtendsPlant old new (coa_stretch (flat_map (λ (g : Given). option_to_list g.send) given))

-- A reply to a loose item was sent, if it is a request and in hand.
pub record GivesItem (r : Rules) (item : Item) (old new : PlantTold) (c c' : CoaState) : Type 0 where
  pub answer : Option ChangeAnswer
  pub is : AnswersLooseKind item.kind r item answer
  pub gives : GivesSome (option_to_list answer) old new c c'

-- so to loose items, in their order
pub record GivesLoose (r : Rules) (loose : List Loose) (old new : PlantTold) (c c' : CoaState) : Type 0 where
  pub answers : List ChangeAnswer
  pub are_loose : AreLooseAnswers r loose answers
  pub gives : GivesSome answers old new c c'

-- The replies of a settlement were sent: those of requests that were repeated, those to loose items, and those to what the shards answered,
-- which was told by that.
pub record SendsReplies (r : Rules) (repeats : List CoaReply) (loose : List Loose) (shards shards' : List Shown) (old new : PlantTold) (c c' : CoaState) : Type 0 where
  pub replies : CoaReplies
  pub settles : SettlesCoa r repeats loose (flat_map (λ v. v.state.changed) shards) c replies c'
  pub told : ExtendsPlant old new (coa_stretch (coa_sends replies))
  pub shards_are : shards' ≡ map told_all shards

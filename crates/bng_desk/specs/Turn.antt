-- One turn of the desk: what the outside answered in it, what it sent, and the desk that it leaves.
use Rattle.std.specs.Prelude.{◌≡◌, ℕ, ◌+◌, ◌-◌, ◌/◌, ◌≤◌, Bool, true, false, not, ◌&&◌, ◌||◌, List, [], ◌∷◌, ◌++◌, Option, Some, None, All, length, map, min, fold, count_by, if◌then◌else◌}
use Rattle.std.specs.List.{AllZip, flat_map, range_with_len, list_any}
use Rattle.bng_base.specs.declared.item.Entry.{Entry}
use Rattle.bng_base.specs.declared.item.Item.{Item}
use Rattle.bng_base.specs.declared.item.Loose.{Loose}
use Rattle.bng_base.specs.declared.outside.Heard.{Heard}
use Rattle.bng_base.specs.declared.outside.Heard.TheVariants.{Wait}
use Rattle.bng_base.specs.declared.outside.ClockAnswer.TheVariants.{Now, Wall}
use Rattle.bng_base.specs.declared.outside.Role.{Role}
use Rattle.bng_base.specs.declared.outside.Role.TheVariants.{Access, Core, Tunnel, Auth, Acct, Coa, Control}
use Rattle.bng_base.specs.declared.round.RoundRecord.{RoundRecord}
use Rattle.bng_base.specs.FateOf.{Arrival}
use Rattle.bng_base.specs.Stretch.{Outside, PlantStretch, plant_none, plant_joined, Stretch, Extends, no_stretch}
use Rattle.bng_coa.specs.State.{State as CoaState}
use Rattle.bng_engine.specs.Calls.{all_sends}
use Rattle.bng_engine.specs.Lists.{Zip3}
use Rattle.bng_engine.specs.Views.{ShardView}
use Rattle.bng_ppp.specs.LcpRelation.{earliest}
use Rattle.bng_steps.specs.declared.changes.ChangeAnswer.{ChangeAnswer}
use Rattle.bng_steps.specs.declared.rules.Rules.{Rules}
use Rattle.bng_steps.specs.Interims.{Reports}
use Rattle.bng_steps.specs.Protocol.{ShardState, deadline_of}
use Rattle.bng_shard.specs.Room.{is_end}
use Rattle.bng_desk.specs.declared.desk.Turned.{Turned}
use Rattle.bng_desk.specs.declared.desk.Turned.TheVariants.{Ok, TraceFault, WantOfMemory}
use Rattle.bng_desk.specs.declared.reading.ReadEnd.{ReadEnd}
use Rattle.bng_desk.specs.Accounting.{Acknowledged, FormedRecord, RecordRequests, HearsRecords, Forms, IsStartOf, IsStopOf, SettlesRecords, acct_reading, acknowledged_most, records_stretch}
use Rattle.bng_desk.specs.Coa.{AdmitsAll, CoaReplies, Requested, SettlesCoa, change_items, coa_reading, coa_sends, coa_stretch, has_places, repeats_of, requests_most, shard_answers}
use Rattle.bng_desk.specs.Control.{Heeded, has_stop, control_stretch}
use Rattle.bng_desk.specs.Counting.{plus}
use Rattle.bng_billing.specs.State.{BillingState, places_of}
use Rattle.bng_billing.specs.Stopping.{StopsOnly}
use Rattle.bng_desk.specs.Allowing.{Allows}
use Rattle.bng_desk.specs.Interims.{FormsInterims, TakesInterims, owed_by}
use Rattle.bng_lane.specs.State.{LaneState}
use Rattle.bng_rad_client.specs.DueRequests.{IsDeadline}
use Rattle.bng_verdict.specs.declared.question.QuestionNo.{QuestionNo}
use Rattle.bng_desk.specs.Items.{DataReading, all_loose, taken_items, ticks_of, ends_of, drawn_from, is_verdict_item, kept_of}
use Rattle.bng_desk.specs.Logins.{Answered, Requests, Hears, TimesOut, SettlesLane, reply_items, timeout_items, auth_reading, requests_stretch, verdicts_most}
use Rattle.bng_desk.specs.Model.{Desk, all_stopped, grace_most, has_ended, line_after, plus_book}
use Rattle.bng_desk.specs.Reading.{receives, taken_in, ending_stretch, EndsRight, is_empty}
use Rattle.bng_desk.specs.Report.{stats_text}
use Rattle.bng_desk.specs.Round.{Round, IsRound, stops_of, starts_of, terms_in, news_in, handled_states, left_by, drops_in, sends_stretch, record_of, refused_of, refused_record, with_refused}

-- the gateway's end for tunnels, where it has one
abbrev pub tunnel_roles : Bool → List Role
tunnel_roles serves = if serves then Tunnel ∷ [] else []

-- the access ports so far
abbrev pub ports_up_to : ℕ → List Role
ports_up_to n = map Access (range_with_len 1 n)

-- the end for tunnels, then the access ports, and then the core
abbrev pub data_roles : Rules → List Role
data_roles r = tunnel_roles r.serves_tunnels ++ (ports_up_to (length r.access) ++ Core ∷ [])

-- how many datagrams of the role a turn takes: the access ports share 224
abbrev pub most_of : Rules → Role → ℕ
most_of r (Access number) = 224 / length r.access
most_of r Core = 224
most_of r Tunnel = 224
most_of r Auth = 0
most_of r Acct = 0
most_of r Coa = 0
most_of r Control = 0

-- The moments; what was taken from Control and how its reading ended, and so from Acct; what was taken from Coa and how its reading ended,
-- which is None where it was not read, and so from Auth; the readings of the other roles; the questions that were given up; the round,
-- which is None where it could not be opened for want of memory; the replies to requests for changes; the requests that were sent; whether
-- the trace took the round. Of the requests for changes: which are in hand in the end, and which replies are kept. Of the lane: how it
-- stood once it had heard Auth, once the questions were given up, and in the end, with its first deadline, and which questions were handed
-- out then. Of accounting: the records that were formed, the requests that were sent, and how it stood in the end, with its first deadline,
-- and of each shard which Interims were taken then.
pub record Turn : Type 0 where
  pub moment : ℕ
  pub wall : ℕ
  pub control : List Heeded
  pub control_end : ReadEnd
  pub acknowledged : List Acknowledged
  pub acct_end : ReadEnd
  pub requested : List Requested
  pub coa_end : Option ReadEnd
  pub answers : List Answered
  pub auth_end : Option ReadEnd
  pub readings : List DataReading
  pub timed : List QuestionNo
  pub round : Option Round
  pub replies : CoaReplies
  pub requests : Requests
  pub noted : Bool
  pub coa : CoaState
  pub heard : LaneState
  pub waited : LaneState
  pub lane : LaneState
  pub deadline : Option ℕ
  pub handed : List (List ℕ)
  pub formed : List FormedRecord
  pub records : RecordRequests
  pub billing : BillingState
  pub record_deadline : Option ℕ
  pub reports : List Reports

-- where it is read, a role is read so many times at most
abbrev pub ReadsWhere : {X : Type 0} → ℕ → Bool → List X → Option ReadEnd → Type 0
ReadsWhere most true taken last = (ended : ReadEnd) × (last ≡ Some ended) × EndsRight most (length taken) ended
ReadsWhere most false taken last = (last ≡ None) × (taken ≡ [])

-- Coa is read where requests for changes are served and nothing of a round that was not opened stands first. It is not read either while
-- more than 224 requests are in hand.
abbrev pub reads_changes : Desk → Bool
reads_changes d = d.rules.serves_changes && (is_empty d.kept && has_places d.coa)

-- Control is read at most 8 times, then Acct at most 128 times, then Coa at most 32 times, then Auth at most 128 times, which is not read
-- where verdicts or requests of a round that was not opened stand first, then the end for tunnels, where there is one, at most 224 times,
-- then the access ports in their order, which share 224 receives, and then the core, at most 224 times.
pub record IsReading (d : Desk) (t : Turn) : Type 0 where
  pub moment : d.moment ≤ t.moment
  pub control : EndsRight 8 (length t.control) t.control_end
  pub acct : EndsRight acknowledged_most (length t.acknowledged) t.acct_end
  pub coa : ReadsWhere requests_most (reads_changes d) t.requested t.coa_end
  pub auth : ReadsWhere verdicts_most (is_empty d.kept) t.answers t.auth_end
  pub roles : map (λ r. r.role) t.readings ≡ data_roles d.rules
  pub read : All (λ r. EndsRight (most_of d.rules r.role) (length r.arrivals) r.ended) t.readings

-- the items that are new in a turn while serving: those of the new requests, those of the replies, those of the datagrams, the questions
-- that are given up, and then the Ticks that are due
abbrev pub new_items : Desk → Turn → List Item
new_items d t = change_items t.requested ++ (reply_items t.answers ++ taken_items t.readings ++ timeout_items t.timed ++ ticks_of t.moment d.shards)

-- the items of a turn while serving: those that stay of the round before, and then the new ones, each of which draws its random octets
abbrev pub items_of : Desk → Turn → List Item
items_of d t = d.kept ++ drawn_from d.seed d.drawn (new_items d t)

-- how many verdicts there may still be beside those that stay and those of the replies
abbrev pub timeouts_most : Desk → Turn → ℕ
timeouts_most d t = verdicts_most - (count_by is_verdict_item d.kept + length (reply_items t.answers))

-- an End is among these
abbrev pub has_end : List Item → Bool
has_end items = list_any (λ (i : Item). is_end i.kind) items

-- the items of a turn of the ending: those that stay of the round before, and an End for each shard, unless Ends are among them
abbrev pub ending_items : Desk → List Item
ending_items d = if has_end d.kept then d.kept else d.kept ++ drawn_from d.seed d.drawn (ends_of (length d.shards))

-- how many draw anew
abbrev pub ending_draws : Desk → ℕ
ending_draws d = if has_end d.kept then 0 else length d.shards

-- the round, where it was opened
abbrev pub RoundOf : Desk → ℕ → List Item → Option Round → Type 0
RoundOf d moment items None = Unit {0}
RoundOf d moment items (Some round) = IsRound d.rules d.shards d.pool d.tallies moment (items ∷ []) round

-- the desk after a round, or after one that was not opened, whose items of the outside are dropped, and whose requests, verdicts and Ends
-- stay
abbrev pub after_round : Desk → List Item → Option Round → Desk
after_round d items None = record d { drops = plus d.drops (with_refused (length (refused_of items))); kept = kept_of items }
after_round d items (Some round) = record d {
  shards = map left_by round.shards;
  pool = round.pool;
  lines = map (line_after (stops_of round)) d.lines;
  stopped_book = plus_book d.stopped_book (all_stopped (stops_of round));
  stops = d.stops + length (stops_of round);
  tallies = round.tallies;
  drops = plus d.drops (drops_in (items ∷ []) round);
  kept = [];
}

-- the number of the last round that the trace took, after one more; one that it did not take leaves it
abbrev pub told_after : Bool → ℕ → ℕ
told_after true told = told + 1
told_after false told = told

-- the desk that a turn leaves while serving
abbrev pub after : Desk → Turn → Desk
after d t = record (after_round d (items_of d t) t.round) {
  turns = d.turns + 1;
  stopped = d.stopped || has_stop t.control;
  drawn = d.drawn + length (new_items d t) + length t.requests.asked;
  moment = t.moment;
  told = told_after t.noted d.told;
  lane = t.lane;
  handed = t.handed;
  billing = t.billing;
  reports = t.reports;
  coa = t.coa;
}

-- the loose items of a round, and what its shards answered to requests for changes; there are none where it was not opened
abbrev pub loose_of : List Item → Option Round → List Loose
loose_of items None = []
loose_of items (Some round) = all_loose 0 (items ∷ []) round.whose

abbrev pub answers_of : Option Round → List ChangeAnswer
answers_of None = []
answers_of (Some round) = shard_answers round.shards

-- Requests for changes in a turn while serving: each datagram of Coa is admitted as it is taken, and in the settlement the replies are
-- sent: to each request of the round one, with the verdict of its shard, or of one that is loose that for which it is refused.
pub record CoaTurn (d : Desk) (t : Turn) : Type 0 where
  pub admitted : CoaState
  pub admits : AdmitsAll t.moment t.wall d.coa t.requested admitted
  pub settles : SettlesCoa d.rules (repeats_of t.requested) (loose_of (items_of d t) t.round) (answers_of t.round) admitted t.replies t.coa

-- The lane in a turn while serving: it hears Auth, gives up the questions that are due, and in the settlement sends what is due again
-- and asks the questions that wait in the shards.
pub record LaneTurn (d : Desk) (t : Turn) : Type 0 where
  pub hears : Hears d.lane t.answers t.heard
  pub times_out : TimesOut t.moment (timeouts_most d t) t.heard t.timed t.waited
  pub settles : SettlesLane t.moment t.waited (after_round d (items_of d t) t.round).shards d.handed d.seed (d.drawn + length (new_items d t)) t.requests t.lane t.handed
  pub due : IsDeadline t.lane.client.auth.places t.deadline

-- The records of a round: a Stop of each of its Stops, and then a Start of each of its Starts, each of one of the terms that the shards had
-- once all entries were handled. And then an Interim of each live term that owes one, unless its last one is open still; it is taken all
-- the same.
pub record AreOfRound (shards : List (ShardView ShardState Entry)) (moment wall : ℕ) (round : Round) (reports reports' : List Reports) (b : BillingState) (formed : List FormedRecord) (b' : BillingState) : Type 0 where
  pub stops : List FormedRecord
  pub starts : List FormedRecord
  pub interims : List FormedRecord
  pub are : formed ≡ stops ++ (starts ++ interims)
  pub are_stops : AllZip (IsStopOf (terms_in (handled_states shards round.shards)) moment wall) (stops_of round) stops
  pub are_starts : AllZip (IsStartOf (news_in (handled_states shards round.shards)) moment wall) (starts_of round) starts
  pub started : BillingState
  pub forms : Forms b (stops ++ starts) started
  pub reported : FormsInterims (terms_in (map (λ v. v.state) round.shards)) moment wall started (owed_by moment round.shards reports) interims b'
  pub taken : Zip3 (TakesInterims moment) round.shards reports reports'

-- no record is formed and no Interim is taken where it was not opened
abbrev pub FormsRecords : List (ShardView ShardState Entry) → ℕ → ℕ → Option Round → List Reports → List Reports → BillingState → List FormedRecord → BillingState → Type 0
FormsRecords shards moment wall None reports reports' b formed b' = (formed ≡ []) × (reports' ≡ reports) × (b' ≡ b)
FormsRecords shards moment wall (Some round) reports reports' b formed b' = AreOfRound shards moment wall round reports reports' b formed b'

-- Accounting in a turn while serving: it hears Acct; what it has room for then is what the shards are allowed of new terms; in the
-- settlement the records of the round are formed, and then it sends what is due again and the records that wait.
pub record BillingTurn (d : Desk) (t : Turn) : Type 0 where
  pub heard : BillingState
  pub hears : HearsRecords d.billing t.acknowledged heard
  pub allows : Allows heard d.shards t.round
  pub booked : BillingState
  pub forms : Forms heard t.formed booked
  pub of_round : FormsRecords d.shards t.moment t.wall t.round d.reports t.reports heard t.formed booked
  pub settles : SettlesRecords t.moment booked t.records t.billing
  pub due : IsDeadline (places_of t.billing) t.record_deadline

-- A turn that wanted memory is None: it counts as a turn, and all else is as before.
abbrev pub Step : Desk → Option Turn → Desk → Type 0
Step d None d' = d' ≡ record d { turns = d.turns + 1 }
Step d (Some t) d' = IsReading d t × RoundOf d t.moment (items_of d t) t.round × LaneTurn d t × BillingTurn d t × CoaTurn d t × (d' ≡ after d t)

-- the milliseconds from a moment to a deadline: 0 where that is past, 100 at most and where there is none
abbrev pub wait_for : Option ℕ → ℕ → ℕ
wait_for None moment = 100
wait_for (Some deadline) moment = min (deadline - moment) 100

-- the earliest deadline of all shards
abbrev pub deadline_in : List (ShardView ShardState Entry) → Option ℕ
deadline_in shards = fold (λ a (v : ShardView ShardState Entry). earliest a (deadline_of v.state)) None shards

abbrev pub arrivals_in : List DataReading → List Arrival
arrivals_in readings = flat_map (λ r. r.arrivals) readings

-- no datagram was taken
abbrev pub is_idle : Turn → Bool
is_idle t = is_empty t.control && is_empty t.acknowledged && is_empty t.requested && is_empty t.answers && is_empty (arrivals_in t.readings)

-- a turn that took no datagram ends with one wait, unless the trace failed
abbrev pub waits : Bool → ℕ → List Heard
waits true ms = Wait ms ∷ []
waits false ms = []

abbrev pub waiting_stretch : Bool → ℕ → PlantStretch
waiting_stretch idle ms = record { heard = waits idle ms; taken = []; sent = []; failed = 0 }

-- what the reading of a role adds
abbrev pub reading_stretch : DataReading → PlantStretch
reading_stretch r = plant_joined (record { heard = receives r.role r.arrivals; taken = taken_in r.role r.arrivals; sent = []; failed = 0 }) (ending_stretch r.role r.ended)

-- what these readings add, one after the other
abbrev pub data_stretch : List DataReading → PlantStretch
data_stretch [] = plant_none
data_stretch (r ∷ rs) = plant_joined (reading_stretch r) (data_stretch rs)

-- what the reading of Coa adds, where it was read, and so of Auth
abbrev pub asked_stretch : List Requested → Option ReadEnd → PlantStretch
asked_stretch requested None = plant_none
asked_stretch requested (Some ended) = reading_stretch (coa_reading requested ended)

abbrev pub auth_stretch : List Answered → Option ReadEnd → PlantStretch
auth_stretch answers None = plant_none
auth_stretch answers (Some ended) = reading_stretch (auth_reading answers ended)

-- what the sends of the round add
abbrev pub round_stretch : Option Round → PlantStretch
round_stretch None = plant_none
round_stretch (Some round) = sends_stretch (all_sends round.shards)

-- what the trace is told: its number is one more than that of the last round that it took
abbrev pub round_told : Desk → ℕ → ℕ → List Item → Option Round → RoundRecord
round_told d moment wall items None = refused_record (d.told + 1) moment wall (length d.shards) items
round_told d moment wall items (Some round) = record_of (d.told + 1) moment wall (items ∷ []) round

abbrev pub told_if : Bool → RoundRecord → List RoundRecord
told_if true r = r ∷ []
told_if false r = []

-- what the phases of a turn add to what the plant tells, in their order
abbrev pub plant_stretch : Desk → Turn → PlantStretch
plant_stretch d t =
    plant_joined (control_stretch (stats_text d) t.control t.control_end)
    (plant_joined (reading_stretch (acct_reading t.acknowledged t.acct_end))
    (plant_joined (asked_stretch t.requested t.coa_end)
    (plant_joined (auth_stretch t.answers t.auth_end)
    (plant_joined (data_stretch t.readings)
    (plant_joined (round_stretch t.round)
    (plant_joined (coa_stretch (coa_sends t.replies))
    (plant_joined (requests_stretch d.lane.client.auth_server t.requests)
    (plant_joined (records_stretch d.billing.client.acct_server t.records)
    (waiting_stretch (is_idle t && t.noted) (wait_for (earliest (deadline_in (after d t).shards) (earliest t.deadline t.record_deadline)) t.moment))))))))))

-- what a turn adds to what the outside tells
abbrev pub stretch_of : Desk → Option Turn → Stretch
stretch_of d None = no_stretch
stretch_of d (Some t) = record {
  plant = plant_stretch d t;
  answers = Now t.moment ∷ Wall t.wall ∷ [];
  rounds = told_if t.noted (round_told d t.moment t.wall (items_of d t) t.round);
  unnoted = not t.noted;
}

abbrev pub answer_if : Bool → Turned
answer_if true = Ok
answer_if false = TraceFault

-- what the call answers
abbrev pub turned_of : Option Turn → Turned
turned_of None = WantOfMemory
turned_of (Some t) = answer_if t.noted

-- while the desk serves, a call of `turn` is one turn
pub record MakesTurn (d d' : Desk) (o o' : Outside) (result : Turned) : Type 0 where
  pub turn : Option Turn
  pub answer : result ≡ turned_of turn
  pub step : Step d turn d'
  pub told : Extends o o' (stretch_of d turn)
  pub moment : d'.moment ≤ o'.clock.last

-- Ending ----------------------------------------------------------------------------------------------------------------

-- a turn of the ending: its moments, its round of Ends, the replies to requests for changes that stayed, the requests that were sent,
-- whether the trace took the round, which requests for changes are in hand then and which replies are kept, and how the lane stands then,
-- with the questions that were handed out; the records that were formed, their requests, and how accounting stands then, with the Interims
-- that were taken
pub record EndTurn : Type 0 where
  pub moment : ℕ
  pub wall : ℕ
  pub round : Option Round
  pub replies : CoaReplies
  pub requests : Requests
  pub noted : Bool
  pub coa : CoaState
  pub lane : LaneState
  pub handed : List (List ℕ)
  pub formed : List FormedRecord
  pub records : RecordRequests
  pub billing : BillingState
  pub reports : List Reports

-- whether a round was opened
abbrev pub is_opened : Option Round → Bool
is_opened None = false
is_opened (Some round) = true

abbrev pub after_end : Desk → EndTurn → Desk
after_end d t = record (after_round d (ending_items d) t.round) {
  drawn = d.drawn + ending_draws d + length t.requests.asked;
  moment = t.moment;
  told = told_after t.noted d.told;
  lane = t.lane;
  handed = t.handed;
  billing = t.billing;
  reports = t.reports;
  coa = t.coa;
  endings = d.endings + 1;
  unopened = (if is_opened t.round then 0 else d.unopened + 1);
  closed = d.closed || is_opened t.round;
  closing = (if is_opened t.round then t.moment else d.closing);
}

-- the lane in a turn of the ending: its settlement alone
abbrev pub LaneEnd : Desk → EndTurn → Type 0
LaneEnd d t = SettlesLane t.moment d.lane (after_round d (ending_items d) t.round).shards d.handed d.seed (d.drawn + ending_draws d) t.requests t.lane t.handed

-- requests for changes in a turn of the ending: its settlement alone, and none is repeated
abbrev pub CoaEnd : Desk → EndTurn → Type 0
CoaEnd d t = SettlesCoa d.rules [] (loose_of (ending_items d) t.round) (answers_of t.round) d.coa t.replies t.coa

-- once no session is left, Starts and Interims are sent no longer and their identifiers are free
abbrev pub Closes : Bool → BillingState → BillingState → Type 0
Closes false b b' = b' ≡ b
Closes true b b' = StopsOnly b b'

-- Accounting in a turn of the ending: its settlement, and where no session is left after it, all but Stops are forgotten.
pub record BillingEnd (d : Desk) (t : EndTurn) : Type 0 where
  pub allows : Allows d.billing d.shards t.round
  pub booked : BillingState
  pub forms : Forms d.billing t.formed booked
  pub of_round : FormsRecords d.shards t.moment t.wall t.round d.reports t.reports d.billing t.formed booked
  pub settled : BillingState
  pub settles : SettlesRecords t.moment booked t.records settled
  pub closes : Closes (has_ended (after_end d t)) settled t.billing

-- A turn that wanted memory is None: it counts as one that opened no round.
abbrev pub EndStep : Desk → Option EndTurn → Desk → Type 0
EndStep d None d' = d' ≡ record d { endings = d.endings + 1; unopened = d.unopened + 1 }
EndStep d (Some t) d' = (d.moment ≤ t.moment) × RoundOf d t.moment (ending_items d) t.round × LaneEnd d t × BillingEnd d t × CoaEnd d t × (d' ≡ after_end d t)

-- it reads its moments, sends what the round has to send and tells the trace, and takes nothing and does not wait
abbrev pub end_stretch : Desk → Option EndTurn → Stretch
end_stretch d None = no_stretch
end_stretch d (Some t) = record {
  plant = plant_joined (round_stretch t.round) (plant_joined (coa_stretch (coa_sends t.replies)) (plant_joined (requests_stretch d.lane.client.auth_server t.requests) (records_stretch d.billing.client.acct_server t.records)));
  answers = Now t.moment ∷ Wall t.wall ∷ [];
  rounds = told_if t.noted (round_told d t.moment t.wall (ending_items d) t.round);
  unnoted = not t.noted;
}

abbrev pub end_turned : Option EndTurn → Turned
end_turned None = WantOfMemory
end_turned (Some t) = answer_if t.noted

-- while the desk ends, a call of `turn` is one turn of the ending
pub record MakesEnd (d d' : Desk) (o o' : Outside) (result : Turned) : Type 0 where
  pub turn : Option EndTurn
  pub answer : result ≡ end_turned turn
  pub step : EndStep d turn d'
  pub told : Extends o o' (end_stretch d turn)
  pub moment : d'.moment ≤ o'.clock.last

-- The grace --------------------------------------------------------------------------------------------------------------

-- A turn of the grace: its moments, what was taken from Acct and how its reading ended, the requests that were sent, and how accounting
-- stands then, with its first deadline.
pub record GraceTurn : Type 0 where
  pub moment : ℕ
  pub wall : ℕ
  pub acknowledged : List Acknowledged
  pub acct_end : ReadEnd
  pub records : RecordRequests
  pub billing : BillingState
  pub record_deadline : Option ℕ

abbrev pub after_grace : Desk → GraceTurn → Desk
after_grace d t = record d { moment = t.moment; billing = t.billing; graces = d.graces + 1 }

-- Acct alone is read, at most 128 times; then the requests that are due are sent again, and the Stops that wait are sent.
pub record GraceStep (d : Desk) (t : GraceTurn) (d' : Desk) : Type 0 where
  pub moment : d.moment ≤ t.moment
  pub acct : EndsRight acknowledged_most (length t.acknowledged) t.acct_end
  pub heard : BillingState
  pub hears : HearsRecords d.billing t.acknowledged heard
  pub settles : SettlesRecords t.moment heard t.records t.billing
  pub due : IsDeadline (places_of t.billing) t.record_deadline
  pub after : d' ≡ after_grace d t

-- a turn of the grace that took no datagram ends with one wait, until a request is due or the grace ends
abbrev pub grace_stretch : Desk → GraceTurn → Stretch
grace_stretch d t = record {
  plant =
      plant_joined (reading_stretch (acct_reading t.acknowledged t.acct_end))
      (plant_joined (records_stretch d.billing.client.acct_server t.records)
      (waiting_stretch (is_empty t.acknowledged) (wait_for (earliest t.record_deadline (Some (d.closing + grace_most))) t.moment)));
  answers = Now t.moment ∷ Wall t.wall ∷ [];
  rounds = [];
  unnoted = false;
}

-- in its grace a call of `turn` is one turn of the grace; it takes no memory and tells the trace nothing
pub record MakesGrace (d d' : Desk) (o o' : Outside) (result : Turned) : Type 0 where
  pub turn : GraceTurn
  pub answer : result ≡ Ok
  pub step : GraceStep d turn d'
  pub told : Extends o o' (grace_stretch d turn)
  pub moment : d'.moment ≤ o'.clock.last

-- when all is over, it does nothing
pub record DoesNothing (d d' : Desk) (o o' : Outside) (result : Turned) : Type 0 where
  pub answer : result ≡ Ok
  pub desk : d' ≡ d
  pub told : o' ≡ o

-- What a run did with accounting (RFC 2866): the records that were formed, the requests that went out for them, and what acknowledged
-- them.
use Rattle.std.specs.Prelude.{◌≡◌, ℕ, Bool, true, false, List, [], ◌∷◌, ◌++◌, Option, Some, None, map, if◌then◌else◌}
use Rattle.std.specs.List.{AllZip, flat_map}
use Rattle.bng_acct.specs.declared.facts.StatusType.TheVariants.{Start, Stop as OfStop}
use Rattle.bng_base.specs.declared.address.Peer.{Peer}
use Rattle.bng_base.specs.declared.outside.Datagram.{Datagram}
use Rattle.bng_base.specs.declared.outside.Role.TheVariants.{Acct}
use Rattle.bng_base.specs.Books.{empty_book}
use Rattle.bng_base.specs.Chain.{Chain}
use Rattle.bng_billing.specs.Answered.{AreAnswered}
use Rattle.bng_billing.specs.Calls.{BillingCall, Formed, Given, Again, Told, Heard, Stopped, Does}
use Rattle.bng_billing.specs.State.{BillingState, IsNewBilling}
use Rattle.bng_config.specs.declared.config.Config.{Config}
use Rattle.bng_engine.specs.Histories.{ShardTurn, stops_in}
use Rattle.bng_engine.specs.Terms.{Key, Stop}
use Rattle.bng_lane.specs.Sends.{LaneSend}
use Rattle.bng_steps.specs.Protocol.{Handled}
use Rattle.bng_desk.specs.Accounting.{Acknowledged, FormedRecord, RecordSend, RecordRequests}
use Rattle.bng_desk.specs.Model.{Desk, has_ended}
use Rattle.bng_desk.specs.Opening.{billing_rules}
use Rattle.bng_desk.specs.Turn.{Turn, after_end}
use Rattle.bng_gate.specs.Rounds.{on_acct, rounds_of}
use Rattle.bng_gate.specs.Serving.{Made, MadeEnd, Late, Ends, Waits}

-- The records that were formed in the turns, in their order ----------------------------------------------------------------------

abbrev pub formed_in : Option Turn → List FormedRecord
formed_in None = []
formed_in (Some t) = t.formed

abbrev pub end_formed_in : Late → List FormedRecord
end_formed_in (Ends None) = []
end_formed_in (Ends (Some t)) = t.formed
end_formed_in (Waits t) = []

abbrev pub formed_of : List Made → List MadeEnd → List FormedRecord
formed_of turns endings = flat_map (λ m. formed_in m.turn) turns ++ flat_map (λ m. end_formed_in m.turn) endings

-- The record is the Stop of this term: it has the term's key, the octets and packets that the term carried, and the cause.
pub record SaysStop (s : Stop) (f : FormedRecord) : Type 0 where
  pub status : f.status ≡ OfStop
  pub term : f.facts.term ≡ s.key.term
  pub circuit : f.facts.circuit ≡ s.key.circuit
  pub address : f.facts.address ≡ s.key.address
  pub carried : f.facts.carried ≡ s.carried
  pub cause : f.moment.cause ≡ s.cause

-- The record is the Start of a term: it has the term's key, and nothing was carried.
pub record SaysStart (k : Key) (f : FormedRecord) : Type 0 where
  pub status : f.status ≡ Start
  pub term : f.facts.term ≡ k.term
  pub circuit : f.facts.circuit ≡ k.circuit
  pub address : f.facts.address ≡ k.address
  pub carried : f.facts.carried ≡ empty_book

-- what is formed of a round: a Stop of each of its Stops, in their order, and then a Start of each of its Starts, and then these Interims
pub record SaysRound (ts : List (ShardTurn Handled)) (interims formed : List FormedRecord) : Type 0 where
  pub stops : List FormedRecord
  pub starts : List FormedRecord
  pub are : formed ≡ stops ++ (starts ++ interims)
  pub are_stops : AllZip SaysStop (stops_in ts) stops
  pub are_starts : AllZip SaysStart (flat_map (λ (t : ShardTurn Handled). t.settlement.starts) ts) starts

-- round after round, with the Interims of each
abbrev pub SayRounds : List (List (ShardTurn Handled)) → List (List FormedRecord) → List FormedRecord → Type 0
SayRounds [] [] formed = formed ≡ []
SayRounds [] (is ∷ interims) formed = ⊥
SayRounds (ts ∷ rounds) [] formed = ⊥
SayRounds (ts ∷ rounds) (is ∷ interims) formed = (first : List FormedRecord) × (rest : List FormedRecord) × (formed ≡ first ++ rest) × SaysRound ts is first × SayRounds rounds interims rest

-- The calls of accounting ---------------------------------------------------------------------------------------------------------

abbrev pub formed_call : FormedRecord → BillingCall
formed_call f = Formed f.status f.facts f.moment f.number

abbrev pub heard_call : Acknowledged → BillingCall
heard_call a = Heard a.arrival.from a.arrival.octets a.found

-- a request was given out again, and the outside told whether it sent it
abbrev pub again_calls : (moment : ℕ) → LaneSend → List BillingCall
again_calls moment s = Again moment s.id s.octets ∷ Told s.id s.sent ∷ []

-- and so the first time
abbrev pub given_calls : (moment : ℕ) → RecordSend → List BillingCall
given_calls moment r = Given moment r.number r.send.id r.send.octets ∷ Told r.send.id r.send.sent ∷ []

abbrev pub request_calls : (moment : ℕ) → RecordRequests → List BillingCall
request_calls moment q = flat_map (again_calls moment) q.again ++ flat_map (given_calls moment) q.given

-- those of a turn: it hears Acct, forms the records of its round's Stops, and then gives requests out
abbrev pub calls_in : Option Turn → List BillingCall
calls_in None = []
calls_in (Some t) = map heard_call t.acknowledged ++ (map formed_call t.formed ++ request_calls t.moment t.records)

-- once no session is left, all but Stops are forgotten
abbrev pub stopped_if : (none_left : Bool) → List BillingCall
stopped_if false = []
stopped_if true = Stopped ∷ []

-- One of the ending hears nothing: it forms the records of its round's Stops and gives requests out, and where no session is left after
-- it, all but Stops are forgotten. One of the grace hears Acct, and gives requests out.
abbrev pub end_calls_in : Desk → Late → List BillingCall
end_calls_in d (Ends None) = []
end_calls_in d (Ends (Some t)) = map formed_call t.formed ++ (request_calls t.moment t.records ++ stopped_if (has_ended (after_end d t)))
end_calls_in d (Waits t) = map heard_call t.acknowledged ++ request_calls t.moment t.records

-- those of a run: the Starts of the opening, and then the turns
abbrev pub calls_of : List FormedRecord → List Made → List MadeEnd → List BillingCall
calls_of starts turns endings = map formed_call starts ++ (flat_map (λ m. calls_in m.turn) turns ++ flat_map (λ m. end_calls_in m.desk m.turn) endings)

-- What the calls say was sent and taken -------------------------------------------------------------------------------------------

-- the octets that a call gave out, where the next call tells that they were sent
abbrev pub sent_to : Peer → (octets : List ℕ) → (next : List BillingCall) → List Datagram
sent_to server octets [] = []
sent_to server octets (Formed status facts moment n ∷ next) = []
sent_to server octets (Given now n id more ∷ next) = []
sent_to server octets (Again now id more ∷ next) = []
sent_to server octets (Told id sent ∷ next) = if sent then record { role = Acct; peer = server; octets = octets } ∷ [] else []
sent_to server octets (Heard from more found ∷ next) = []
sent_to server octets (Stopped ∷ next) = []

abbrev pub sent_for : Peer → BillingCall → (next : List BillingCall) → List Datagram
sent_for server (Formed status facts moment n) next = []
sent_for server (Given now n id octets) next = sent_to server octets next
sent_for server (Again now id octets) next = sent_to server octets next
sent_for server (Told id sent) next = []
sent_for server (Heard from octets found) next = []
sent_for server Stopped next = []

-- the requests that were given out and sent to this server, each once for each time that it was
abbrev pub sent_by_calls : Peer → List BillingCall → List Datagram
sent_by_calls server [] = []
sent_by_calls server (c ∷ calls) = sent_for server c calls ++ sent_by_calls server calls

abbrev pub taken_for : BillingCall → List Datagram
taken_for (Formed status facts moment n) = []
taken_for (Given now n id octets) = []
taken_for (Again now id octets) = []
taken_for (Told id sent) = []
taken_for (Heard from octets found) = record { role = Acct; peer = from; octets = octets } ∷ []
taken_for Stopped = []

-- The law -------------------------------------------------------------------------------------------------------------------------

-- Accounting was opened for the configured server and secret, at this second of the wall. The Starts of the opening and what the turns
-- did lead from there to how it stands in the end (`calls`). The records that the turns formed are those of the rounds, in their order: a Stop
-- for each Stop, with its octets and packets, and then a Start for each Start, and then the round's Interims (`formed`). What was sent on Acct, each datagram once and in order, are the
-- Accounting-Requests that were given out and sent, to the configured server (`requests`), and what was taken from Acct, so too, is what
-- was heard (`heard`). Each datagram that acknowledges a record comes from the configured server, and is one
-- Accounting-Response, signed for the Accounting-Request of that record, which was formed before and was given out and sent since
-- (`answered`).
pub record Recorded (config : Config) (wall : ℕ) (starts : List FormedRecord) (turns : List Made) (endings : List MadeEnd) (last : Desk) (taken sent : List Datagram) : Type 0 where
  pub opened : BillingState
  pub is_new : IsNewBilling (billing_rules config wall) opened
  pub calls : Chain Does opened (calls_of starts turns endings) last.billing
  pub interims : List (List FormedRecord)
  pub formed : SayRounds (rounds_of turns endings) interims (formed_of turns endings)
  pub requests : on_acct sent ≡ sent_by_calls config.acct_server (calls_of starts turns endings)
  pub heard : on_acct taken ≡ flat_map taken_for (calls_of starts turns endings)
  pub answered : AreAnswered (billing_rules config wall) (calls_of starts turns endings)

-- What the turns of a run tell: what they took for tunnels, on the access ports and from the core, and what their rounds sent.
use Rattle.std.proofs.Common.{◌≡◌, ℕ, zero, suc, ◌+◌, Bool, true, false, cond, List, [], ◌∷◌, ◌++◌, map, length, Option, Some, None, refl, sym, ap, subst, ◌∙◌, append-nil, ◌≤◌, arith}
use Rattle.std.specs.Prelude.{filter, if◌then◌else◌}
use Rattle.std.specs.List.{AllByRecursion, count_by, flat_map, range_with_len}
use Rattle.std.proofs.lemmas.List.Concat.{flat_map-append}
use Rattle.std.proofs.lemmas.List.Elements.{filter-append}
use Rattle.std.proofs.lemmas.List.Folds.{flat_map-map}
use Rattle.std.proofs.lemmas.List.Sums.{sum_by-append}
use Rattle.bng_base.specs.declared.address.Peer.{Peer}
use Rattle.bng_base.specs.declared.item.OutRecord.{OutRecord}
use Rattle.bng_base.specs.declared.outside.Datagram.{Datagram}
use Rattle.bng_base.specs.declared.outside.Role.{Role}
use Rattle.bng_base.specs.declared.outside.Role.TheVariants.{Access, Auth, Acct, Coa, Core, Control}
use Rattle.bng_base.specs.FateOf.{Arrival}
use Rattle.bng_engine.specs.Calls.{all_sends}
use Rattle.bng_engine.specs.Histories.{ShardTurn}
use Rattle.bng_engine.specs.Laws.{sends_of}
use Rattle.bng_engine.specs.Lists.{one_if}
use Rattle.bng_engine.specs.Views.{turn_in}
use Rattle.bng_engine.specs.Wire.{went}
use Rattle.bng_engine.proofs.Wire.{went_append}
use Rattle.bng_lane.specs.Sends.{LaneSend}
use Rattle.bng_steps.specs.Protocol.{Handled}
use Rattle.bng_desk.specs.declared.reading.ReadEnd.{ReadEnd}
use Rattle.bng_desk.specs.Accounting.{Acknowledged, RecordRequests, record_datagram, record_sends, records_stretch}
use Rattle.bng_desk.specs.Coa.{CoaReplies, CoaSend, Requested, coa_datagram, coa_sends, coa_stretch}
use Rattle.bng_desk.specs.Control.{Heeded, reply, is_answered}
use Rattle.bng_desk.specs.Items.{DataReading}
use Rattle.bng_desk.specs.Logins.{Answered, Requests, lane_datagram, lane_sends, requests_stretch}
use Rattle.bng_desk.specs.Model.{Desk}
use Rattle.bng_desk.specs.Reading.{taken_in}
use Rattle.bng_desk.specs.Report.{stats_text}
use Rattle.bng_desk.specs.Round.{Round, not_sent}
use Rattle.bng_desk.specs.Turn.{Turn, EndTurn, GraceTurn, Step, tunnel_roles, asked_stretch, auth_stretch, data_stretch, round_stretch, stretch_of, end_stretch, grace_stretch}
use Rattle.bng_gate.specs.Rounds.{round_in, end_round_in, rounds_in, turns_of, rounds_of, plant_of, carries_data, on_data, readings_in, readings_of, requests_in, end_requests_in, requests_of, records_in, end_records_in, records_of, replies_in, end_replies_in, replies_of, is_unsent, is_lost}
use Rattle.bng_gate.specs.Serving.{Made, MadeEnd, Late, Ends, Waits, Run, late_stretch, run_stretch, ending_stretch}

on_data_append : (a b : List Datagram) → on_data (a ++ b) ≡ on_data a ++ on_data b
on_data_append a b = filter-append (λ (d : Datagram). carries_data d.role) a b

-- What the rounds sent --------------------------------------------------------------------------------------------------

abbrev pub sends_in : Option Round → List OutRecord
sends_in None = []
sends_in (Some round) = all_sends round.shards

pub sends_are : (rounds : List (Option Round)) → sends_of (flat_map turns_of rounds) ≡ flat_map sends_in rounds
sends_are [] = refl
sends_are (None ∷ rounds) = sends_are rounds
sends_are (Some round ∷ rounds) =
    ap (λ (os : List OutRecord). os ++ sends_of (flat_map turns_of rounds)) (flat_map-map (λ (t : ShardTurn Handled). t.settlement.sends) turn_in round.shards)
    ∙ ap (λ (os : List OutRecord). all_sends round.shards ++ os) (sends_are rounds)

no_answers : (stats : List ℕ) (hs : List Heeded) → on_data (map (reply stats) hs) ≡ []
no_answers stats [] = refl
no_answers stats (h ∷ hs) = no_answers stats hs

none_sent : (readings : List DataReading) → (data_stretch readings).sent ≡ []
none_sent [] = refl
none_sent (r ∷ rs) = none_sent rs

round_sent : (round : Option Round) → (round_stretch round).sent ≡ went (sends_in round)
round_sent None = refl
round_sent (Some round) = refl

none_to_coa : (requested : List Requested) (ended : Option ReadEnd) → (asked_stretch requested ended).sent ≡ []
none_to_coa requested None = refl
none_to_coa requested (Some ended) = refl

none_to_auth : (answers : List Answered) (ended : Option ReadEnd) → (auth_stretch answers ended).sent ≡ []
none_to_auth answers None = refl
none_to_auth answers (Some ended) = refl

-- a reply to a request for a change goes out on Coa
one_reply : (to : Peer) (octets : List ℕ) (b : Bool) (ds : List Datagram) → on_data ((if b then record { role = Coa; peer = to; octets = octets } ∷ [] else []) ++ ds) ≡ on_data ds
one_reply to octets true ds = refl
one_reply to octets false ds = refl

no_replies : (ss : List CoaSend) → on_data (flat_map coa_datagram ss) ≡ []
no_replies [] = refl
no_replies (s ∷ ss) = one_reply s.reply.to s.reply.octets s.sent (flat_map coa_datagram ss) ∙ no_replies ss

-- a request goes out on Auth
one_request : (server : Peer) (octets : List ℕ) (b : Bool) (ds : List Datagram) → on_data ((if b then record { role = Auth; peer = server; octets = octets } ∷ [] else []) ++ ds) ≡ on_data ds
one_request server octets true ds = refl
one_request server octets false ds = refl

no_requests : (server : Peer) (ss : List LaneSend) → on_data (flat_map (lane_datagram server) ss) ≡ []
no_requests server [] = refl
no_requests server (s ∷ ss) = one_request server s.octets s.sent (flat_map (lane_datagram server) ss) ∙ no_requests server ss

-- and one of accounting on Acct
one_record : (server : Peer) (octets : List ℕ) (b : Bool) (ds : List Datagram) → on_data ((if b then record { role = Acct; peer = server; octets = octets } ∷ [] else []) ++ ds) ≡ on_data ds
one_record server octets true ds = refl
one_record server octets false ds = refl

no_records : (server : Peer) (ss : List LaneSend) → on_data (flat_map (record_datagram server) ss) ≡ []
no_records server [] = refl
no_records server (s ∷ ss) = one_record server s.octets s.sent (flat_map (record_datagram server) ss) ∙ no_records server ss

-- the replies of a turn to requests for changes, its requests, and those of accounting
abbrev pub requested : Desk → CoaReplies → Requests → RecordRequests → List Datagram
requested d c q r = flat_map coa_datagram (coa_sends c) ++ (flat_map (lane_datagram d.lane.client.auth_server) (lane_sends q) ++ flat_map (record_datagram d.billing.client.acct_server) (record_sends r))

beside_requested : (ds : List Datagram) (d : Desk) (c : CoaReplies) (q : Requests) (r : RecordRequests) → on_data (ds ++ requested d c q r) ≡ on_data ds
beside_requested ds d c q r =
    let replies = flat_map coa_datagram (coa_sends c) in
    let asked = flat_map (lane_datagram d.lane.client.auth_server) (lane_sends q) in
    let records = flat_map (record_datagram d.billing.client.acct_server) (record_sends r) in
    on_data_append ds (replies ++ (asked ++ records))
    ∙ ap (λ (rest : List Datagram). on_data ds ++ rest) (on_data_append replies (asked ++ records))
    ∙ ap (λ (rest : List Datagram). on_data ds ++ (rest ++ on_data (asked ++ records))) (no_replies (coa_sends c))
    ∙ ap (λ (rest : List Datagram). on_data ds ++ rest) (on_data_append asked records)
    ∙ ap (λ (rest : List Datagram). on_data ds ++ (rest ++ on_data records)) (no_requests d.lane.client.auth_server (lane_sends q))
    ∙ ap (λ (rest : List Datagram). on_data ds ++ rest) (no_records d.billing.client.acct_server (record_sends r))
    ∙ append-nil (on_data ds)

-- what a turn sends: the answers on Control, what its round had to send, its replies, its requests, and those of accounting
pub turn_out : (d : Desk) (t : Turn) → (stretch_of d (Some t)).plant.sent ≡ map (reply (stats_text d)) (filter is_answered t.control) ++ (went (sends_in t.round) ++ requested d t.replies t.requests t.records)
turn_out d t =
    let answers = map (reply (stats_text d)) (filter is_answered t.control) in
    let coa = (asked_stretch t.requested t.coa_end).sent in
    let auth = (auth_stretch t.answers t.auth_end).sent in
    let data' = (data_stretch t.readings).sent in
    let replies = flat_map coa_datagram (coa_sends t.replies) in
    let asked = flat_map (lane_datagram d.lane.client.auth_server) (lane_sends t.requests) in
    let records = flat_map (record_datagram d.billing.client.acct_server) (record_sends t.records) in
    let settled = (round_stretch t.round).sent ++ (replies ++ (asked ++ (records ++ []))) in
    ap (λ (ds : List Datagram). ds ++ (coa ++ (auth ++ (data' ++ settled)))) (append-nil answers)
    ∙ ap (λ (ds : List Datagram). answers ++ (ds ++ (auth ++ (data' ++ settled)))) (none_to_coa t.requested t.coa_end)
    ∙ ap (λ (ds : List Datagram). answers ++ (ds ++ (data' ++ settled))) (none_to_auth t.answers t.auth_end)
    ∙ ap (λ (ds : List Datagram). answers ++ (ds ++ settled)) (none_sent t.readings)
    ∙ ap (λ (ds : List Datagram). answers ++ (ds ++ (replies ++ (asked ++ (records ++ []))))) (round_sent t.round)
    ∙ ap (λ (ds : List Datagram). answers ++ (went (sends_in t.round) ++ (replies ++ (asked ++ ds)))) (append-nil records)

-- and one of the ending
pub end_out : (d : Desk) (t : EndTurn) → (end_stretch d (Some t)).plant.sent ≡ went (sends_in t.round) ++ requested d t.replies t.requests t.records
end_out d t = ap (λ (ds : List Datagram). ds ++ requested d t.replies t.requests t.records) (round_sent t.round)

-- and one of the grace: the requests of accounting alone
pub grace_out : (d : Desk) (t : GraceTurn) → (grace_stretch d t).plant.sent ≡ flat_map (record_datagram d.billing.client.acct_server) (record_sends t.records)
grace_out d t = append-nil (flat_map (record_datagram d.billing.client.acct_server) (record_sends t.records))

turn_sent : (d : Desk) (t : Option Turn) → on_data (stretch_of d t).plant.sent ≡ on_data (went (sends_in (round_in t)))
turn_sent d None = refl
turn_sent d (Some t) =
    let rest = went (sends_in t.round) ++ requested d t.replies t.requests t.records in
    ap on_data (turn_out d t)
    ∙ on_data_append (map (reply (stats_text d)) (filter is_answered t.control)) rest
    ∙ ap (λ (ds : List Datagram). ds ++ on_data rest) (no_answers (stats_text d) (filter is_answered t.control))
    ∙ beside_requested (went (sends_in t.round)) d t.replies t.requests t.records

end_sent : (d : Desk) (t : Late) → on_data (late_stretch d t).plant.sent ≡ on_data (went (sends_in (end_round_in t)))
end_sent d (Ends None) = refl
end_sent d (Waits t) = ap on_data (grace_out d t) ∙ no_records d.billing.client.acct_server (record_sends t.records)
end_sent d (Ends (Some t)) = ap on_data (end_out d t) ∙ beside_requested (went (sends_in t.round)) d t.replies t.requests t.records

turns_sent : (turns : List Made) → on_data (run_stretch turns).plant.sent ≡ on_data (went (flat_map sends_in (map (λ m. round_in m.turn) turns)))
turns_sent [] = refl
turns_sent (m ∷ turns) =
    let here = went (sends_in (round_in m.turn)) in
    let later = flat_map sends_in (map (λ (x : Made). round_in x.turn) turns) in
    on_data_append (stretch_of m.desk m.turn).plant.sent (run_stretch turns).plant.sent
    ∙ ap (λ (ds : List Datagram). ds ++ on_data (run_stretch turns).plant.sent) (turn_sent m.desk m.turn)
    ∙ ap (λ (ds : List Datagram). on_data here ++ ds) (turns_sent turns)
    ∙ sym (ap on_data (went_append (sends_in (round_in m.turn)) later) ∙ on_data_append here (went later))

endings_sent : (endings : List MadeEnd) → on_data (ending_stretch endings).plant.sent ≡ on_data (went (flat_map sends_in (map (λ m. end_round_in m.turn) endings)))
endings_sent [] = refl
endings_sent (m ∷ endings) =
    let here = went (sends_in (end_round_in m.turn)) in
    let later = flat_map sends_in (map (λ (x : MadeEnd). end_round_in x.turn) endings) in
    on_data_append (late_stretch m.desk m.turn).plant.sent (ending_stretch endings).plant.sent
    ∙ ap (λ (ds : List Datagram). ds ++ on_data (ending_stretch endings).plant.sent) (end_sent m.desk m.turn)
    ∙ ap (λ (ds : List Datagram). on_data here ++ ds) (endings_sent endings)
    ∙ sym (ap on_data (went_append (sends_in (end_round_in m.turn)) later) ∙ on_data_append here (went later))

-- what was sent on the access ports, to the core and to the other ends of tunnels are the datagrams of the rounds
pub sent_are : (turns : List Made) (endings : List MadeEnd) → on_data (plant_of turns endings).sent ≡ on_data (went (sends_of (rounds_of turns endings)))
sent_are turns endings =
    let serving = map (λ (m : Made). round_in m.turn) turns in
    let ending = map (λ (m : MadeEnd). end_round_in m.turn) endings in
    on_data_append (run_stretch turns).plant.sent (ending_stretch endings).plant.sent
    ∙ ap (λ (ds : List Datagram). ds ++ on_data (ending_stretch endings).plant.sent) (turns_sent turns)
    ∙ ap (λ (ds : List Datagram). on_data (went (flat_map sends_in serving)) ++ ds) (endings_sent endings)
    ∙ sym (ap (λ (os : List OutRecord). on_data (went os)) (sends_are (rounds_in turns endings) ∙ flat_map-append sends_in serving ending)
    ∙ ap on_data (went_append (flat_map sends_in serving) (flat_map sends_in ending))
    ∙ on_data_append (went (flat_map sends_in serving)) (went (flat_map sends_in ending)))

-- What was taken --------------------------------------------------------------------------------------------------------

none_of_role : (role : Role) (arrivals : List Arrival) → carries_data role ≡ false → on_data (taken_in role arrivals) ≡ []
none_of_role role [] e = refl
none_of_role role (a ∷ as') e =
    let d : Datagram = record { role = role; peer = a.from; octets = a.octets } in
    let rest = on_data (taken_in role as') in
    ap (λ (b : Bool). cond b (d ∷ rest) rest) e ∙ none_of_role role as' e

coa_taken : (requested : List Requested) (ended : Option ReadEnd) → on_data (asked_stretch requested ended).taken ≡ []
coa_taken requested None = refl
coa_taken requested (Some ended) =
    let arrivals = map (λ (q : Requested). q.arrival) requested in
    ap on_data (append-nil (taken_in Coa arrivals)) ∙ none_of_role Coa arrivals refl

auth_taken : (answers : List Answered) (ended : Option ReadEnd) → on_data (auth_stretch answers ended).taken ≡ []
auth_taken answers None = refl
auth_taken answers (Some ended) =
    let arrivals = map (λ (a : Answered). a.arrival) answers in
    ap on_data (append-nil (taken_in Auth arrivals)) ∙ none_of_role Auth arrivals refl

all_of_role : (role : Role) (arrivals : List Arrival) → carries_data role ≡ true → on_data (taken_in role arrivals) ≡ taken_in role arrivals
all_of_role role [] e = refl
all_of_role role (a ∷ as') e =
    let d : Datagram = record { role = role; peer = a.from; octets = a.octets } in
    let rest = on_data (taken_in role as') in
    ap (λ (b : Bool). cond b (d ∷ rest) rest) e ∙ ap (λ (ds : List Datagram). d ∷ ds) (all_of_role role as' e)

abbrev pub taken_by_reading : DataReading → List Datagram
taken_by_reading r = taken_in r.role r.arrivals

data_taken : (readings : List DataReading) → AllByRecursion (λ role. carries_data role ≡ true) (map (λ r. r.role) readings) → on_data (data_stretch readings).taken ≡ flat_map taken_by_reading readings
data_taken [] h = refl
data_taken (r ∷ rs) h =
    on_data_append (taken_in r.role r.arrivals ++ []) (data_stretch rs).taken
    ∙ ap (λ (ds : List Datagram). on_data ds ++ on_data (data_stretch rs).taken) (append-nil (taken_in r.role r.arrivals))
    ∙ ap (λ (ds : List Datagram). ds ++ on_data (data_stretch rs).taken) (all_of_role r.role r.arrivals h.0)
    ∙ ap (λ (ds : List Datagram). taken_in r.role r.arrivals ++ ds) (data_taken rs h.1)

ports_data : (n m : ℕ) → AllByRecursion (λ role. carries_data role ≡ true) (map Access (range_with_len n m) ++ Core ∷ [])
ports_data n zero = (refl, tt)
ports_data n (suc m) = (refl, ports_data (n + 1) m)

roles_data : (serves : Bool) (n m : ℕ) → AllByRecursion (λ role. carries_data role ≡ true) (tunnel_roles serves ++ (map Access (range_with_len n m) ++ Core ∷ []))
roles_data true n m = (refl, ports_data n m)
roles_data false n m = ports_data n m

-- a round takes nothing
pub round_takes : (round : Option Round) → (round_stretch round).taken ≡ []
round_takes None = refl
round_takes (Some round) = refl

turn_taken : (d d' : Desk) (t : Option Turn) → Step d t d' → (e : Desk) → on_data (stretch_of e t).plant.taken ≡ flat_map taken_by_reading (readings_in t)
turn_taken d d' None step e = refl
turn_taken d d' (Some t) step e =
    let heeded = map (λ (h : Heeded). h.arrival) t.control in
    let acknowledged = map (λ (a : Acknowledged). a.arrival) t.acknowledged in
    let acct = taken_in Acct acknowledged in
    let coa = (asked_stretch t.requested t.coa_end).taken in
    let auth = (auth_stretch t.answers t.auth_end).taken in
    let rest = (data_stretch t.readings).taken ++ ((round_stretch t.round).taken ++ []) in
    let later = (acct ++ []) ++ (coa ++ (auth ++ rest)) in
    let roles : AllByRecursion (λ role. carries_data role ≡ true) (map (λ r. r.role) t.readings) = subst (AllByRecursion (λ role. carries_data role ≡ true)) (sym step.0.roles) (roles_data d.rules.serves_tunnels 1 (length d.rules.access)) in
    on_data_append (taken_in Control heeded ++ []) later
    ∙ ap (λ (ds : List Datagram). on_data ds ++ on_data later) (append-nil (taken_in Control heeded))
    ∙ ap (λ (ds : List Datagram). ds ++ on_data later) (none_of_role Control heeded refl)
    ∙ on_data_append (acct ++ []) (coa ++ (auth ++ rest))
    ∙ ap (λ (ds : List Datagram). on_data ds ++ on_data (coa ++ (auth ++ rest))) (append-nil acct)
    ∙ ap (λ (ds : List Datagram). ds ++ on_data (coa ++ (auth ++ rest))) (none_of_role Acct acknowledged refl)
    ∙ on_data_append coa (auth ++ rest)
    ∙ ap (λ (ds : List Datagram). ds ++ on_data (auth ++ rest)) (coa_taken t.requested t.coa_end)
    ∙ on_data_append auth rest
    ∙ ap (λ (ds : List Datagram). ds ++ on_data rest) (auth_taken t.answers t.auth_end)
    ∙ ap (λ (ds : List Datagram). on_data ((data_stretch t.readings).taken ++ (ds ++ []))) (round_takes t.round)
    ∙ ap on_data (append-nil (data_stretch t.readings).taken)
    ∙ data_taken t.readings roles

turns_taken : (d d' : Desk) (turns : List Made) → Run d turns d' → on_data (run_stretch turns).plant.taken ≡ flat_map taken_by_reading (readings_of turns)
turns_taken d d' [] run = refl
turns_taken d d' (m ∷ turns) run =
    on_data_append (stretch_of m.desk m.turn).plant.taken (run_stretch turns).plant.taken
    ∙ ap (λ (ds : List Datagram). ds ++ on_data (run_stretch turns).plant.taken) (turn_taken d run.0 m.turn run.1.1 m.desk)
    ∙ ap (λ (ds : List Datagram). flat_map taken_by_reading (readings_in m.turn) ++ ds) (turns_taken run.0 d' turns run.2)
    ∙ sym (flat_map-append taken_by_reading (readings_in m.turn) (readings_of turns))

end_taken : (d : Desk) (t : Late) → on_data (late_stretch d t).plant.taken ≡ []
end_taken d (Ends None) = refl
end_taken d (Ends (Some t)) = ap (λ (ds : List Datagram). on_data (ds ++ [])) (round_takes t.round)
end_taken d (Waits t) =
    let arrivals = map (λ (a : Acknowledged). a.arrival) t.acknowledged in
    ap on_data (append-nil (taken_in Acct arrivals ++ []))
    ∙ ap on_data (append-nil (taken_in Acct arrivals))
    ∙ none_of_role Acct arrivals refl

-- nothing is taken from them once serving is over
endings_taken : (endings : List MadeEnd) → on_data (ending_stretch endings).plant.taken ≡ []
endings_taken [] = refl
endings_taken (m ∷ endings) =
    on_data_append (late_stretch m.desk m.turn).plant.taken (ending_stretch endings).plant.taken
    ∙ ap (λ (ds : List Datagram). ds ++ on_data (ending_stretch endings).plant.taken) (end_taken m.desk m.turn)
    ∙ endings_taken endings

-- what was taken from them are the datagrams of the readings
pub taken_are : (d d' : Desk) (turns : List Made) (endings : List MadeEnd) → Run d turns d' → on_data (plant_of turns endings).taken ≡ flat_map taken_by_reading (readings_of turns)
taken_are d d' turns endings run =
    on_data_append (run_stretch turns).plant.taken (ending_stretch endings).plant.taken
    ∙ ap (λ (ds : List Datagram). on_data (run_stretch turns).plant.taken ++ ds) (endings_taken endings)
    ∙ append-nil (on_data (run_stretch turns).plant.taken)
    ∙ turns_taken d d' turns run

-- What failed --------------------------------------------------------------------------------------------------------

unsent_append : (as' bs : List OutRecord) → count_by not_sent (as' ++ bs) ≡ count_by not_sent as' + count_by not_sent bs
unsent_append as' bs = sum_by-append (λ (o : OutRecord). one_if (not_sent o)) as' bs

requests_append : (as' bs : List LaneSend) → count_by is_unsent (as' ++ bs) ≡ count_by is_unsent as' + count_by is_unsent bs
requests_append as' bs = sum_by-append (λ (s : LaneSend). one_if (is_unsent s)) as' bs

replies_append : (as' bs : List CoaSend) → count_by is_lost (as' ++ bs) ≡ count_by is_lost as' + count_by is_lost bs
replies_append as' bs = sum_by-append (λ (s : CoaSend). one_if (is_lost s)) as' bs

round_failed : (round : Option Round) → (round_stretch round).failed ≡ count_by not_sent (sends_in round)
round_failed None = refl
round_failed (Some round) = refl

requests_failed : (server : Peer) (q : Requests) → (requests_stretch server q).failed ≡ count_by is_unsent (lane_sends q)
requests_failed server q = refl

records_failed : (server : Peer) (r : RecordRequests) → (records_stretch server r).failed ≡ count_by is_unsent (record_sends r)
records_failed server r = refl

replies_failed : (q : CoaReplies) → (coa_stretch (coa_sends q)).failed ≡ count_by is_lost (coa_sends q)
replies_failed q = refl

turn_failed : (d : Desk) (t : Option Turn) → count_by not_sent (sends_in (round_in t)) + count_by is_unsent (requests_in t) + count_by is_unsent (records_in t) + count_by is_lost (replies_in t) ≤ (stretch_of d t).plant.failed
turn_failed d None = omega arith
turn_failed d (Some t) = omega (arith, round_failed t.round, replies_failed t.replies, requests_failed d.lane.client.auth_server t.requests, records_failed d.billing.client.acct_server t.records)

end_failed : (d : Desk) (t : Late) → count_by not_sent (sends_in (end_round_in t)) + count_by is_unsent (end_requests_in t) + count_by is_unsent (end_records_in t) + count_by is_lost (end_replies_in t) ≤ (late_stretch d t).plant.failed
end_failed d (Ends None) = omega arith
end_failed d (Waits t) = omega (arith, records_failed d.billing.client.acct_server t.records)
end_failed d (Ends (Some t)) = omega (arith, round_failed t.round, replies_failed t.replies, requests_failed d.lane.client.auth_server t.requests, records_failed d.billing.client.acct_server t.records)

abbrev of_serving : List Made → List LaneSend
of_serving turns = flat_map (λ m. requests_in m.turn) turns

abbrev of_ending : List MadeEnd → List LaneSend
of_ending endings = flat_map (λ m. end_requests_in m.turn) endings

abbrev billed_serving : List Made → List LaneSend
billed_serving turns = flat_map (λ m. records_in m.turn) turns

abbrev billed_ending : List MadeEnd → List LaneSend
billed_ending endings = flat_map (λ m. end_records_in m.turn) endings

abbrev replied_serving : List Made → List CoaSend
replied_serving turns = flat_map (λ m. replies_in m.turn) turns

abbrev replied_ending : List MadeEnd → List CoaSend
replied_ending endings = flat_map (λ m. end_replies_in m.turn) endings

turns_failed : (turns : List Made) → count_by not_sent (flat_map sends_in (map (λ m. round_in m.turn) turns)) + count_by is_unsent (of_serving turns) + count_by is_unsent (billed_serving turns) + count_by is_lost (replied_serving turns) ≤ (run_stretch turns).plant.failed
turns_failed [] = omega arith
turns_failed (m ∷ turns) =
    omega (
      arith,
      unsent_append (sends_in (round_in m.turn)) (flat_map sends_in (map (λ (x : Made). round_in x.turn) turns)),
      requests_append (requests_in m.turn) (of_serving turns),
      requests_append (records_in m.turn) (billed_serving turns),
      replies_append (replies_in m.turn) (replied_serving turns),
      turn_failed m.desk m.turn,
      turns_failed turns,
    )

endings_failed : (endings : List MadeEnd) → count_by not_sent (flat_map sends_in (map (λ m. end_round_in m.turn) endings)) + count_by is_unsent (of_ending endings) + count_by is_unsent (billed_ending endings) + count_by is_lost (replied_ending endings) ≤ (ending_stretch endings).plant.failed
endings_failed [] = omega arith
endings_failed (m ∷ endings) =
    omega (
      arith,
      unsent_append (sends_in (end_round_in m.turn)) (flat_map sends_in (map (λ (x : MadeEnd). end_round_in x.turn) endings)),
      requests_append (end_requests_in m.turn) (of_ending endings),
      requests_append (end_records_in m.turn) (billed_ending endings),
      replies_append (end_replies_in m.turn) (replied_ending endings),
      end_failed m.desk m.turn,
      endings_failed endings,
    )

-- no more of what the rounds had to send, of the replies, of the requests and of those of accounting was not sent than failed
pub unsent_failed : (turns : List Made) (endings : List MadeEnd) → count_by not_sent (sends_of (rounds_of turns endings)) + count_by is_unsent (requests_of turns endings) + count_by is_unsent (records_of turns endings) + count_by is_lost (replies_of turns endings) ≤ (plant_of turns endings).failed
unsent_failed turns endings =
    let serving = map (λ (m : Made). round_in m.turn) turns in
    let ending = map (λ (m : MadeEnd). end_round_in m.turn) endings in
    omega (
      arith,
      ap (count_by not_sent) (sends_are (rounds_in turns endings) ∙ flat_map-append sends_in serving ending),
      unsent_append (flat_map sends_in serving) (flat_map sends_in ending),
      requests_append (of_serving turns) (of_ending endings),
      requests_append (billed_serving turns) (billed_ending endings),
      replies_append (replied_serving turns) (replied_ending endings),
      turns_failed turns,
      endings_failed endings,
    )

-- The rounds of a run, and what they sent and dropped.
use Rattle.std.specs.Prelude.{Bool, true, false, not, ◌||◌, List, [], ◌∷◌, ◌++◌, Option, Some, None, filter, length, map}
use Rattle.std.specs.List.{flat_map}
use Rattle.bng_base.specs.declared.item.Item.{Item}
use Rattle.bng_base.specs.declared.outside.Datagram.{Datagram}
use Rattle.bng_base.specs.declared.outside.Role.{Role}
use Rattle.bng_base.specs.declared.outside.Role.TheVariants.{Access, Core, Tunnel, Auth, Acct, Coa, Control}
use Rattle.bng_base.specs.Roles.{is_data}
use Rattle.bng_base.specs.Stretch.{PlantStretch, plant_joined}
use Rattle.bng_engine.specs.Accounted.{opening}
use Rattle.bng_engine.specs.Histories.{History, ShardTurn}
use Rattle.bng_engine.specs.Views.{turn_in}
use Rattle.bng_lane.specs.Sends.{LaneSend}
use Rattle.bng_steps.specs.Protocol.{ShardState, Handled}
use Rattle.bng_steps.specs.Reader.{is_tunnel}
use Rattle.bng_desk.specs.Counting.{Amounts, both, no_items}
use Rattle.bng_desk.specs.Model.{Desk}
use Rattle.bng_desk.specs.Items.{DataReading}
use Rattle.bng_desk.specs.Accounting.{record_sends}
use Rattle.bng_desk.specs.Coa.{CoaSend, coa_sends}
use Rattle.bng_desk.specs.Logins.{lane_sends}
use Rattle.bng_desk.specs.Round.{Round, view_of, drops_in, refused_of, with_refused}
use Rattle.bng_desk.specs.Turn.{Turn, items_of, ending_items}
use Rattle.bng_gate.specs.Serving.{Made, MadeEnd, Late, Ends, Waits, run_stretch, ending_stretch}

-- the round of a turn, where one was opened; a turn of the grace has none
abbrev pub round_in : Option Turn → Option Round
round_in None = None
round_in (Some t) = t.round

abbrev pub end_round_in : Late → Option Round
end_round_in (Ends None) = None
end_round_in (Ends (Some t)) = t.round
end_round_in (Waits t) = None

-- those of all turns: of serving, and then of the ending and of the grace
abbrev pub rounds_in : List Made → List MadeEnd → List (Option Round)
rounds_in turns endings = map (λ m. round_in m.turn) turns ++ map (λ m. end_round_in m.turn) endings

-- what a round and its settlement added to each shard, in the order of their numbers; nothing where it was not opened
abbrev pub turns_of : Option Round → List (List (ShardTurn Handled))
turns_of None = []
turns_of (Some round) = map turn_in round.shards ∷ []

-- the rounds that were opened, by what each added to each shard
abbrev pub rounds_of : List Made → List MadeEnd → List (List (ShardTurn Handled))
rounds_of turns endings = flat_map turns_of (rounds_in turns endings)

-- the shards of a desk, in which nothing has happened yet
abbrev pub history_of : Desk → History ShardState
history_of d = opening (view_of d.shards d.pool d.tallies)

-- what the turns add to what the plant tells, one after another
abbrev pub plant_of : List Made → List MadeEnd → PlantStretch
plant_of turns endings = plant_joined (run_stretch turns).plant (ending_stretch endings).plant

-- an access port, the core or the end for tunnels: what carries subscribers' packets, or may
abbrev pub carries_data : Role → Bool
carries_data role = is_data role || is_tunnel role

-- the datagrams of the access ports, of the core and of the end for tunnels
abbrev pub on_data : List Datagram → List Datagram
on_data ds = filter (λ d. carries_data d.role) ds

abbrev pub is_auth : Role → Bool
is_auth (Access number) = false
is_auth Core = false
is_auth Tunnel = false
is_auth Auth = true
is_auth Acct = false
is_auth Coa = false
is_auth Control = false

-- those of Auth
abbrev pub on_auth : List Datagram → List Datagram
on_auth ds = filter (λ d. is_auth d.role) ds

abbrev pub is_acct : Role → Bool
is_acct (Access number) = false
is_acct Core = false
is_acct Tunnel = false
is_acct Auth = false
is_acct Acct = true
is_acct Coa = false
is_acct Control = false

-- those of Acct
abbrev pub on_acct : List Datagram → List Datagram
on_acct ds = filter (λ d. is_acct d.role) ds

abbrev pub is_coa : Role → Bool
is_coa (Access number) = false
is_coa Core = false
is_coa Tunnel = false
is_coa Auth = false
is_coa Acct = false
is_coa Coa = true
is_coa Control = false

-- those of Coa
abbrev pub on_coa : List Datagram → List Datagram
on_coa ds = filter (λ d. is_coa d.role) ds

abbrev pub is_control : Role → Bool
is_control (Access number) = false
is_control Core = false
is_control Tunnel = false
is_control Auth = false
is_control Acct = false
is_control Coa = false
is_control Control = true

-- those of all roles but Control
abbrev pub beside_control : List Datagram → List Datagram
beside_control ds = filter (λ d. not (is_control d.role)) ds

-- the readings of the end for tunnels, of the access ports and of the core
abbrev pub readings_in : Option Turn → List DataReading
readings_in None = []
readings_in (Some t) = t.readings

abbrev pub readings_of : List Made → List DataReading
readings_of turns = flat_map (λ m. readings_in m.turn) turns

-- the requests of a turn, with the answers to their sends
abbrev pub requests_in : Option Turn → List LaneSend
requests_in None = []
requests_in (Some t) = lane_sends t.requests

abbrev pub end_requests_in : Late → List LaneSend
end_requests_in (Ends None) = []
end_requests_in (Ends (Some t)) = lane_sends t.requests
end_requests_in (Waits t) = []

-- those of all turns: of serving, and then of the ending and of the grace
abbrev pub requests_of : List Made → List MadeEnd → List LaneSend
requests_of turns endings = flat_map (λ m. requests_in m.turn) turns ++ flat_map (λ m. end_requests_in m.turn) endings

-- the requests of accounting of a turn, with the answers to their sends
abbrev pub records_in : Option Turn → List LaneSend
records_in None = []
records_in (Some t) = record_sends t.records

abbrev pub end_records_in : Late → List LaneSend
end_records_in (Ends None) = []
end_records_in (Ends (Some t)) = record_sends t.records
end_records_in (Waits t) = record_sends t.records

-- those of all turns
abbrev pub records_of : List Made → List MadeEnd → List LaneSend
records_of turns endings = flat_map (λ m. records_in m.turn) turns ++ flat_map (λ m. end_records_in m.turn) endings

-- a request that the plant did not take
abbrev pub is_unsent : LaneSend → Bool
is_unsent s = not s.sent

-- the replies of a turn to requests for changes, with the answers to their sends
abbrev pub replies_in : Option Turn → List CoaSend
replies_in None = []
replies_in (Some t) = coa_sends t.replies

abbrev pub end_replies_in : Late → List CoaSend
end_replies_in (Ends None) = []
end_replies_in (Ends (Some t)) = coa_sends t.replies
end_replies_in (Waits t) = []

-- those of all turns
abbrev pub replies_of : List Made → List MadeEnd → List CoaSend
replies_of turns endings = flat_map (λ m. replies_in m.turn) turns ++ flat_map (λ m. end_replies_in m.turn) endings

-- a reply that the plant did not take
abbrev pub is_lost : CoaSend → Bool
is_lost s = not s.sent

-- what a round drops: by the fates of its items and the packets whose own send failed, or all items of the outside, where it
-- was not opened
abbrev pub round_drops : List Item → Option Round → Amounts
round_drops items None = with_refused (length (refused_of items))
round_drops items (Some round) = drops_in (items ∷ []) round

-- a turn that wanted memory took nothing, and drops nothing; nor does one of the grace
abbrev pub drops_made : Desk → Option Turn → Amounts
drops_made d None = no_items
drops_made d (Some t) = round_drops (items_of d t) t.round

abbrev pub drops_ended : Desk → Late → Amounts
drops_ended d (Ends None) = no_items
drops_ended d (Ends (Some t)) = round_drops (ending_items d) t.round
drops_ended d (Waits t) = no_items

-- cause by cause, the sums
abbrev pub all_drops : List Amounts → Amounts
all_drops [] = no_items
all_drops (d ∷ ds) = both d (all_drops ds)

-- what the turns drop
abbrev pub drops_of_run : List Made → List MadeEnd → Amounts
drops_of_run turns endings = all_drops (map (λ m. drops_made m.desk m.turn) turns ++ map (λ m. drops_ended m.desk m.turn) endings)

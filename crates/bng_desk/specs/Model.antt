-- The desk as contracts see it.
use Rattle.std.specs.Prelude.{◌≡◌, ℕ, ◌+◌, ◌-◌, ◌*◌, ◌/◌, Bool, true, false, ◌==◌, ◌||◌, ◌&&◌, not, List, Option, Some, None, length, map, sum_by, slice_get, nat_le, if◌then◌else◌}
use Rattle.std.specs.List.{All, flat_map, range_with_len}
use Rattle.bng_acct.specs.Spool.{unacked_stops}
use Rattle.bng_base.specs.declared.address.Ip4.{Ip4}
use Rattle.bng_base.specs.declared.book.Book.{Book}
use Rattle.bng_base.specs.declared.item.Entry.{Entry}
use Rattle.bng_base.specs.declared.item.Item.{Item}
use Rattle.bng_billing.specs.State.{BillingState}
use Rattle.bng_coa.specs.State.{State as CoaState}
use Rattle.bng_engine.specs.Books.{book_at}
use Rattle.bng_engine.specs.Quantities.{Octets, Packets, in_book}
use Rattle.bng_engine.specs.Sums.{has_lease, is_any, stopped_where}
use Rattle.bng_engine.specs.Terms.{Key, Stop, keys}
use Rattle.bng_engine.specs.Views.{ShardView, Row, rows_where}
use Rattle.bng_lane.specs.State.{LaneState}
use Rattle.bng_pool.specs.Plain.{PlainView}
use Rattle.bng_steps.specs.declared.rules.Rules.{Rules}
use Rattle.bng_steps.specs.declared.sums.Traffic.{Traffic}
use Rattle.bng_steps.specs.Interims.{Reports}
use Rattle.bng_steps.specs.Protocol.{ShardState, row_at, sessions_of, terms_of}
use Rattle.bng_steps.specs.Sums.{traffic_in}
use Rattle.bng_desk.specs.declared.desk.DeskState.{DeskState}
use Rattle.bng_desk.specs.declared.desk.DeskState.TheVariants.{Serving, Ending, Grace, Ended, Starved}
use Rattle.bng_desk.specs.declared.drops.Drops.{Drops}
use Rattle.bng_desk.specs.declared.line.CircuitLine.{CircuitLine}
use Rattle.bng_desk.specs.declared.sums.Sums.{Sums}
use Rattle.bng_desk.specs.Reading.{is_empty}

-- By what it serves, the provisioned circuits in the order of the configuration, what the Stops of all terms say that were formed so far,
-- and how many those are, after how many turns it ends serving by itself, how many it made, whether it was told to stop, the shards in the
-- order of their numbers, who holds an address, what each seat passed, the seed and how many times sixteen octets were drawn from it, the
-- drops, the last moment that it was given, and the number of the last round that the trace took, 0 before the first. The lane of the
-- questions that are out at the server, and of each shard which of its questions were handed out. The records that are open at the server
-- of accounting. Of each shard which Interims were taken. The requests for changes that are in hand, and the replies that are kept. Of the
-- ending: how many of its turns were made, how many in a row opened no round, whether one opened a round, and the moment of the last that
-- did, which is that of the opening before the first. How many turns of the grace were made. The items that stay of the last round, where
-- it was not opened.
pub record Desk : Type 0 where
  pub rules : Rules
  pub lines : List CircuitLine
  pub stopped_book : Book
  pub stops : ℕ
  pub rounds : ℕ
  pub turns : ℕ
  pub stopped : Bool
  pub shards : List (ShardView ShardState Entry)
  pub pool : PlainView
  pub tallies : List Book
  pub seed : List ℕ
  pub drawn : ℕ
  pub drops : Drops
  pub moment : ℕ
  pub told : ℕ
  pub lane : LaneState
  pub handed : List (List ℕ)
  pub billing : BillingState
  pub reports : List Reports
  pub coa : CoaState
  pub endings : ℕ
  pub unopened : ℕ
  pub closed : Bool
  pub closing : ℕ
  pub graces : ℕ
  pub kept : List Item

-- the keys of the terms that are there, of the first shard first, and in each in the order in which they began
abbrev pub keys_in : List (ShardView ShardState Entry) → List Key
keys_in shards = flat_map (λ v. keys (terms_of v.state)) shards

-- each shard works by the desk's rules
abbrev pub HasOneRule : Desk → Type 0
HasOneRule d = All (λ v. v.state.rules ≡ d.rules) d.shards

-- serving is over: it was told to stop, or all turns were made
abbrev pub is_over : Desk → Bool
is_over d = d.stopped || (d.turns == d.rounds)

-- how many sessions there are in all shards
abbrev pub sessions_in : List (ShardView ShardState Entry) → ℕ
sessions_in shards = sum_by (λ v. sessions_of v.state) shards

-- so many turns in a row in which no round of Ends is opened are the end
abbrev pub unopened_most : ℕ
unopened_most = 1000000

abbrev pub has_starved : Desk → Bool
has_starved d = nat_le unopened_most d.unopened

-- a round of Ends was made, and no session is left
abbrev pub has_ended : Desk → Bool
has_ended d = d.closed && (sessions_in d.shards == 0)

-- how long the grace lasts at most, in milliseconds, and how many turns
abbrev pub grace_most : ℕ
grace_most = 30000

abbrev pub graces_most : ℕ
graces_most = 1000000

-- each Stop was acknowledged, or so much time went by, or so many turns were made
abbrev pub grace_is_over : Desk → Bool
grace_is_over d = is_empty (unacked_stops d.billing.spool) || (nat_le (d.closing + grace_most) d.moment || nat_le graces_most d.graces)

-- how many rounds of Ends there may still be: one, and one for each session
abbrev pub rounds_left : Desk → ℕ
rounds_left d = sessions_in d.shards + (if d.closed then 0 else 1)

-- how many turns of the ending there may still be, and of the grace; each makes it less
abbrev pub left_of : Desk → ℕ
left_of d = unopened_most * rounds_left d + (unopened_most - d.unopened) + (graces_most - d.graces)

-- where it stands
abbrev pub state_of : Desk → DeskState
state_of d = if not (is_over d) then Serving else (if has_ended d then (if grace_is_over d then Ended else Grace) else (if has_starved d then Starved else Ending))

abbrev pub no_traffic : Traffic
no_traffic = record { input = 0; output = 0 }

abbrev pub traffic_or : Option Row → Traffic
traffic_or None = no_traffic
traffic_or (Some row) = traffic_in row

abbrev pub traffic_at : Option (ShardView ShardState Entry) → Ip4 → Traffic
traffic_at None address = no_traffic
traffic_at (Some v) address = traffic_or (row_at v.rows address)

-- one and the other together
abbrev pub plus_traffic : Traffic → Traffic → Traffic
plus_traffic a b = record { input = a.input + b.input; output = a.output + b.output }

-- what a provisioned circuit carried: what the Stops with its address say, and what the shard of its number keeps for the term that has it
abbrev pub carried_on : List (ShardView ShardState Entry) → CircuitLine → Traffic
carried_on shards l = plus_traffic l.stopped (traffic_at (slice_get shards (l.session.0 / 1024)) l.address)

-- what the Stops with an address say, in octets
abbrev pub stopped_of : Ip4 → List Stop → Traffic
stopped_of address stops = record { input = stopped_where Octets (has_lease address) true stops; output = stopped_where Octets (has_lease address) false stops }

-- a circuit once these Stops were formed
abbrev pub line_after : List Stop → CircuitLine → CircuitLine
line_after stops l = record l { stopped = plus_traffic l.stopped (stopped_of l.address stops) }

-- one book and the other together
abbrev pub plus_book : Book → Book → Book
plus_book a b = record {
  input = a.input + b.input;
  output = a.output + b.output;
  input_packets = a.input_packets + b.input_packets;
  output_packets = a.output_packets + b.output_packets;
}

-- what these Stops say in all, in octets and in packets
abbrev pub all_stopped : List Stop → Book
all_stopped stops = record {
  input = stopped_where Octets is_any true stops;
  output = stopped_where Octets is_any false stops;
  input_packets = stopped_where Packets is_any true stops;
  output_packets = stopped_where Packets is_any false stops;
}

-- what the terms of all shards carried that have no Stop yet, in octets and in packets
abbrev pub live_of : List (ShardView ShardState Entry) → Book
live_of shards = record {
  input = sum_by (λ v. rows_where Octets is_any true v.rows) shards;
  output = sum_by (λ v. rows_where Octets is_any false v.rows) shards;
  input_packets = sum_by (λ v. rows_where Packets is_any true v.rows) shards;
  output_packets = sum_by (λ v. rows_where Packets is_any false v.rows) shards;
}

-- how many terms began, those of the circuits at the opening among them, and how many of them have no Stop yet
abbrev pub begun_in : List (ShardView ShardState Entry) → ℕ
begun_in shards = sum_by (λ v. v.state.slots.begun) shards

abbrev pub live_terms : List (ShardView ShardState Entry) → ℕ
live_terms shards = sum_by (λ v. length (terms_of v.state)) shards

-- What all terms carried: those that have a Stop, those that have none yet, and both together. How many terms began, how many Stops were
-- formed, and how many items were dropped, by the number of the cause.
abbrev pub sums_of : Desk → Sums
sums_of d = record {
  stopped = d.stopped_book;
  live = live_of d.shards;
  total = plus_book d.stopped_book (live_of d.shards);
  terms = begun_in d.shards;
  stops = d.stops;
  drops = d.drops.counts;
}

abbrev pub all_carried : Desk → List Traffic
all_carried d = map (carried_on d.shards) d.lines

-- what was sent under the profile at a place, in octets, as the books of these shards say
abbrev pub traffic_under : List (ShardView ShardState Entry) → ℕ → Traffic
traffic_under shards place = record {
  input = sum_by (λ v. in_book Octets true (book_at place v.books)) shards;
  output = sum_by (λ v. in_book Octets false (book_at place v.books)) shards;
}

-- of each profile, in the order of the rules
abbrev pub by_profile : Desk → List Traffic
by_profile d = map (traffic_under d.shards) (range_with_len 0 (length d.rules.profiles))

-- what a seat passed, and did not take off again: the octets of the packets that were sent of its items
abbrev pub traffic_by : Book → Traffic
traffic_by tally = record { input = tally.input; output = tally.output }

-- and what all seats passed: the octets and the number of all packets that were sent
abbrev pub total_of : List Book → Book
total_of tallies = record {
  input = sum_by (λ (b : Book). b.input) tallies;
  output = sum_by (λ (b : Book). b.output) tallies;
  input_packets = sum_by (λ (b : Book). b.input_packets) tallies;
  output_packets = sum_by (λ (b : Book). b.output_packets) tallies;
}

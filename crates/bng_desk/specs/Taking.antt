-- A round in the desk: its items are dealt to the shards, and the shards are settled.
use Rattle.std.specs.Prelude.{◌≡◌, ◌⊎◌, ℕ, ◌+◌, ◌*◌, ◌^◌, ◌≤◌, ◌<◌, Bool, true, false, cond, List, [], ◌∷◌, ◌++◌, All, length, map, sum_by, count_by, ◌||◌, filter, not, slice_index_or, slice_set, Some, IsSome}
use Rattle.std.specs.List.{AllByRecursion, AllZip, AllPairs, flat_map}
use Rattle.bng_acct.specs.declared.held.Held.{Held}
use Rattle.bng_acct.specs.Roster.{of_term}
use Rattle.bng_acct.specs.Spool.{is_live}
use Rattle.bng_base.specs.declared.book.Book.{Book}
use Rattle.bng_base.specs.declared.circuit.TermId.{TermId}
use Rattle.bng_base.specs.declared.fate.Fate.{Fate}
use Rattle.bng_base.specs.declared.item.Charge.{Charge as Of}
use Rattle.bng_base.specs.declared.item.Entry.{Entry}
use Rattle.bng_base.specs.declared.item.Item.{Item}
use Rattle.bng_base.specs.declared.item.ItemKind.{ItemKind}
use Rattle.bng_base.specs.declared.item.Loose.{Loose}
use Rattle.bng_base.specs.declared.item.OutRecord.{OutRecord}
use Rattle.bng_base.specs.declared.round.RoundRecord.{RoundRecord}
use Rattle.bng_base.specs.Listed.{Same}
use Rattle.bng_base.specs.Told.{PlantTold}
use Rattle.bng_base.specs.Stretch.{ExtendsPlant}
use Rattle.bng_engine.specs.Calls.{Kept, InTurn, all_sends}
use Rattle.bng_engine.specs.Journals.{unsent}
use Rattle.bng_engine.specs.Lists.{Zip3}
use Rattle.bng_engine.specs.Quantities.{Quantity, Octets, amount, in_book, empty_book}
use Rattle.bng_engine.specs.Showing.{Shows, with_lists}
use Rattle.bng_engine.specs.Sums.{has_lease, is_any, same, charge_if, is_directed, passed_sum, failed_sum, stopped_where}
use Rattle.bng_engine.specs.Settlements.{OneEach}
use Rattle.bng_engine.specs.Terms.{AreInOrder as AreOrdered, Key, Stop, keys, stopped_keys}
use Rattle.bng_engine.specs.Turns.{InRound}
use Rattle.bng_engine.specs.Views.{ShardView, row_keys, rows_where}
use Rattle.bng_pool.specs.Plain.{PlainView}
use Rattle.bng_steps.specs.declared.rules.Rules.{Rules}
use Rattle.bng_steps.specs.declared.sums.Charged.{Charged}
use Rattle.bng_steps.specs.declared.sums.Charged.TheVariants.{Packet, Control}
use Rattle.bng_steps.specs.declared.whose.Whose.{Whose}
use Rattle.bng_steps.specs.declared.whose.Whose.TheVariants.{Loose as IsLoose, Stands}
use Rattle.bng_steps.specs.Hearing.{outs_most}
use Rattle.bng_steps.specs.Granting.{IsSound}
use Rattle.bng_steps.specs.Interims.{Reports, owed}
use Rattle.bng_steps.specs.Lasting.{AreTenures}
use Rattle.bng_steps.specs.Protocol.{ShardState, Handled, key_in, pppoe, sessions_of, terms_of, entry_of}
use Rattle.bng_shard.specs.Handling.{Handles}
use Rattle.bng_shard.specs.Room.{is_tick, is_end}
use Rattle.bng_steps.specs.State.{reaped}
use Rattle.bng_steps.specs.Sums.{AreLow, RowsAreLow}
use Rattle.bng_steps.specs.Tenures.{Tenure}
use Rattle.bng_pool.specs.Tables.{entry}
use Rattle.bng_steps.specs.Whose.{IsWhose}
use Rattle.bng_billing.specs.State.{BillingState}
use Rattle.bng_desk.specs.declared.accounts.Stopped.{Stopped}
use Rattle.bng_desk.specs.declared.drops.Drops.{Drops}
use Rattle.bng_desk.specs.declared.holding.Named.{Named}
use Rattle.bng_desk.specs.declared.line.CircuitLine.{CircuitLine}
use Rattle.bng_desk.specs.Accounting.{FormedRecord, Forms, IsStartOf, IsStopOf}
use Rattle.bng_desk.specs.Counting.{drops_of, plus}
use Rattle.bng_desk.specs.Interims.{FormsInterims, TakesInterims, owed_by}
use Rattle.bng_desk.specs.Items.{entries_in, kept_of, loose_item, loose_in, without_claim}
use Rattle.bng_desk.specs.Allowing.{Allows}
use Rattle.bng_desk.specs.Model.{all_stopped, begun_in, line_after, live_terms, plus_book}
use Rattle.bng_desk.specs.Round.{Round, IsRound, StandsWithin, AreClaimed, IsWhoseIn, views_of, held_by, stops_of, starts_of, terms_in, news_in, handled_states, IsReturned, is_failed, with_failed, sends_stretch, drops_in, record_of, refused_of, refused_record, with_refused, entries_of}

-- a shard as the desk has it, and as the engine sees it
abbrev pub Shown : Type 0
Shown = ShardView ShardState Entry

abbrev pub Sight : Type 0
Sight = ShardView ShardState Handled

-- nothing of a round is there
abbrev pub IsEmpty : Shown → Type 0
IsEmpty v = (v.journal ≡ []) × (v.outs ≡ [])

-- what it answered to requests for changes was told
abbrev pub AllTold : Shown → Type 0
AllTold v = v.state.changed ≡ []

-- the shard once it was
abbrev pub told_all : Shown → Shown
told_all v = record v { state = record v.state { changed = [] }; room = 0 }

-- of each term that began a Start was formed
abbrev pub OwesNone : Shown → Type 0
OwesNone v = v.state.slots.news ≡ []

-- What lasts of a shard from round to round, at this moment: its sessions and terms are its own, with numbers that it gave, of which there
-- are 2^48 - 1, and the terms began no later; of each a Start was formed.
pub record KeepsTerms (moment : ℕ) (v : Shown) : Type 0 where
  pub sound : IsSound v.state.slots
  pub number : v.state.slots.sessions.shard ≡ v.number
  pub tenures : AreTenures moment v.state.slots
  pub owes_none : OwesNone v
  pub numbers : v.state.slots.begun < 2 ^ 48

-- there is a number for each term that may begin
abbrev pub HasNumbers : Shown → Type 0
HasNumbers v = v.state.slots.begun + v.allowance < 2 ^ 48

-- a row for each term
abbrev pub HasRows : Shown → Type 0
HasRows v = row_keys v.rows ≡ keys (terms_of v.state)

-- a shard has no more sessions than it has numbers for them
abbrev pub HasFewSessions : Shown → Type 0
HasFewSessions v = sessions_of v.state ≤ 1022

-- each shard has its place as its number
abbrev pub AreInOrder : List Shown → Type 0
AreInOrder vs = (k : ℕ) (d : Shown) → k < length vs → (slice_index_or vs k d).number ≡ k

-- the item is a Tick or an End
abbrev pub is_once : ItemKind → Bool
is_once kind = is_tick kind || is_end kind

-- at most one Tick or End for a shard: their targets rise
abbrev pub AreOnce : List Item → Type 0
AreOnce items = AllPairs (λ (a b : Item). a.target < b.target) (filter (λ (i : Item). is_once i.kind) items)

-- the items of a round: at most 1,024, each frame with all its headroom, and one Tick or End for a shard
pub record AreItems (items : List Item) : Type 0 where
  pub few : length items ≤ 1024
  pub whole : All (λ (i : Item). i.frame.headroom ≡ 64) items
  pub once : AreOnce items

-- the most outs of these items
abbrev pub outs_of_items : List Item → ℕ
outs_of_items items = sum_by (λ (i : Item). outs_most i.kind) items

-- at most so much passes, in octets and in packets, whatever is picked of it
abbrev pub IsLight : ℕ → List OutRecord → Type 0
IsLight most outs = (q : Quantity) (test : Of → Bool) → passed_sum (charge_if q test) outs ≤ most

-- what is to be sent stands in the tally, so that it can be taken off where its send fails
abbrev pub Covers : Book → List OutRecord → Type 0
Covers tally outs = (q : Quantity) (input : Bool) → passed_sum (charge_if q (is_directed input)) outs ≤ in_book q input tally

-- what failed to be sent was taken off the tally
abbrev pub Falls : Book → List OutRecord → Book → Type 0
Falls tally sends tally' = (q : Quantity) (input : Bool) → in_book q input tally' + failed_sum (charge_if q (is_directed input)) sends ≡ in_book q input tally

-- a packet's send failed
abbrev pub is_lost : Charged → Bool → Bool
is_lost (Packet input octets) sent = not sent
is_lost Control sent = false

-- what is taken off a tally for a packet whose send failed
abbrev pub lost_part : Quantity → Bool → Charged → Bool → ℕ
lost_part q input (Packet way octets) sent = cond sent 0 (cond (same input way) (amount q octets) 0)
lost_part q input Control sent = 0

-- the shard at this place handled the entry, for which it may have claimed an address, and the others are as they were
pub record HandledAt (pool pool' : PlainView) (place : ℕ) (e : Entry) (fate : Fate) (shards shards' : List Shown) (tally tally' : Book) : Type 0 where
  pub within : place < length shards
  pub shard : Shown
  pub handles : Handles (slice_index_or shards place shard) shard pool pool' e fate tally tally'
  pub others : shards' ≡ slice_set shards place shard

-- the item, from this place of the list, was handed to its shard, or is one of the loose
abbrev pub DealsTo : PlainView → PlainView → Whose → ℕ → ℕ → Item → List Shown → List Shown → List Loose → List Loose → Book → Book → Fate → Type 0
DealsTo pool pool' (IsLoose cause) place moment item shards shards' loose loose' tally tally' fate =
    (fate ≡ cause) × (pool' ≡ pool) × (shards' ≡ shards) × (loose' ≡ loose ++ loose_item 0 place item (IsLoose cause)) × (tally' ≡ tally)
DealsTo pool pool' (Stands n) place moment item shards shards' loose loose' tally tally' fate =
    HandledAt pool pool' n (entry_of 0 place moment item) fate shards shards' tally tally' × (loose' ≡ loose)

pub record DealsOne (r : Rules) (pool pool' : PlainView) (place moment : ℕ) (item : Item) (shards shards' : List Shown) (loose loose' : List Loose) (tally tally' : Book) (fate : Fate) : Type 0 where
  pub whose : Whose
  pub is_whose : IsWhose r (entry pool.table) item whose
  pub deals : DealsTo pool pool' whose place moment item shards shards' loose loose' tally tally' fate

-- the shards, from this one on, have the entries of the items that stand in them, which are taken without their claims
abbrev pub AreDealt : ℕ → ℕ → List Item → List Whose → List Sight → Type 0
AreDealt shard moment items whose [] = Unit {0}
AreDealt shard moment items whose (v ∷ vs) = (map without_claim (entries_of v) ≡ entries_in 0 shard 0 moment items whose) × AreDealt (shard + 1) moment items whose vs

-- no Stop and no Start is formed yet
pub record IsPlain (v : Sight) : Type 0 where
  pub stops : v.stops ≡ []
  pub starts : v.starts ≡ []

-- the shard has the allowance that it had
abbrev pub HasAllowance : Shown → Shown → Type 0
HasAllowance v v' = v'.allowance ≡ v.allowance

-- Each item was handed to its shard or is loose: the shards are in a round from those before, what was claimed is held, the fates were
-- counted, and what passed is in the tally.
pub record Deals (r : Rules) (pool pool' : PlainView) (moment : ℕ) (items : List Item) (shards shards' : List Shown) (loose : List Loose) (drops drops' : Drops) (tally tally' : Book) : Type 0 where
  pub whose : List Whose
  pub is_whose : AllZip (IsWhoseIn r pool.table pool'.table) items whose
  pub inside : AllByRecursion (StandsWithin (length shards)) whose
  pub seen : List Sight
  pub round : InRound pppoe (views_of shards) (held_by pool) (tally ∷ []) seen (held_by pool') (tally' ∷ [])
  pub claimed : AreClaimed pool pool' seen
  pub shown : AllZip (Shows pppoe) shards' seen
  pub allowances : AllZip HasAllowance shards shards'
  pub plain : All IsPlain seen
  pub dealt : AreDealt 0 moment items whose seen
  pub loose_are : loose ≡ loose_in 0 0 items whose
  pub drops_are : drops' ≡ plus drops (drops_of (map (λ l. l.fate) (loose_in 0 0 items whose) ++ flat_map (λ v. map (λ (h : Handled). h.deed.fate) v.journal) seen))
  pub light : All (λ v. IsLight (4160 * length items) v.outs) shards'
  pub few : sum_by (λ v. length v.outs) shards' ≤ outs_of_items items

-- what a shard shows, the engine sees within its turn, before its first send
pub record IsTurning (v : Shown) (was now : Sight) : Type 0 where
  pub turn : InTurn pppoe was now
  pub shows : Shows pppoe v now
  pub sends : now.sends ≡ []

pub record Turns (v : Shown) : Type 0 where
  pub was : Sight
  pub now : Sight
  pub turning : IsTurning v was now

pub record AllTurn (vs : List Shown) : Type 0 where
  pub was : List Sight
  pub now : List Sight
  pub turning : Zip3 IsTurning vs was now

-- A shard's outs were sent, each once and in their order, and each answer was charged.
pub record SentTo (v v' : Shown) (sends : List OutRecord) : Type 0 where
  pub are_outs : map unsent sends ≡ map unsent v.outs
  pub turn : (was now : Sight) → IsTurning v was now → InTurn pppoe was (with_lists v' now.journal now.outs sends)
  pub number : v'.number ≡ v.number
  pub allowance : v'.allowance ≡ v.allowance
  pub empty : IsEmpty v'
  pub rows : (most octets : ℕ) → RowsAreLow most v.rows → IsLight octets v.outs → RowsAreLow (most + octets) v'.rows
  pub books : (most : ℕ) → AreLow most v.books → AreLow most v'.books

-- and what failed was counted, and taken off the tally
pub record Sends (v v' : Shown) (old new : PlantTold) (outs outs' : List OutRecord) (journal : List Entry) (drops drops' : Drops) (tally tally' : Book) : Type 0 where
  pub sends : List OutRecord
  pub sent : SentTo v v' sends
  pub outs_are : outs' ≡ outs ++ sends
  pub journal_is : journal ≡ v.journal
  pub told : ExtendsPlant old new (sends_stretch sends)
  pub drops_are : drops' ≡ plus drops (with_failed (count_by is_failed sends))
  pub falls : Falls tally sends tally'

-- one list after the other
abbrev pub joined : {X : Type 0} → List (List X) → List X
joined xss = flat_map (λ xs. xs) xss

-- The shards' outs were sent, in the order of the shards, each once; what was sent was charged, and what failed was taken off the tally.
pub record SendsAll (vs vs' : List Shown) (old new : PlantTold) (outs : List OutRecord) (journals : List (List Entry)) (drops drops' : Drops) (tally tally' : Book) : Type 0 where
  pub sends : List (List OutRecord)
  pub each : Zip3 SentTo vs vs' sends
  pub outs_are : outs ≡ joined sends
  pub journals_are : journals ≡ map (λ v. v.journal) vs
  pub told : ExtendsPlant old new (sends_stretch (joined sends))
  pub drops_are : drops' ≡ plus drops (with_failed (count_by is_failed (joined sends)))
  pub falls : Falls tally (joined sends) tally'

-- a shard as the engine sees it once its round was settled: with that journal, those outs and sends, and these Stops and Starts
abbrev pub settled_as : Shown → List Handled → List OutRecord → List OutRecord → List Stop → List Key → Sight
settled_as v es outs sends stops starts = record {
  number = v.number;
  state = v.state;
  rows = v.rows;
  books = v.books;
  allowance = v.allowance;
  journal = es;
  outs = outs;
  sends = sends;
  stops = stops;
  starts = starts;
  room = 0;
}

-- The terms of a shard that ended have left, each by one Stop, in order, and the sessions that ended.
pub record ReapedTo (v v' : Shown) (stops : List Stop) : Type 0 where
  pub order : AreOrdered (stopped_keys stops)
  pub each : OneEach stops (terms_of v.state)
  pub state : v'.state ≡ record v.state { slots = reaped v.state.slots }
  pub fit : Same (row_keys v.rows) (keys (terms_of v.state)) → Same (row_keys v'.rows) (keys (terms_of v'.state))
  pub rows : (q : Quantity) (pick : Key → Bool) (input : Bool) → stopped_where q pick input stops + rows_where q pick input v'.rows ≡ rows_where q pick input v.rows
  pub count : length stops + length (terms_of v'.state) ≡ length (terms_of v.state)
  pub number : v'.number ≡ v.number
  pub allowance : v'.allowance ≡ v.allowance
  pub books : v'.books ≡ v.books
  pub journal : v'.journal ≡ v.journal
  pub outs : v'.outs ≡ v.outs
  pub sessions : HasFewSessions v'

-- Of each term of a shard of whose beginning no Start was formed yet one is formed, in order, and all else is as it was.
pub record BegunTo (v v' : Shown) (starts : List Key) : Type 0 where
  pub order : AreOrdered starts
  pub each : Same starts (map key_in v.state.slots.news)
  pub after : v' ≡ record v { state = record v.state { slots = record v.state.slots { news = [] } } }

-- no Stop was formed yet
abbrev pub no_stops : Stopped
no_stops = record { carried = empty_book; stops = 0 }

-- what all Stops say, and how many they are, with these Stops
abbrev pub plus_stops : Stopped → List Stop → Stopped
plus_stops stopped stops = record { carried = plus_book stopped.carried (all_stopped stops); stops = stopped.stops + length stops }

-- what a settlement writes to beside the shards: the lines of the circuits, what all Stops say and how many they are, the records of terms,
-- and of each shard which Interims were taken
pub record Accounts : Type 0 where
  pub lines : List CircuitLine
  pub stopped : Stopped
  pub billing : BillingState
  pub reports : List Reports

-- Of each of these Stops a record was formed, in their order, at this moment and this second on the wall, and what it says was added to
-- the line with its address and to what all Stops say, among which it was counted. They are of these terms.
pub record BooksStops (terms : List Tenure) (moment wall : ℕ) (stops : List Stop) (a a' : Accounts) : Type 0 where
  pub formed : List FormedRecord
  pub forms : Forms a.billing formed a'.billing
  pub are_stops : AllZip (IsStopOf terms moment wall) stops formed
  pub lines_are : a'.lines ≡ map (line_after stops) a.lines
  pub stopped_is : a'.stopped ≡ plus_stops a.stopped stops
  pub reports_are : a'.reports ≡ a.reports

-- Of each of the terms with these keys a Start was formed, in their order, at this moment and this second on the wall. They are of these
-- terms.
pub record BooksStarts (terms : List Tenure) (moment wall : ℕ) (keys : List Key) (a a' : Accounts) : Type 0 where
  pub formed : List FormedRecord
  pub forms : Forms a.billing formed a'.billing
  pub are_starts : AllZip (IsStartOf terms moment wall) keys formed
  pub lines_are : a'.lines ≡ a.lines
  pub stopped_is : a'.stopped ≡ a.stopped
  pub reports_are : a'.reports ≡ a.reports

-- accounting knows of the terms of before and of no others, and each that was live is live
pub record KeepsHeld (b b' : BillingState) : Type 0 where
  pub live : (t : TermId) → is_live (of_term t b.spool.held) ≡ true → is_live (of_term t b'.spool.held) ≡ true
  pub known : (t : TermId) (h : Held) → of_term t b'.spool.held ≡ Some h → IsSome (of_term t b.spool.held)

-- The Interims of a shard that are due were taken, and a record of each was formed whose last one is not open.
pub record ReportsShard (moment wall : ℕ) (v : Shown) (r r' : Reports) (b b' : BillingState) : Type 0 where
  pub formed : List FormedRecord
  pub forms : FormsInterims v.state.slots.terms moment wall b (owed v r.last moment) formed b'
  pub taken : TakesInterims moment v r r'

-- so of all shards, in their order
pub record ReportsAll {E : Type 0} (moment wall : ℕ) (vs : List (ShardView ShardState E)) (a a' : Accounts) : Type 0 where
  pub formed : List FormedRecord
  pub forms : FormsInterims (terms_in (map (λ v. v.state) vs)) moment wall a.billing (owed_by moment vs a.reports) formed a'.billing
  pub taken : Zip3 (TakesInterims moment) vs a.reports a'.reports
  pub lines_are : a'.lines ≡ a.lines
  pub stopped_is : a'.stopped ≡ a.stopped

-- the states of some shards
abbrev pub states_of : List Shown → List ShardState
states_of vs = map (λ v. v.state) vs

-- and their addresses were given back, and they were booked
pub record ReapsShard (terms : List Tenure) (moment wall : ℕ) (v v' : Shown) (pool pool' : PlainView) (a a' : Accounts) : Type 0 where
  pub stops : List Stop
  pub reaped : ReapedTo v v' stops
  pub returned : IsReturned stops pool pool'
  pub booked : BooksStops terms moment wall stops a a'

-- so in all shards, in their order
pub record ReapsAll (moment wall : ℕ) (vs vs' : List Shown) (pool pool' : PlainView) (a a' : Accounts) : Type 0 where
  pub stops : List (List Stop)
  pub each : Zip3 ReapedTo vs vs' stops
  pub returned : IsReturned (joined stops) pool pool'
  pub booked : BooksStops (terms_in (states_of vs)) moment wall (joined stops) a a'

-- the Starts of a shard were formed and booked, and those of all shards, in their order
pub record BeginsShard (terms : List Tenure) (moment wall : ℕ) (v v' : Shown) (a a' : Accounts) : Type 0 where
  pub starts : List Key
  pub begun : BegunTo v v' starts
  pub booked : BooksStarts terms moment wall starts a a'

pub record BeginsAll (moment wall : ℕ) (vs vs' : List Shown) (a a' : Accounts) : Type 0 where
  pub starts : List (List Key)
  pub each : Zip3 BegunTo vs vs' starts
  pub booked : BooksStarts (news_in (states_of vs)) moment wall (joined starts) a a'

-- what the Stops with a line's address say so far, in octets of one direction
abbrev pub stopped_in : Bool → CircuitLine → ℕ
stopped_in true l = l.stopped.input
stopped_in false l = l.stopped.output

-- and what a shard says of the terms that are there
abbrev pub kept_in : Bool → CircuitLine → Shown → ℕ
kept_in input l v = rows_where Octets (has_lease l.address) input v.rows

-- no more was carried with the line's address, in octets of either direction
abbrev pub CarriesWithin : (Bool → ℕ) → List Shown → CircuitLine → Type 0
CarriesWithin most vs l = (input : Bool) → stopped_in input l + sum_by (kept_in input l) vs ≤ most input

abbrev pub LinesWithin : (Bool → ℕ) → List Shown → List CircuitLine → Type 0
LinesWithin most vs lines = All (CarriesWithin most vs) lines

-- a number that no sum of octets comes near
abbrev pub far : Bool → ℕ
far input = 2 ^ 63

-- a line has room for what these Stops say of its address
abbrev pub TakesIn : List Stop → CircuitLine → Type 0
TakesIn stops l = (input : Bool) → stopped_in input l + stopped_where Octets (has_lease l.address) input stops ≤ far input

-- what was carried with the circuits' addresses stands in the tally
abbrev pub AreTallied : Book → List Shown → List CircuitLine → Type 0
AreTallied tally vs lines = LinesWithin (λ input. in_book Octets input tally) vs lines

-- what a shard says of all terms that are there, in one direction
abbrev pub live_by : Quantity → Bool → Shown → ℕ
live_by q input v = rows_where q is_any input v.rows

-- what all Stops say so far, and what the shards say of the terms that have none yet
abbrev pub carried_in_all : Quantity → Bool → List Shown → Stopped → ℕ
carried_in_all q input vs stopped = in_book q input stopped.carried + sum_by (live_by q input) vs

-- the terms that have a Stop, and those that have none yet
abbrev pub terms_in_all : List Shown → Stopped → ℕ
terms_in_all vs stopped = stopped.stops + live_terms vs

-- no more was carried, in octets and in packets of either direction, and there are not too many terms to be counted
pub record AllWithin (most : Bool → ℕ) (vs : List Shown) (stopped : Stopped) : Type 0 where
  pub carried : (q : Quantity) (input : Bool) → carried_in_all q input vs stopped ≤ most input
  pub terms : terms_in_all vs stopped ≤ 2 ^ 63

-- there is room for these Stops beside all Stops so far, and for what they say
pub record HasRoomFor (stops : List Stop) (stopped : Stopped) : Type 0 where
  pub carried : (q : Quantity) (input : Bool) → in_book q input stopped.carried + stopped_where q is_any input stops ≤ far input
  pub count : stopped.stops + length stops ≤ 2 ^ 63

-- what left the shards stands in what all Stops say, and nothing else changed
pub record SameInAll (vs : List Shown) (stopped : Stopped) (vs' : List Shown) (stopped' : Stopped) : Type 0 where
  pub carried : (q : Quantity) (input : Bool) → carried_in_all q input vs' stopped' ≡ carried_in_all q input vs stopped
  pub terms : terms_in_all vs' stopped' ≡ terms_in_all vs stopped

-- What was carried in all is exactly what stands in the tally, in octets and in packets of either direction; and each term that began has
-- its Stop, or has none yet.
pub record AddsUp (tally : Book) (vs : List Shown) (stopped : Stopped) : Type 0 where
  pub carried : (q : Quantity) (input : Bool) → carried_in_all q input vs stopped ≡ in_book q input tally
  pub terms : terms_in_all vs stopped ≡ begun_in vs

-- the desk has the shard as the engine left it
pub record IsLeftBy (w : Shown) (v : Sight) : Type 0 where
  pub number : w.number ≡ v.number
  pub state : w.state ≡ v.state
  pub rows : w.rows ≡ v.rows
  pub books : w.books ≡ v.books

-- A round was opened and settled: what it was, and what the trace is to be told.
pub record RoundHeld (r : Rules) (pool pool' : PlainView) (accounts accounts' : Accounts) (named : Named) (items : List Item) (old new : PlantTold) (shards shards' : List Shown) (drops drops' : Drops) (tally tally' : Book) (record_is : RoundRecord) : Type 0 where
  pub round : Round
  pub is : IsRound r shards pool (tally ∷ []) named.moment (items ∷ []) round
  pub shards_are : AllZip IsLeftBy shards' round.shards
  pub pool_is : round.pool ≡ pool'
  pub mid : Accounts
  pub ends : BooksStops (terms_in (handled_states shards round.shards)) named.moment named.wall (stops_of round) accounts mid
  pub started : Accounts
  pub begins : BooksStarts (news_in (handled_states shards round.shards)) named.moment named.wall (starts_of round) mid started
  pub reports : ReportsAll named.moment named.wall round.shards started accounts'
  pub allowed : map (λ v. v.allowance) round.shards ≡ map (λ v. v.allowance) shards
  pub tallies_are : round.tallies ≡ tally' ∷ []
  pub drops_are : drops' ≡ plus drops (drops_in (items ∷ []) round)
  pub told : ExtendsPlant old new (sends_stretch (all_sends round.shards))
  pub record_told : record_is ≡ record_of named.number named.moment named.wall (items ∷ []) round

-- The shards were made ready, each with its allowance, and the round was held.
pub record IsHeld (r : Rules) (pool pool' : PlainView) (accounts accounts' : Accounts) (named : Named) (items : List Item) (old new : PlantTold) (shards shards' : List Shown) (drops drops' : Drops) (tally tally' : Book) (record_is : RoundRecord) : Type 0 where
  pub ready : List Shown
  pub kept : AllZip Kept shards ready
  pub held : RoundHeld r pool pool' accounts accounts' named items old new ready shards' drops drops' tally tally' record_is
  pub allows : Allows accounts.billing shards (Some held.round)

-- The shards could not be made ready: the items of the outside were dropped, and nothing was sent.
pub record IsRefused (pool pool' : PlainView) (accounts accounts' : Accounts) (named : Named) (items : List Item) (old new : PlantTold) (shards shards' : List Shown) (drops drops' : Drops) (tally tally' : Book) (record_is : RoundRecord) : Type 0 where
  pub kept : AllZip Kept shards shards'
  pub told : new ≡ old
  pub drops_are : drops' ≡ plus drops (with_refused (length (refused_of items)))
  pub pool_is : pool' ≡ pool
  pub accounts_are : accounts' ≡ accounts
  pub tally_is : tally' ≡ tally
  pub record_told : record_is ≡ refused_record named.number named.moment named.wall (length shards) items

-- A round was held, and no item stays; or it could not be opened, and its verdicts and Ends stay.
abbrev pub Holds : Rules → PlainView → PlainView → Accounts → Accounts → Named → List Item → PlantTold → PlantTold → List Shown → List Shown → Drops → Drops → Book → Book → RoundRecord → Bool → List Item → Type 0
Holds r pool pool' accounts accounts' named items old new shards shards' drops drops' tally tally' record_is opened kept =
    ((opened ≡ true) × (kept ≡ []) × IsHeld r pool pool' accounts accounts' named items old new shards shards' drops drops' tally tally' record_is)
    ⊎ ((opened ≡ false) × (kept ≡ kept_of items) × IsRefused pool pool' accounts accounts' named items old new shards shards' drops drops' tally tally' record_is)

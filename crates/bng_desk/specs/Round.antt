-- A round and its settlement.
use Rattle.std.specs.Prelude.{◌≡◌, ℕ, ◌+◌, ◌<◌, ◌==◌, Bool, not, ◌&&◌, List, [], ◌∷◌, ◌++◌, Option, None, Some, map, filter, length, replicate, is_some, count_by, slice_index_or, if◌then◌else◌}
use Rattle.std.specs.List.{All, AllZip, Contains, flat_map, list_any}
use Rattle.bng_base.specs.declared.address.Ip4.{Ip4}
use Rattle.bng_base.specs.declared.book.Book.{Book}
use Rattle.bng_base.specs.declared.fate.DropCause.TheVariants.{LinkFailed, WantOfMemory}
use Rattle.bng_base.specs.declared.fate.Fate.{Fate}
use Rattle.bng_base.specs.declared.item.Entry.{Entry}
use Rattle.bng_base.specs.declared.item.Item.{Item}
use Rattle.bng_base.specs.declared.item.OutRecord.{OutRecord}
use Rattle.bng_base.specs.declared.round.RoundRecord.{RoundRecord}
use Rattle.bng_base.specs.Stretch.{PlantStretch}
use Rattle.bng_engine.specs.Calls.{all_sends}
use Rattle.bng_engine.specs.Journals.{after, claims_of}
use Rattle.bng_engine.specs.Pool.{ClaimsSoFar}
use Rattle.bng_engine.specs.Showing.{with_journal}
use Rattle.bng_engine.specs.Terms.{Key, Stop}
use Rattle.bng_engine.specs.Turns.{TurnOf, journals_in}
use Rattle.bng_engine.specs.Views.{ShardView, DeskView}
use Rattle.bng_engine.specs.Wire.{went}
use Rattle.bng_pool.specs.Plain.{PlainView}
use Rattle.bng_pool.specs.Tables.{Table, entry}
use Rattle.bng_steps.specs.declared.rules.Rules.{Rules}
use Rattle.bng_steps.specs.declared.whose.Whose.{Whose}
use Rattle.bng_steps.specs.declared.whose.Whose.TheVariants.{Loose as IsLoose, Stands}
use Rattle.bng_steps.specs.Protocol.{ShardState, Handled, pppoe}
use Rattle.bng_steps.specs.Tenures.{Tenure}
use Rattle.bng_steps.specs.Whose.{IsWhose}
use Rattle.bng_desk.specs.Counting.{Amounts, both, drops_of, of_cause}
use Rattle.bng_desk.specs.Items.{entries_in, all_loose, is_from_outside, without_claim}

-- Whose each item of each seat's list was; each shard as the engine sees it once the round is settled: with what its entries did, what
-- they had to send and the answers to these sends, and the terms that ended and began; the tally of each seat; who held which address
-- once all entries were handled, and who holds it once the round is settled.
pub record Round : Type 0 where
  pub whose : List (List Whose)
  pub shards : List (ShardView ShardState Handled)
  pub tallies : List Book
  pub claimed : PlainView
  pub pool : PlainView

-- the shards before a round
abbrev pub views_of : List (ShardView ShardState Entry) → List (ShardView ShardState Handled)
views_of shards = map (λ v. with_journal v []) shards

abbrev pub held_by : PlainView → List Ip4
held_by pool = map (λ e. record { 0 = e.0 }) pool.table

-- the desk as the engine sees it, before a round and once one is settled
abbrev pub view_of : List (ShardView ShardState Entry) → PlainView → List Book → DeskView ShardState Handled
view_of shards pool tallies = record { shards = views_of shards; held = held_by pool; tallies = tallies }

abbrev pub view_after : Round → DeskView ShardState Handled
view_after round = record { shards = round.shards; held = held_by round.pool; tallies = round.tallies }

-- the Stops of a round, and its Starts, of the first shard first
abbrev pub stops_of : Round → List Stop
stops_of round = flat_map (λ v. v.stops) round.shards

abbrev pub starts_of : Round → List Key
starts_of round = flat_map (λ v. v.starts) round.shards

-- the states of the shards once all entries of a round were handled, before its settlement
abbrev pub handled_states : List (ShardView ShardState Entry) → List (ShardView ShardState Handled) → List ShardState
handled_states [] ws = []
handled_states (v ∷ vs) [] = []
handled_states (v ∷ vs) (w ∷ ws) = after pppoe v.state w.journal ∷ handled_states vs ws

-- the terms of some shards, and those of whose beginning no Start was formed yet
abbrev pub terms_in : List ShardState → List Tenure
terms_in states = flat_map (λ (s : ShardState). s.slots.terms) states

abbrev pub news_in : List ShardState → List Tenure
news_in states = flat_map (λ (s : ShardState). s.slots.news) states

-- the one table has what the other has
abbrev pub HasAll : Table → Table → Type 0
HasAll table table' = (a k : ℕ) → entry table a ≡ Some k → entry table' a ≡ Some k

-- An item is for this by who held which address at some moment of a round, between its opening and its last entry.
pub record IsWhoseIn (r : Rules) (opening last : Table) (item : Item) (whose : Whose) : Type 0 where
  pub table : Table
  pub since : HasAll opening table
  pub until : HasAll table last
  pub is : IsWhose r (entry table) item whose

-- The entries of a round claimed addresses that were free, each once: each is held by the shard of its entry from then on, and no other
-- address changed hands.
pub record AreClaimed (pool pool' : PlainView) (shards : List (ShardView ShardState Handled)) : Type 0 where
  pub keeps : HasAll pool.table pool'.table
  pub claims : ClaimsSoFar pppoe (held_by pool) (journals_in shards) (held_by pool')
  pub holders : (n : ℕ) (d : ShardView ShardState Handled) (a : ℕ) → n < length shards → Contains (claims_of pppoe (slice_index_or shards n d).journal) a → entry pool'.table a ≡ Some n
  pub ranges : pool'.ranges ≡ pool.ranges
  pub places : pool'.shards ≡ pool.shards

-- whose an address is once the terms of these Stops have left
abbrev pub holder_after : List Stop → Table → ℕ → Option ℕ
holder_after stops table a = if list_any (λ (s : Stop). s.key.address.0 == a) stops then None else entry table a

-- the addresses of these Stops were given back, and no other changed
pub record IsReturned (stops : List Stop) (pool pool' : PlainView) : Type 0 where
  pub table : (a : ℕ) → entry pool'.table a ≡ holder_after stops pool.table a
  pub ranges : pool'.ranges ≡ pool.ranges
  pub shards : pool'.shards ≡ pool.shards

-- the entries of a shard, and those of a seat among some
abbrev pub entries_of : ShardView ShardState Handled → List Entry
entries_of v = map (λ (h : Handled). h.deed.entry) v.journal

abbrev pub of_seat : ℕ → List Entry → List Entry
of_seat seat entries = filter (λ (e : Entry). e.seat == seat) entries

-- In a shard's journal the entries of each seat are the items of that seat's list that stand in this shard, each once, in their order and
-- with its place. There are no others. Nothing is said of the order of the seats among each other.
pub record IsPart (lists : List (List Item)) (whose : List (List Whose)) (shard moment : ℕ) (journal : List Entry) : Type 0 where
  pub each : (seat : ℕ) → seat < length lists → of_seat seat journal ≡ entries_in seat shard 0 moment (slice_index_or lists seat []) (slice_index_or whose seat [])
  pub seats : All (λ (e : Entry). e.seat < length lists) journal

-- so in each shard, from the first shard on, its entries taken without their claims
abbrev pub AreParts : List (List Item) → List (List Whose) → ℕ → ℕ → List (ShardView ShardState Handled) → Type 0
AreParts lists whose shard moment [] = Unit {0}
AreParts lists whose shard moment (v ∷ vs) = IsPart lists whose shard moment (map without_claim (entries_of v)) × AreParts lists whose (shard + 1) moment vs

-- an item stands in one of so many shards, or in none
abbrev pub StandsWithin : ℕ → Whose → Type 0
StandsWithin shards (IsLoose fate) = Unit {0}
StandsWithin shards (Stands n) = n < shards

-- Each item of each seat's list is handled in the shard that it is for, which is one of those that there are, or loose.
pub record IsDealt (r : Rules) (pool : PlainView) (moment : ℕ) (lists : List (List Item)) (round : Round) : Type 0 where
  pub whose : AllZip (AllZip (IsWhoseIn r pool.table round.claimed.table)) lists round.whose
  pub inside : All (All (StandsWithin (length round.shards))) round.whose
  pub parts : AreParts lists round.whose 0 moment round.shards
  pub claimed : AreClaimed pool round.claimed round.shards

-- A round with its settlement: its items were dealt, and the shards made one turn of the engine, in which each journal is a run of steps,
-- each of its outs was sent once, what was sent was charged, each term that ended has a Stop, and its address was given back, and each
-- that began has a Start.
pub record IsRound (r : Rules) (shards : List (ShardView ShardState Entry)) (pool : PlainView) (tallies : List Book) (moment : ℕ) (lists : List (List Item)) (round : Round) : Type 0 where
  pub dealt : IsDealt r pool moment lists round
  pub turn : TurnOf pppoe (view_of shards pool tallies) (view_after round)
  pub returned : IsReturned (stops_of round) round.claimed round.pool

-- a shard once its round is over, and what it answered to requests for changes was told
abbrev pub left_by : ShardView ShardState Handled → ShardView ShardState Entry
left_by v = record {
  number = v.number;
  state = record v.state { changed = [] };
  rows = v.rows;
  books = v.books;
  allowance = 0;
  journal = [];
  outs = [];
  sends = [];
  stops = [];
  starts = [];
  room = 0;
}

-- the fates of the items before their sends: of the loose ones, and of the entries
abbrev pub fates_in : List (List Item) → Round → List Fate
fates_in lists round = map (λ l. l.fate) (all_loose 0 lists round.whose) ++ flat_map (λ v. map (λ (h : Handled). h.deed.fate) v.journal) round.shards

-- a packet whose send failed
abbrev pub is_failed : OutRecord → Bool
is_failed o = is_some o.charge && not o.sent

abbrev pub with_failed : ℕ → Amounts
with_failed n = of_cause LinkFailed n

-- what a round drops: by the fates, and the packets whose own send failed
abbrev pub drops_in : List (List Item) → Round → Amounts
drops_in lists round = both (drops_of (fates_in lists round)) (with_failed (count_by is_failed (all_sends round.shards)))

-- a send that the plant did not take
abbrev pub not_sent : OutRecord → Bool
not_sent o = not o.sent

-- what its sends add to what the plant tells; each that was not sent had failed
abbrev pub sends_stretch : List OutRecord → PlantStretch
sends_stretch sends = record { heard = []; taken = []; sent = went sends; failed = count_by not_sent sends }

-- what the trace is told of it
abbrev pub record_of : ℕ → ℕ → ℕ → List (List Item) → Round → RoundRecord
record_of number moment wall lists round = record {
  number = number;
  moment = moment;
  wall = wall;
  allowances = map (λ (v : ShardView ShardState Handled). v.allowance) round.shards;
  journals = map entries_of round.shards;
  loose = all_loose 0 lists round.whose;
  outs = all_sends round.shards;
  refused = [];
}

-- the items of the outside in a round that was not opened
abbrev pub refused_of : List Item → List Item
refused_of items = filter (λ (i : Item). is_from_outside i.kind) items

abbrev pub refused_record : ℕ → ℕ → ℕ → ℕ → List Item → RoundRecord
refused_record number moment wall shards items = record {
  number = number;
  moment = moment;
  wall = wall;
  allowances = replicate shards 0;
  journals = replicate shards [];
  loose = [];
  outs = [];
  refused = refused_of items;
}

abbrev pub with_refused : ℕ → Amounts
with_refused n = of_cause WantOfMemory n

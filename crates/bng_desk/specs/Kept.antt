-- What a desk keeps from turn to turn.
use Rattle.std.specs.Prelude.{◌≡◌, ◌⊎◌, ℕ, ◌+◌, ◌*◌, ◌^◌, ◌≤◌, Bool, true, false, List, [], ◌++◌, length, map, count_by}
use Rattle.std.specs.List.{All}
use Rattle.bng_base.specs.declared.item.Entry.{Entry}
use Rattle.bng_base.specs.declared.item.Item.{Item}
use Rattle.bng_base.specs.declared.item.ItemKind.TheVariants.{Change, Verdict}
use Rattle.bng_engine.specs.Books.{book_at}
use Rattle.bng_engine.specs.Views.{ShardView}
use Rattle.bng_steps.specs.Protocol.{ShardState, terms_of}
use Rattle.bng_shard.specs.Handling.{AreHeld, HasPools}
use Rattle.bng_steps.specs.Sums.{AreLow, RowsAreLow}
use Rattle.bng_desk.specs.Accounting.{AreBilled, KnowsBegun}
use Rattle.bng_desk.specs.Counting.{Within}
use Rattle.bng_desk.specs.Coa.{requests_most}
use Rattle.bng_desk.specs.Interims.{AreWaiting}
use Rattle.bng_desk.specs.Items.{ends_of, is_change_item, is_verdict_item}
use Rattle.bng_desk.specs.Logins.{verdicts_most}
use Rattle.bng_desk.specs.Model.{Desk, HasOneRule, keys_in, is_over, graces_most, rounds_left, unopened_most}
use Rattle.bng_desk.specs.Taking.{AllTold, IsEmpty, KeepsTerms, HasFewSessions, AddsUp, AreInOrder, AreItems, AreTallied}

-- a shard between two rounds, as the desk's contracts see it: nothing of a round, and no room for one
abbrev pub rested : ShardView ShardState Entry → ShardView ShardState Entry
rested v = record v { allowance = 0; journal = []; outs = []; sends = []; stops = []; starts = []; room = 0 }

-- what a round adds at most to all rows of a shard, to a book and to a tally: 1,024 packets of at most 4,160 octets
abbrev pub octets_most : ℕ
octets_most = 4259840

-- what a round adds at most to a count: 1,024 items, and as many packets as it may have outs, whose sends failed
abbrev pub drops_most : ℕ
drops_most = 32768

-- how many turns it made, of serving and of the ending
abbrev pub all_turns : Desk → ℕ
all_turns d = d.turns + d.endings

-- an item before its random octets are drawn
abbrev pub undrawn : Item → Item
undrawn i = record i { random = [] }

-- an End for each of so many shards, whatever its random octets are
abbrev pub AreEndsOf : ℕ → List Item → Type 0
AreEndsOf shards items = map undrawn items ≡ ends_of shards

-- no turn of the ending was made, and none of the grace
pub record IsUnended (d : Desk) : Type 0 where
  pub endings : d.endings ≡ 0
  pub unopened : d.unopened ≡ 0
  pub closed : d.closed ≡ false
  pub graces : d.graces ≡ 0

-- a request for a change, or a verdict
abbrev pub IsAsked : Item → Type 0
IsAsked i = (i.kind ≡ Change) ⊎ (i.kind ≡ Verdict)

-- at most 128 verdicts are among them, and at most 32 requests for changes
pub record AreFewAsked (items : List Item) : Type 0 where
  pub verdicts : count_by is_verdict_item items ≤ verdicts_most
  pub changes : count_by is_change_item items ≤ requests_most

-- What stands first among the items of a turn: requests and verdicts, of which so many are verdicts. Where Auth is read there is none yet.
pub record StandsFirst (reads : Bool) (verdicts : ℕ) (items : List Item) : Type 0 where
  pub all_asked : All IsAsked items
  pub few : AreFewAsked items
  pub count : verdicts ≡ count_by is_verdict_item items
  pub none : reads ≡ true → verdicts ≡ 0
  pub whole : All (λ (i : Item). i.frame.headroom ≡ 64) items

-- what stays of a round that was not opened: at most 32 requests for changes and 128 verdicts, and then an End for each shard, or none
pub record Stays (shards : ℕ) (items : List Item) : Type 0 where
  pub asked : List Item
  pub ends : List Item
  pub are : items ≡ asked ++ ends
  pub all_asked : All IsAsked asked
  pub few : AreFewAsked asked
  pub one_each : (ends ≡ []) ⊎ AreEndsOf shards ends

-- One port to sixteen, sixteen profiles at most, one shard to 64 in their order, all by the desk's rules, with nothing of a round in them
-- and at most 1,022 sessions in each, one seat. Its terms hold their addresses, have numbers that it gave, and have a Start each. No sum is
-- above what the turns so far could add, and none wraps before the last; what was carried with a circuit's address, by Stops and by rows,
-- stands in the seat's tally, and what all Stops and all rows say is exactly that tally; each term that began has its Stop, or has none
-- yet. What stays of a round that was not opened are requests for changes and verdicts, and Ends in the ending alone. All that the shards
-- answered to requests was told. Of each shard there is a list of the questions that it handed out. Each term that is there is live in
-- accounting, no two terms are one, and accounting knows of no term that did not begin. No Interim is due before the moment that is kept
-- for that of its shard.
pub record IsKept (d : Desk) : Type 0 where
  pub some_port : 1 ≤ length d.rules.access
  pub few_ports : length d.rules.access ≤ 16
  pub few_profiles : length d.rules.profiles ≤ 16
  pub shards : length d.shards ≡ d.rules.shards
  pub some_shard : 1 ≤ d.rules.shards
  pub few_shards : d.rules.shards ≤ 64
  pub order : AreInOrder d.shards
  pub rules : HasOneRule d
  pub empty : All IsEmpty d.shards
  pub sessions : All HasFewSessions d.shards
  pub pools : HasPools d.rules.pools d.pool.ranges
  pub places : d.pool.shards ≡ d.rules.shards
  pub held : All (λ v. AreHeld v.number (terms_of v.state) d.pool.table) d.shards
  pub terms : All (KeepsTerms d.moment) d.shards
  pub most : d.rounds ≤ 2 ^ 40
  pub made : d.turns ≤ d.rounds
  pub serving : is_over d ≡ false → IsUnended d
  pub endings : d.endings ≤ 2 ^ 37
  pub unopened : d.unopened ≤ unopened_most
  pub left : d.endings + unopened_most * rounds_left d ≤ unopened_most * 65410 + d.unopened
  pub told : d.told ≤ all_turns d
  pub drawn : d.drawn ≤ 1 + 2048 * all_turns d
  pub one_seat : length d.tallies ≡ 1
  pub low : All (λ v. RowsAreLow (octets_most * all_turns d) v.rows) d.shards
  pub books : All (λ v. AreLow (octets_most * all_turns d) v.books) d.shards
  pub tallies : AreLow (octets_most * all_turns d) d.tallies
  pub tallied : AreTallied (book_at 0 d.tallies) d.shards d.lines
  pub adds_up : AddsUp (book_at 0 d.tallies) d.shards (record { carried = d.stopped_book; stops = d.stops })
  pub counts : Within (drops_most * all_turns d) d.drops
  pub kept : AreItems d.kept
  pub stays : Stays (length d.shards) d.kept
  pub while_serving : is_over d ≡ false → All IsAsked d.kept
  pub handed : length d.handed ≡ length d.shards
  pub closing : d.closing ≤ d.moment
  pub graces : d.graces ≤ graces_most
  pub billed : AreBilled (keys_in d.shards) d.billing
  pub knows : KnowsBegun d.shards d.billing
  pub awaited : AreWaiting d.moment d.shards d.reports
  pub all_told : All AllTold d.shards

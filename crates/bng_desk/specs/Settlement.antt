-- The settlement of a turn: what it begins with, what it does, and what it keeps.
use Rattle.std.specs.Prelude.{◌≡◌, ℕ, ◌+◌, ◌*◌, ◌^◌, ◌≤◌, ◌<◌, List, [], length, replicate, true, false, vec_capacity}
use Rattle.std.specs.List.{All}
use Rattle.bng_base.specs.declared.item.Item.{Item}
use Rattle.bng_base.specs.declared.round.RoundRecord.{RoundRecord}
use Rattle.bng_base.specs.Causes.{HasCause}
use Rattle.bng_base.specs.Told.{PlantTold, TraceTold, Grows}
use Rattle.bng_steps.specs.declared.rules.Rules.{Rules}
use Rattle.bng_steps.specs.Protocol.{terms_of}
use Rattle.bng_shard.specs.Handling.{AreHeld, HasPools}
use Rattle.bng_steps.specs.Sums.{IsLow, AreLow, RowsAreLow}
use Rattle.bng_billing.specs.State.{BillingState}
use Rattle.bng_desk.specs.declared.holding.Named.{Named}
use Rattle.bng_desk.specs.declared.lists.Lists.{Lists}
use Rattle.bng_desk.specs.declared.settlement.Settled.{Settled}
use Rattle.bng_desk.specs.declared.settlement.Works.{Works}
use Rattle.bng_desk.specs.Accounting.{AreBilled, KnowsBegun}
use Rattle.bng_desk.specs.Counting.{Within}
use Rattle.bng_desk.specs.Coa.{CoaReply}
use Rattle.bng_desk.specs.Intake.{SendsReplies, SendsRequests, SendsRecords}
use Rattle.bng_desk.specs.Interims.{AreWaiting}
use Rattle.bng_desk.specs.Items.{kept_of}
use Rattle.bng_desk.specs.Kept.{octets_most, drops_most}
use Rattle.bng_desk.specs.Model.{keys_in}
use Rattle.bng_desk.specs.Taking.{AllTold, Shown, IsEmpty, KeepsTerms, HasFewSessions, AddsUp, AreInOrder, AreItems, AreTallied, Holds, outs_of_items}
use Rattle.bng_desk.specs.Turn.{told_if}

-- the lists of a turn over so many shards, with nothing on them but its items, and with room for all that it may put on them
pub record AreBlank (shards : ℕ) (lists : Lists) : Type 0 where
  pub loose : lists.loose.items ≡ []
  pub loose_room : 1024 ≤ vec_capacity lists.loose
  pub journals : lists.journals.items ≡ []
  pub journals_room : shards ≤ vec_capacity lists.journals
  pub outs : lists.outs.items ≡ []
  pub outs_room : 8320 + 320 * shards ≤ lists.outs.room
  pub allowances : lists.allowances.items ≡ replicate shards 0

-- The shards are those of the rules, in their order, with nothing of a round in them, and no sum is near its end; what was carried with the
-- circuits' addresses stands in the tally, which is exactly what was carried in all, and the terms are billed. All that the shards answered
-- to requests for changes was told. Nothing stays of the round before, and there is room for what may stay of this one.
pub record IsReady (r : Rules) (named : Named) (lists : Lists) (w : Works) : Type 0 where
  pub count : length w.shards.items ≡ r.shards
  pub some : 1 ≤ r.shards
  pub few : r.shards ≤ 64
  pub order : AreInOrder w.shards.items
  pub empty : All IsEmpty w.shards.items
  pub sessions : All HasFewSessions w.shards.items
  pub places : w.pool.shards ≡ r.shards
  pub held : All (λ v. AreHeld v.number (terms_of v.state) w.pool.table) w.shards.items
  pub pools : HasPools r.pools w.pool.ranges
  pub one_rule : All (λ v. v.state.rules ≡ r) w.shards.items
  pub terms : All (KeepsTerms named.moment) w.shards.items
  pub low : All (λ v. RowsAreLow (2 ^ 62 + 2 ^ 61) v.rows) w.shards.items
  pub books : All (λ v. AreLow (2 ^ 62 + 2 ^ 61) v.books) w.shards.items
  pub tally : IsLow (2 ^ 62 + 2 ^ 61) w.tally
  pub tallied : AreTallied w.tally w.shards.items w.accounts.lines
  pub adds_up : AddsUp w.tally w.shards.items w.accounts.stopped
  pub billed : AreBilled (keys_in w.shards.items) w.accounts.billing
  pub knows : KnowsBegun w.shards.items w.accounts.billing
  pub awaited : AreWaiting named.moment w.shards.items w.accounts.reports
  pub all_told : All AllTold w.shards.items
  pub moment : named.moment < 2 ^ 60
  pub counts : Within (2 ^ 61) w.drops
  pub drawn : w.draws.drawn < 2 ^ 60
  pub handed : length w.handed.items ≡ length w.shards.items
  pub none_kept : w.kept.items ≡ []
  pub room : length (kept_of lists.items.items) ≤ vec_capacity w.kept
  pub items : AreItems lists.items.items
  pub few_outs : outs_of_items lists.items.items ≤ 8320 + 320 * length w.shards.items
  pub blank : AreBlank (length w.shards.items) lists

-- A round of these items was held, or could not be opened; then the replies to requests for changes were sent, those that are repeated
-- first, then the requests of the lane, and then those of accounting; and the trace was told the round.
pub record Settles (r : Rules) (named : Named) (repeats : List CoaReply) (items : List Item) (w w' : Works) (p p' : PlantTold) (t t' : TraceTold) (s : Settled) : Type 0 where
  pub round : RoundRecord
  pub booked : BillingState
  pub held : List Shown
  pub sent : PlantTold
  pub replied : PlantTold
  pub asked : PlantTold
  pub holds : Holds r w.pool w'.pool w.accounts (record w'.accounts { billing = booked }) named items p sent w.shards.items held w.drops w'.drops w.tally w'.tally round s.is_opened w'.kept.items
  pub replies : SendsReplies r repeats round.loose held w'.shards.items sent replied w.coa w'.coa
  pub asks : SendsRequests named.moment w'.shards.items replied asked w.lane w'.lane w.handed.items w'.handed.items w.draws w'.draws
  pub bills : SendsRecords named.moment asked p' booked w'.accounts.billing
  pub rounds : Grows t.rounds t'.rounds (told_if s.noted round)
  pub cause : HasCause t.faults t'.faults (s.noted ≡ false)
  pub uncounted : s.noted ≡ true → t'.faults ≡ t.faults

-- The shards are as many as before, in their order, with nothing of a round in them. No sum is higher than a round can make it; what was
-- carried with the circuits' addresses stands in the tally still, which is exactly what was carried in all, and the terms are billed. The
-- round was at this moment.
pub record KeepsWorks (moment : ℕ) (w w' : Works) : Type 0 where
  pub count : length w'.shards.items ≡ length w.shards.items
  pub order : AreInOrder w'.shards.items
  pub empty : All IsEmpty w'.shards.items
  pub sessions : All HasFewSessions w'.shards.items
  pub low : (most : ℕ) → All (λ v. RowsAreLow most v.rows) w.shards.items → All (λ v. RowsAreLow (most + octets_most) v.rows) w'.shards.items
  pub books : (most : ℕ) → All (λ v. AreLow most v.books) w.shards.items → All (λ v. AreLow (most + octets_most) v.books) w'.shards.items
  pub tally : (most : ℕ) → IsLow most w.tally → IsLow (most + octets_most) w'.tally
  pub tallied : AreTallied w'.tally w'.shards.items w'.accounts.lines
  pub adds_up : AddsUp w'.tally w'.shards.items w'.accounts.stopped
  pub billed : AreBilled (keys_in w'.shards.items) w'.accounts.billing
  pub counts : (most : ℕ) → Within most w.drops → Within (most + drops_most) w'.drops
  pub drawn : w'.draws.drawn ≤ w.draws.drawn + 256
  pub handed : length w'.handed.items ≡ length w.handed.items
  pub room : vec_capacity w'.kept ≡ vec_capacity w.kept
  pub places : w'.pool.shards ≡ w.pool.shards
  pub held : All (λ v. AreHeld v.number (terms_of v.state) w'.pool.table) w'.shards.items
  pub ranges : w'.pool.ranges ≡ w.pool.ranges
  pub terms : All (KeepsTerms moment) w'.shards.items
  pub knows : KnowsBegun w'.shards.items w'.accounts.billing
  pub awaited : AreWaiting moment w'.shards.items w'.accounts.reports

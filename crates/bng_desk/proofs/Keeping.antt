-- What a desk keeps from turn to turn.
use Rattle.std.proofs.Common.{◌≡◌, ◌≢◌, inl, ℕ, zero, suc, ◌+◌, ◌-◌, ◌*◌, ◌<◌, ◌≤◌, Bool, true, false, not, ◌&&◌, ◌||◌, cond, List, [], ◌∷◌, length, eqb, leb, refl, sym, ap, subst, ◌∙◌, arith}
use Rattle.std.specs.List.{All}
use Rattle.std.proofs.lemmas.Bool.{false≢true, or_parts, leb-false}
use Rattle.std.proofs.lemmas.Bool.Decides.{nat_tests}
use Rattle.std.proofs.lemmas.List.Elements.{All-filter}
use Rattle.std.proofs.lemmas.List.Sums.{sum_by-le}
use Rattle.bng_acct.specs.Spool.{unacked_stops}
use Rattle.bng_base.specs.declared.item.Entry.{Entry}
use Rattle.bng_base.specs.declared.book.Book.{Book}
use Rattle.bng_base.specs.declared.book.Range.{Range}
use Rattle.bng_base.specs.declared.item.Item.{Item}
use Rattle.bng_desk.specs.declared.desk.DeskState.{DeskState}
use Rattle.bng_desk.specs.declared.desk.DeskState.TheVariants.{Serving, Ending, Grace, Ended, Starved}
use Rattle.bng_base.specs.Told.{PlantTold}
use Rattle.bng_desk.specs.declared.settlement.Works.{Works}
use Rattle.bng_desk.specs.Accounting.{AreBilled, KnowsBegun}
use Rattle.bng_desk.specs.Counting.{Within}
use Rattle.bng_lane.specs.State.{LaneState}
use Rattle.bng_desk.specs.Intake.{Gathers}
use Rattle.bng_desk.specs.Interims.{AreWaiting}
use Rattle.bng_desk.specs.Kept.{AreFewAsked, IsAsked, IsKept, IsUnended, StandsFirst, Stays, all_turns, octets_most, drops_most}
use Rattle.bng_desk.specs.Logins.{reply_items}
use Rattle.bng_desk.specs.Model.{Desk, keys_in, is_over, grace_is_over, graces_most, grace_most, has_ended, has_starved, left_of, rounds_left, sessions_in, state_of, unopened_most}
use Rattle.bng_desk.specs.Items.{kept_of, stays}
use Rattle.bng_desk.specs.Random.{Drawn}
use Rattle.bng_desk.specs.Taking.{AllTold, IsEmpty, KeepsTerms, HasFewSessions, AddsUp, AreInOrder, AreItems, AreTallied}
use Rattle.bng_desk.proofs.Readying.{Shards, WorksBy}
use Rattle.bng_desk.proofs.Returning.{HoldsOwn}
use Rattle.bng_desk.specs.Turn.{ending_items, ending_draws, has_end, told_after}
use Rattle.bng_desk.specs.Reading.{is_empty}
use Rattle.bng_desk.proofs.DropLaws.{within_wider}
use Rattle.bng_desk.proofs.Ending.{after_ending}
use Rattle.bng_desk.proofs.ItemLaws.{IsWhole}
use Rattle.bng_steps.specs.Protocol.{ShardState, sessions_of}
use Rattle.bng_shard.specs.Handling.{HasPools}
use Rattle.bng_steps.specs.Sums.{IsLow, AreLow}
use Rattle.bng_engine.specs.Books.{book_at}
use Rattle.bng_engine.specs.Views.{ShardView}
use Rattle.bng_desk.proofs.Dwindling.{Nears, less_left, still_left, unopened_low}
use Rattle.bng_desk.proofs.Joining.{HasLow, HasLowBooks, low_wider, books_wider}
use Rattle.bng_desk.proofs.OneMore.{low_more}
use Rattle.bng_desk.proofs.GatherLaws.{auth_few}
use Rattle.bng_desk.proofs.Staying.{AreEnds, IsStaying, are_there, asked_items, asked_stay, ends_by, ending_few, ending_kept, ending_stays, few_asked, few_while, items_of_ends, serving_stays}
use Rattle.bng_desk.proofs.Turning.{after_turn}
use Rattle.bng_desk.proofs.Works.{kept_with}

-- Where a desk stands, by its tests -----------------------------------------------------------------------------------------

abbrev state_by : Bool → Bool → Bool → Bool → DeskState
state_by over ended done starved = cond (not over) Serving (cond ended (cond done Ended Grace) (cond starved Starved Ending))

serving_by : (over ended done starved : Bool) → state_by over ended done starved ≡ Serving → over ≡ false
serving_by true true true starved e = cc
serving_by true true false starved e = cc
serving_by true false done true e = cc
serving_by true false done false e = cc
serving_by false ended done starved e = refl

-- the tests of a desk that ends
record IsEnding (over ended starved : Bool) : Type 0 where
  over_is : over ≡ true
  ended_is : ended ≡ false
  starved_is : starved ≡ false

ending_by : (over ended done starved : Bool) → state_by over ended done starved ≡ Ending → IsEnding over ended starved
ending_by true true true starved e = let no : ⊥ = cc in absurd no
ending_by true true false starved e = let no : ⊥ = cc in absurd no
ending_by true false done true e = let no : ⊥ = cc in absurd no
ending_by true false done false e = record { over_is = refl; ended_is = refl; starved_is = refl }
ending_by false ended done starved e = let no : ⊥ = cc in absurd no

-- and those of one in its grace
record IsInGrace (over done : Bool) : Type 0 where
  over_is : over ≡ true
  done_is : done ≡ false

grace_by : (over ended done starved : Bool) → state_by over ended done starved ≡ Grace → IsInGrace over done
grace_by true true true starved e = let no : ⊥ = cc in absurd no
grace_by true true false starved e = record { over_is = refl; done_is = refl }
grace_by true false done true e = let no : ⊥ = cc in absurd no
grace_by true false done false e = let no : ⊥ = cc in absurd no
grace_by false ended done starved e = let no : ⊥ = cc in absurd no

differs : (a b : ℕ) → eqb a b ≡ false → a ≢ b
differs a b e = grind (arith, nat_tests)

-- a desk that serves has turns left
pub turns_left : (d : Desk) → state_of d ≡ Serving → d.turns ≤ d.rounds → d.turns < d.rounds
turns_left d e made =
    let parts = or_parts d.stopped (eqb d.turns d.rounds) (serving_by (is_over d) (has_ended d) (grace_is_over d) (has_starved d) e) in
    let other : d.turns ≢ d.rounds = differs d.turns d.rounds parts.1 in
    omega (arith, made, other)

-- a desk that serves is not over
pub not_over : (d : Desk) → state_of d ≡ Serving → is_over d ≡ false
not_over d e = serving_by (is_over d) (has_ended d) (grace_is_over d) (has_starved d) e

some_left : (b : Bool) (n : ℕ) → (b && eqb n 0) ≡ false → b ≡ true → 1 ≤ n
some_left true n e f = let other : n ≢ 0 = differs n 0 e in omega (arith, other)
some_left false n e f = absurd (false≢true f)

-- A desk that ends is over, has opened a round in its last turns of the ending, and has a session left where one was opened.
pub record Ends (d : Desk) : Type 0 where
  pub over : is_over d ≡ true
  pub low : d.unopened < unopened_most
  pub some : d.closed ≡ true → 1 ≤ sessions_in d.shards

pub ends_of_state : (d : Desk) → state_of d ≡ Ending → Ends d
ends_of_state d e =
    let is = ending_by (is_over d) (has_ended d) (grace_is_over d) (has_starved d) e in
    record {
      over = is.over_is;
      low = leb-false unopened_most d.unopened is.starved_is;
      some = some_left d.closed (sessions_in d.shards) is.ended_is;
    }

-- A desk in its grace is over, and has turns of the grace left.
pub record Graces (d : Desk) : Type 0 where
  pub over : is_over d ≡ true
  pub few : d.graces < graces_most

pub graces_of_state : (d : Desk) → state_of d ≡ Grace → Graces d
graces_of_state d e =
    let is = grace_by (is_over d) (has_ended d) (grace_is_over d) (has_starved d) e in
    let late : Bool = leb (d.closing + grace_most) d.moment in
    let many : Bool = leb graces_most d.graces in
    let some = or_parts (is_empty (unacked_stops d.billing.spool)) (late || many) is.done_is in
    record { over = is.over_is; few = leb-false graces_most d.graces (or_parts late many some.1).1 }

-- Sessions ----------------------------------------------------------------------------------------------------------------

pub few_in : (vs : Shards) → All HasFewSessions vs → sessions_in vs ≤ 1022 * length vs
few_in vs few = omega (arith, sum_by-le (λ (v : ShardView ShardState Entry). sessions_of v.state) 1022 vs few)

-- before the ending no turn of it counts
pub unended_left : (d : Desk) (vs : Shards) → IsUnended d → All HasFewSessions vs → length vs ≤ 64 → d.endings + unopened_most * (sessions_in vs + cond d.closed 0 1) ≤ unopened_most * 65410 + d.unopened
unended_left d vs u few count = omega (arith, u.endings, ap {B = ℕ} (λ (b : Bool). cond b 0 1) u.closed, few_in vs few, count)

-- One round more ------------------------------------------------------------------------------------------------------------

-- the tally of the one seat
low_at : (most : ℕ) (tally : Book) → IsLow most tally → (i : ℕ) → i < 1 → IsLow most (book_at i (tally ∷ []))
low_at most tally low zero lt = low
low_at most tally low (suc i) lt = absurd (omega (arith, lt))

pub one_low : (most : ℕ) (tally : Book) → IsLow most tally → AreLow most (tally ∷ [])
one_low most tally low = low_at most tally low

-- what a settlement leaves
pub record IsLeft (d : Desk) (moment : ℕ) (w : Works) : Type 0 where
  pub shards : length w.shards.items ≡ length d.shards
  pub order : AreInOrder w.shards.items
  pub rules : All (WorksBy d.rules) w.shards.items
  pub empty : All IsEmpty w.shards.items
  pub sessions : All HasFewSessions w.shards.items
  pub low : All (HasLow (octets_most * all_turns d + octets_most)) w.shards.items
  pub books : All (HasLowBooks (octets_most * all_turns d + octets_most)) w.shards.items
  pub places : w.pool.shards ≡ d.pool.shards
  pub held : All (HoldsOwn w.pool.table) w.shards.items
  pub ranges : w.pool.ranges ≡ d.pool.ranges
  pub terms : All (KeepsTerms moment) w.shards.items
  pub tally_low : IsLow (octets_most * all_turns d + octets_most) w.tally
  pub tallied : AreTallied w.tally w.shards.items w.accounts.lines
  pub adds_up : AddsUp w.tally w.shards.items w.accounts.stopped
  pub counts : Within (drops_most * all_turns d + drops_most) w.drops
  pub drawn_is : w.draws.drawn ≤ d.drawn + 2048
  pub handed_is : length w.handed.items ≡ length d.handed
  pub billed : AreBilled (keys_in w.shards.items) w.accounts.billing
  pub knows : KnowsBegun w.shards.items w.accounts.billing
  pub awaited : AreWaiting moment w.shards.items w.accounts.reports
  pub all_told : All AllTold w.shards.items

-- what stays of the round
pub record AreKept (d : Desk) (kept : List Item) : Type 0 where
  pub items : AreItems kept
  pub stays : Stays (length d.shards) kept

pub none_kept : (d : Desk) → AreKept d []
none_kept d = record {
  items = record { few = omega arith; whole = λ k e l. absurd (omega arith); once = λ i j e low high. absurd (omega arith) };
  stays = record { asked = []; ends = []; are = refl; all_asked = λ k e l. absurd (omega arith); few = record { verdicts = omega arith; changes = omega arith }; one_each = inl refl };
}

pub kept_served : (d : Desk) (w : Works) (stopped : Bool) (moment told : ℕ) → IsKept d → is_over d ≡ false → d.turns < d.rounds → d.moment ≤ moment → IsLeft d moment w → told ≤ d.told + 1 → AreKept d w.kept.items → All IsAsked w.kept.items
    → IsKept (after_turn (kept_with d w) stopped moment told)
kept_served d w stopped moment told k serves turns later l up staying verdicts =
    let u = k.serving serves in
    record {
      some_port = k.some_port;
      few_ports = k.few_ports;
      few_profiles = k.few_profiles;
      shards = l.shards ∙ k.shards;
      some_shard = k.some_shard;
      few_shards = k.few_shards;
      order = l.order;
      rules = l.rules;
      empty = l.empty;
      sessions = l.sessions;
      pools = subst (λ (rs : List Range). HasPools d.rules.pools rs) (sym l.ranges) k.pools;
      places = l.places ∙ k.places;
      held = l.held;
      terms = l.terms;
      most = k.most;
      made = omega (arith, turns);
      serving = λ _. record { endings = u.endings; unopened = u.unopened; closed = u.closed; graces = u.graces };
      endings = k.endings;
      unopened = k.unopened;
      left = unended_left d w.shards.items u l.sessions (omega (arith, l.shards, k.shards, k.few_shards));
      told = omega (arith, k.told, up);
      drawn = omega (arith, k.drawn, l.drawn_is);
      one_seat = refl;
      low = low_wider (octets_most * all_turns d + octets_most) (octets_most * (d.turns + 1 + d.endings)) w.shards.items (omega arith) l.low;
      books = books_wider (octets_most * all_turns d + octets_most) (octets_most * (d.turns + 1 + d.endings)) w.shards.items (omega arith) l.books;
      tallies = one_low (octets_most * (d.turns + 1 + d.endings)) w.tally (low_more (octets_most * all_turns d + octets_most) (octets_most * (d.turns + 1 + d.endings)) w.tally (omega arith) l.tally_low);
      tallied = l.tallied;
      adds_up = l.adds_up;
      counts = within_wider (drops_most * all_turns d + drops_most) (drops_most * (d.turns + 1 + d.endings)) w.drops (omega arith) l.counts;
      kept = staying.items;
      stays = subst (λ (n : ℕ). Stays n w.kept.items) (sym l.shards) staying.stays;
      while_serving = λ _. verdicts;
      handed = l.handed_is ∙ k.handed ∙ sym l.shards;
      closing = omega (arith, k.closing, later);
      graces = k.graces;
      billed = l.billed;
      knows = l.knows;
      awaited = l.awaited;
      all_told = l.all_told;
    }

-- what a turn of the ending leaves of those that there may be
pub record IsNearer (d : Desk) (ws : Shards) (unopened : ℕ) (closed : Bool) : Type 0 where
  pub low : unopened ≤ unopened_most
  pub left : d.endings + 1 + unopened_most * (sessions_in ws + cond closed 0 1) ≤ unopened_most * 65410 + unopened
  pub less : unopened_most * (sessions_in ws + cond closed 0 1) + (unopened_most - unopened) + (graces_most - d.graces) < left_of d

pub is_nearer : (d : Desk) (ws : Shards) (opened : Bool) (unopened : ℕ) (closed : Bool) → Ends d → Nears opened (sessions_in d.shards) (sessions_in ws) → d.endings + unopened_most * rounds_left d ≤ unopened_most * 65410 + d.unopened
    → unopened ≡ cond opened 0 (d.unopened + 1) → closed ≡ (d.closed || opened) → IsNearer d ws unopened closed
is_nearer d ws opened unopened closed e nears left unopened_is closed_is =
    subst (λ (n : ℕ). IsNearer d ws n closed) (sym unopened_is)
    (subst (λ (b : Bool). IsNearer d ws (cond opened 0 (d.unopened + 1)) b) (sym closed_is)
    (record {
      low = unopened_low opened d.unopened e.low;
      left = still_left opened d.closed (sessions_in d.shards) (sessions_in ws) d.unopened d.endings e.low e.some nears left;
      less = omega (arith, less_left opened d.closed (sessions_in d.shards) (sessions_in ws) d.unopened e.low e.some nears);
    }))

not_served : (b : Bool) (X : Type 0) → b ≡ true → b ≡ false → X
not_served true X e f = absurd (false≢true (sym f))
not_served false X e f = absurd (false≢true e)

pub kept_ended : (d : Desk) (w : Works) (unopened : ℕ) (closed : Bool) (closing moment told : ℕ) → IsKept d → is_over d ≡ true → IsNearer d w.shards.items unopened closed → d.moment ≤ moment → closing ≤ moment → IsLeft d moment w → told ≤ d.told + 1 → AreKept d w.kept.items
    → IsKept (after_ending (kept_with d w) unopened closed closing moment told)
kept_ended d w unopened closed closing moment told k over near later before l up staying = record {
  some_port = k.some_port;
  few_ports = k.few_ports;
  few_profiles = k.few_profiles;
  shards = l.shards ∙ k.shards;
  some_shard = k.some_shard;
  few_shards = k.few_shards;
  order = l.order;
  rules = l.rules;
  empty = l.empty;
  sessions = l.sessions;
  pools = subst (λ (rs : List Range). HasPools d.rules.pools rs) (sym l.ranges) k.pools;
  places = l.places ∙ k.places;
  held = l.held;
  terms = l.terms;
  most = k.most;
  made = k.made;
  serving = λ serves. not_served (is_over d) (IsUnended (after_ending (kept_with d w) unopened closed closing moment told)) over serves;
  endings = omega (arith, near.left, near.low);
  unopened = near.low;
  left = near.left;
  told = omega (arith, k.told, up);
  drawn = omega (arith, k.drawn, l.drawn_is);
  one_seat = refl;
  low = low_wider (octets_most * all_turns d + octets_most) (octets_most * (d.turns + (d.endings + 1))) w.shards.items (omega arith) l.low;
  books = books_wider (octets_most * all_turns d + octets_most) (octets_most * (d.turns + (d.endings + 1))) w.shards.items (omega arith) l.books;
  tallies = one_low (octets_most * (d.turns + (d.endings + 1))) w.tally (low_more (octets_most * all_turns d + octets_most) (octets_most * (d.turns + (d.endings + 1))) w.tally (omega arith) l.tally_low);
  tallied = l.tallied;
  adds_up = l.adds_up;
  counts = within_wider (drops_most * all_turns d + drops_most) (drops_most * (d.turns + (d.endings + 1))) w.drops (omega arith) l.counts;
  kept = staying.items;
  stays = subst (λ (n : ℕ). Stays n w.kept.items) (sym l.shards) staying.stays;
  while_serving = λ serves. not_served (is_over d) (All IsAsked w.kept.items) over serves;
  handed = l.handed_is ∙ k.handed ∙ sym l.shards;
  closing = before;
  graces = k.graces;
  billed = l.billed;
  knows = l.knows;
  awaited = l.awaited;
  all_told = l.all_told;
}

-- the number of the last round that the trace took rises by one at most
pub few_told : (noted : Bool) (n : ℕ) → told_after noted n ≤ n + 1
few_told true n = omega arith
few_told false n = omega arith

-- The items of a round ------------------------------------------------------------------------------------------------------

-- of what stays while the desk serves there is little
pub few_kept : (d : Desk) → IsKept d → is_over d ≡ false → AreFewAsked d.kept
few_kept d k serves = few_while (length d.shards) d.kept (omega (arith, k.some_shard, k.shards)) k.stays (k.while_serving serves)

-- what stays of the items of a turn while serving
pub record StaysServing (d : Desk) (items : List Item) : Type 0 where
  pub few : length (kept_of items) ≤ 160
  pub asked : All IsAsked (kept_of items)
  pub kept : AreKept d (kept_of items)

pub serving_staying : (d : Desk) (vs : Shards) (moment : ℕ) (reads : Bool) (verdicts : ℕ) (front : List Item) (p p' : PlantTold) (l l' : LaneState) (draws draws' : Drawn) (items : List Item) (quiet : Bool)
    → Gathers d.rules vs moment reads verdicts front p p' l l' draws draws' items quiet → AreItems items → StandsFirst reads verdicts front → StaysServing d items
serving_staying d vs moment reads verdicts front p p' l l' draws draws' items quiet g whole first =
    let few_verdicts : verdicts ≤ 128 = omega (arith, first.count, first.few.verdicts) in
    let enough : verdicts + length (reply_items g.answers) ≤ 128 = auth_few reads verdicts g.answers g.auth_end g.auth few_verdicts first.none in
    let staying : IsStaying items = subst IsStaying (sym g.items_are)
    (serving_stays d.rules draws.seed draws.drawn moment front g.answers g.readings g.timed vs g.are_roles first.all_asked first.few.changes (omega (arith, first.count, enough, g.times_out.few))) in
    let these : length (kept_of items) ≤ 160 = few_asked (kept_of items) staying.asked staying.few in
    record {
      few = these;
      asked = staying.asked;
      kept = record {
        items = asked_items (kept_of items) staying.asked (All-filter (λ (i : Item). stays i.kind) IsWhole items whole.whole) (omega (arith, these));
        stays = asked_stay (length d.shards) (kept_of items) staying.asked staying.few;
      };
    }

-- the items of a round of the ending are requests and verdicts that stay and an End for each shard
pub are_ends_of : (d : Desk) → IsKept d → AreEnds (length d.shards) (ending_items d)
are_ends_of d k = ends_by (has_end d.kept) (length d.shards) d.kept d.seed d.drawn k.stays k.kept (are_there (length d.shards) d.kept (omega (arith, k.some_shard, k.shards)) k.stays)

-- and all of them stay
pub ends_kept : (d : Desk) (items : List Item) → IsKept d → AreEnds (length d.shards) items → AreKept d (kept_of items)
ends_kept d items k e =
    subst (λ (is : List Item). AreKept d is) (sym (ending_stays (length d.shards) items e))
    (record { items = items_of_ends (length d.shards) items (omega (arith, k.shards, k.few_shards)) e; stays = ending_kept (length d.shards) items e })

pub ends_few_kept : (d : Desk) (items : List Item) → IsKept d → AreEnds (length d.shards) items → length (kept_of items) ≤ 224
ends_few_kept d items k e = omega (arith, ap (λ (is : List Item). length is) (ending_stays (length d.shards) items e), ending_few (length d.shards) items (omega (arith, k.shards, k.few_shards)) e)

draws_by : (b : Bool) (n : ℕ) → n ≤ 64 → cond b 0 n ≤ 64
draws_by true n few = omega arith
draws_by false n few = omega (arith, few)

pub few_draws : (d : Desk) → IsKept d → ending_draws d ≤ 64
few_draws d k = draws_by (has_end d.kept) (length d.shards) (omega (arith, k.few_shards, k.shards))

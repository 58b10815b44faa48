-- Shards between rounds, as the desk's contracts see them.
use Rattle.std.proofs.Common.{◌≡◌, ℕ, zero, suc, ◌+◌, Bool, true, false, cond, List, [], ◌∷◌, Option, None, map, filter, fold, slice_get, refl, sym, ap, ◌∙◌, arith}
use Rattle.std.specs.List.{AllByRecursion, AllZip}
use Rattle.std.proofs.lemmas.List.Sums.{sum_by-cons}
use Rattle.bng_base.specs.declared.address.Ip4.{Ip4}
use Rattle.bng_base.specs.declared.book.Book.{Book}
use Rattle.bng_base.specs.declared.item.Entry.{Entry}
use Rattle.bng_base.specs.declared.item.Item.{Item}
use Rattle.bng_base.specs.declared.item.ItemKind.TheVariants.{Tick}
use Rattle.bng_engine.specs.Books.{book_at}
use Rattle.bng_engine.specs.Calls.{Kept}
use Rattle.bng_engine.specs.Calls.{Moves}
use Rattle.bng_engine.specs.Quantities.{Octets, in_book}
use Rattle.bng_engine.specs.Showing.{with_journal}
use Rattle.bng_engine.specs.Turns.{TurnOf}
use Rattle.bng_engine.specs.Views.{Row, ShardView}
use Rattle.bng_engine.proofs.Adding.{sum_map}
use Rattle.bng_ppp.specs.LcpRelation.{earliest}
use Rattle.bng_pool.specs.Plain.{PlainView}
use Rattle.bng_steps.specs.declared.changes.ChangeAnswer.{ChangeAnswer}
use Rattle.bng_steps.specs.declared.rules.Rules.{Rules}
use Rattle.bng_steps.specs.declared.sums.Traffic.{Traffic}
use Rattle.bng_steps.specs.Protocol.{ShardState, Handled, pppoe, deadline_of, sessions_of}
use Rattle.bng_desk.specs.declared.line.CircuitLine.{CircuitLine}
use Rattle.bng_desk.specs.Items.{for_shard, is_due, ticks_of}
use Rattle.bng_desk.specs.Kept.{rested}
use Rattle.bng_desk.specs.Model.{begun_in, sessions_in, carried_on, live_of, live_terms, plus_traffic, traffic_at, traffic_under}
use Rattle.bng_desk.specs.Round.{Round, IsRound, left_by, views_of, view_of, view_after}
use Rattle.bng_desk.specs.Taking.{AllTold, IsLeftBy, live_by, told_all}
use Rattle.bng_desk.specs.Turn.{deadline_in}
use Rattle.bng_desk.proofs.InAll.{book_is, live_in_all, terms_by}

abbrev Shards : Type 0
Shards = List (ShardView ShardState Entry)

-- What does not see a round -----------------------------------------------------------------------------------------------

pub sessions_rested : (vs : Shards) → sessions_in (map rested vs) ≡ sessions_in vs
sessions_rested [] = refl
sessions_rested (v ∷ vs) =
    let f = λ (x : ShardView ShardState Entry). sessions_of x.state in
    sum_by-cons f (rested v) (map rested vs) ∙ ap (λ (n : ℕ). sessions_of v.state + n) (sessions_rested vs) ∙ sym (sum_by-cons f v vs)

traffic_rested : (vs : Shards) (n : ℕ) (a : Ip4) → traffic_at (slice_get (map rested vs) n) a ≡ traffic_at (slice_get vs n) a
traffic_rested [] n a = refl
traffic_rested (v ∷ vs) zero a = refl
traffic_rested (v ∷ vs) (suc n) a = traffic_rested vs n a

pub carried_rested : (vs : Shards) (l : CircuitLine) → carried_on (map rested vs) l ≡ carried_on vs l
carried_rested vs l = ap (plus_traffic l.stopped) (traffic_rested vs _ l.address)

pub all_carried_rested : (vs : Shards) (ls : List CircuitLine) → map (carried_on vs) ls ≡ map (carried_on (map rested vs)) ls
all_carried_rested vs [] = refl
all_carried_rested vs (l ∷ ls) = ap (λ (t : Traffic). t ∷ map (carried_on vs) ls) (sym (carried_rested vs l)) ∙ ap (λ (ts : List Traffic). carried_on (map rested vs) l ∷ ts) (all_carried_rested vs ls)

-- what was sent under a profile, and under each
under_rested : (vs : Shards) (place : ℕ) → traffic_under (map rested vs) place ≡ traffic_under vs place
under_rested vs place =
    let by = λ (input : Bool) (v : ShardView ShardState Entry). in_book Octets input (book_at place v.books) in
    let ins = sum_map rested (by true) vs in
    let outs = sum_map rested (by false) vs in
    λ i. record { input = ins i; output = outs i }

pub all_under_rested : (vs : Shards) (places : List ℕ) → map (traffic_under vs) places ≡ map (traffic_under (map rested vs)) places
all_under_rested vs [] = refl
all_under_rested vs (p ∷ places) =
    ap (λ (t : Traffic). t ∷ map (traffic_under vs) places) (sym (under_rested vs p)) ∙ ap (λ (ts : List Traffic). traffic_under (map rested vs) p ∷ ts) (all_under_rested vs places)

-- what the terms carried that have no Stop yet
pub live_rested : (vs : Shards) → live_of (map rested vs) ≡ live_of vs
live_rested vs = book_is (live_of (map rested vs)) (live_of vs) (λ q input. omega (arith, live_in_all q input (map rested vs), live_in_all q input vs, sum_map rested (live_by q input) vs))

-- and how many there are, and how many began
pub terms_rested : (vs : Shards) → live_terms (map rested vs) ≡ live_terms vs
terms_rested vs = sum_map rested terms_by vs

pub begun_rested : (vs : Shards) → begun_in (map rested vs) ≡ begun_in vs
begun_rested vs = sum_map rested (λ (v : ShardView ShardState Entry). v.state.slots.begun) vs

earliest_rested : (vs : Shards) (a : Option ℕ) → fold (λ b (v : ShardView ShardState Entry). earliest b (deadline_of v.state)) a (map rested vs) ≡ fold (λ b (v : ShardView ShardState Entry). earliest b (deadline_of v.state)) a vs
earliest_rested [] a = refl
earliest_rested (v ∷ vs) a = earliest_rested vs (earliest a (deadline_of v.state))

pub deadline_rested : (vs : Shards) → deadline_in (map rested vs) ≡ deadline_in vs
deadline_rested vs = earliest_rested vs None

abbrev tick_of : ShardView ShardState Entry → Item
tick_of v = for_shard Tick v.number

tick_rested : (b : Bool) (v : ShardView ShardState Entry) (vs ws : Shards) → map tick_of vs ≡ map tick_of ws → map tick_of (cond b (rested v ∷ vs) vs) ≡ map tick_of (cond b (v ∷ ws) ws)
tick_rested true v vs ws e = ap (λ (is : List Item). tick_of v ∷ is) e
tick_rested false v vs ws e = e

pub ticks_rested : (moment : ℕ) (vs : Shards) → ticks_of moment (map rested vs) ≡ ticks_of moment vs
ticks_rested moment [] = refl
ticks_rested moment (v ∷ vs) = tick_rested (is_due moment v) v (filter (is_due moment) (map rested vs)) (filter (is_due moment) vs) (ticks_rested moment vs)

-- Kept shards -------------------------------------------------------------------------------------------------------------

abbrev made : ℕ → ShardState → List Row → List Book → ShardView ShardState Entry
made number state rows books = record { number = number; state = state; rows = rows; books = books; allowance = 0; journal = []; outs = []; sends = []; stops = []; starts = []; room = 0 }

pub kept_rested : (vs ws : Shards) → AllZip Kept vs ws → map rested ws ≡ map rested vs
kept_rested [] [] h = refl
kept_rested [] (w ∷ ws) h = absurd h
kept_rested (v ∷ vs) [] h = absurd h
kept_rested (v ∷ vs) (w ∷ ws) h =
    ap (λ (n : ℕ). made n w.state w.rows w.books ∷ map rested ws) h.0.number
    ∙ ap (λ (s : ShardState). made v.number s w.rows w.books ∷ map rested ws) h.0.state
    ∙ ap (λ (rs : List Row). made v.number v.state rs w.books ∷ map rested ws) h.0.rows
    ∙ ap (λ (bs : List Book). made v.number v.state v.rows bs ∷ map rested ws) h.0.books
    ∙ ap (λ (xs : Shards). rested v ∷ xs) (kept_rested vs ws h.1)

abbrev all_told : ShardState → ShardState
all_told s = record s { changed = [] }

-- once all was told that they answered to requests for changes
pub left_rested : (ws : Shards) (xs : List (ShardView ShardState Handled)) → AllZip IsLeftBy ws xs → map rested (map told_all ws) ≡ map left_by xs
left_rested [] [] h = refl
left_rested [] (x ∷ xs) h = absurd h
left_rested (w ∷ ws) [] h = absurd h
left_rested (w ∷ ws) (x ∷ xs) h =
    ap (λ (n : ℕ). made n (all_told w.state) w.rows w.books ∷ map rested (map told_all ws)) h.0.number
    ∙ ap (λ (s : ShardState). made x.number (all_told s) w.rows w.books ∷ map rested (map told_all ws)) h.0.state
    ∙ ap (λ (rs : List Row). made x.number (all_told x.state) rs w.books ∷ map rested (map told_all ws)) h.0.rows
    ∙ ap (λ (bs : List Book). made x.number (all_told x.state) x.rows bs ∷ map rested (map told_all ws)) h.0.books
    ∙ ap (λ (ys : Shards). left_by x ∷ ys) (left_rested ws xs h.1)

-- where nothing was left to be told they are as they were
pub told_rested : (vs : Shards) → AllByRecursion AllTold vs → map rested (map told_all vs) ≡ map rested vs
told_rested [] told = refl
told_rested (v ∷ vs) told =
    ap (λ (bs : List ChangeAnswer). let s : ShardState = record v.state { changed = bs } in made v.number s v.rows v.books ∷ map rested (map told_all vs)) (sym told.0)
    ∙ ap (λ (xs : Shards). rested v ∷ xs) (told_rested vs told.1)

-- a turn sees of a shard before it what is kept
moves_rested : (v : ShardView ShardState Entry) (x : ShardView ShardState Handled) → Moves pppoe (with_journal v []) x → Moves pppoe (with_journal (rested v) []) x
moves_rested v x m = record {
  number = m.number;
  steps = m.steps;
  limits = m.limits;
  outs = m.outs;
  state = m.state;
  order = m.order;
  each = m.each;
  begun = m.begun;
  fit = m.fit;
  rows = m.rows;
  books = m.books;
}

all_move : (vs : Shards) (xs : List (ShardView ShardState Handled)) → AllZip (Moves pppoe) (views_of vs) xs → AllZip (Moves pppoe) (views_of (map rested vs)) xs
all_move [] [] h = tt
all_move [] (x ∷ xs) h = absurd h
all_move (v ∷ vs) [] h = absurd h
all_move (v ∷ vs) (x ∷ xs) h = (moves_rested v x h.0, all_move vs xs h.1)

turn_rested : (vs : Shards) (pool : PlainView) (tallies : List Book) (round : Round) → TurnOf pppoe (view_of vs pool tallies) (view_after round) → TurnOf pppoe (view_of (map rested vs) pool tallies) (view_after round)
turn_rested vs pool tallies round t = record { shards = all_move vs round.shards t.shards; mid = t.mid; claims = t.claims; given = t.given; seats = t.seats; tallies = t.tallies }

pub round_rested : (r : Rules) (vs : Shards) (pool : PlainView) (tallies : List Book) (moment : ℕ) (lists : List (List Item)) (round : Round) → IsRound r vs pool tallies moment lists round → IsRound r (map rested vs) pool tallies moment lists round
round_rested r vs pool tallies moment lists round is = record { dealt = is.dealt; turn = turn_rested vs pool tallies round is.turn; returned = is.returned }

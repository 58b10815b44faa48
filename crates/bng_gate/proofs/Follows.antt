-- What a turn leaves of the desk, by its round alone.
use Rattle.std.proofs.Common.{◌≡◌, ℕ, ◌+◌, List, [], ◌∷◌, length, map, Option, Some, None, refl, ap, ◌∙◌}
use Rattle.bng_base.specs.declared.book.Book.{Book}
use Rattle.bng_base.specs.declared.item.Entry.{Entry}
use Rattle.bng_base.specs.declared.item.Item.{Item}
use Rattle.bng_base.specs.Chain.{Chain}
use Rattle.bng_base.proofs.ChainLaws.{chain_append}
use Rattle.bng_engine.specs.Views.{ShardView}
use Rattle.bng_pool.specs.Plain.{PlainView}
use Rattle.bng_steps.specs.Protocol.{ShardState}
use Rattle.bng_desk.specs.declared.line.CircuitLine.{CircuitLine}
use Rattle.bng_desk.specs.Model.{Desk, all_stopped, line_after, plus_book}
use Rattle.bng_desk.specs.Round.{Round, IsRound, left_by, stops_of}
use Rattle.bng_desk.specs.Turn.{Turn, RoundOf, Step, after_round, items_of, ending_items}
use Rattle.bng_gate.specs.Rounds.{round_in, end_round_in, rounds_in}
use Rattle.bng_gate.specs.Serving.{Made, MadeEnd, Late, Ends, Waits, LateStep, Goes, GoesEnding, Run, EndRun}

-- the shards after a round, or after one that was not opened
abbrev pub left_after : List (ShardView ShardState Entry) → Option Round → List (ShardView ShardState Entry)
left_after shards None = shards
left_after shards (Some round) = map left_by round.shards

-- and the tallies
abbrev pub tallies_after : List Book → Option Round → List Book
tallies_after tallies None = tallies
tallies_after tallies (Some round) = round.tallies

-- who holds an address then
abbrev pub pool_after : PlainView → Option Round → PlainView
pool_after pool None = pool
pool_after pool (Some round) = round.pool

-- and what the circuits' Stops say
abbrev pub lines_left : List CircuitLine → Option Round → List CircuitLine
lines_left lines None = lines
lines_left lines (Some round) = map (line_after (stops_of round)) lines

-- and what all Stops say
abbrev pub stopped_left : Book → Option Round → Book
stopped_left stopped None = stopped
stopped_left stopped (Some round) = plus_book stopped (all_stopped (stops_of round))

-- and how many there are
abbrev pub stops_left : ℕ → Option Round → ℕ
stops_left stops None = stops
stops_left stops (Some round) = stops + length (stops_of round)

-- the round was one of this desk, at some moment and of some items
abbrev pub IsOf : Desk → Option Round → Type 0
IsOf d None = Unit {0}
IsOf d (Some round) = (moment : ℕ) × (lists : List (List Item)) × IsRound d.rules d.shards d.pool d.tallies moment lists round

-- the desk went on by a round, or as it was; by what it works stays
pub record Follows (d : Desk) (round : Option Round) (d' : Desk) : Type 0 where
  pub is_round : IsOf d round
  pub shards : d'.shards ≡ left_after d.shards round
  pub tallies : d'.tallies ≡ tallies_after d.tallies round
  pub pool : d'.pool ≡ pool_after d.pool round
  pub rules : d'.rules ≡ d.rules
  pub lines : d'.lines ≡ lines_left d.lines round
  pub stopped : d'.stopped_book ≡ stopped_left d.stopped_book round
  pub stops : d'.stops ≡ stops_left d.stops round

is_of : (d : Desk) (moment : ℕ) (items : List Item) (round : Option Round) → RoundOf d moment items round → IsOf d round
is_of d moment items None h = tt
is_of d moment items (Some round) h = (moment, items ∷ [], h)

-- what a round leaves
shards_after : (d : Desk) (items : List Item) (round : Option Round) → (after_round d items round).shards ≡ left_after d.shards round
shards_after d items None = refl
shards_after d items (Some round) = refl

tallies_left : (d : Desk) (items : List Item) (round : Option Round) → (after_round d items round).tallies ≡ tallies_after d.tallies round
tallies_left d items None = refl
tallies_left d items (Some round) = refl

pool_left : (d : Desk) (items : List Item) (round : Option Round) → (after_round d items round).pool ≡ pool_after d.pool round
pool_left d items None = refl
pool_left d items (Some round) = refl

rules_after : (d : Desk) (items : List Item) (round : Option Round) → (after_round d items round).rules ≡ d.rules
rules_after d items None = refl
rules_after d items (Some round) = refl

lines_there : (d : Desk) (items : List Item) (round : Option Round) → (after_round d items round).lines ≡ lines_left d.lines round
lines_there d items None = refl
lines_there d items (Some round) = refl

stopped_there : (d : Desk) (items : List Item) (round : Option Round) → (after_round d items round).stopped_book ≡ stopped_left d.stopped_book round
stopped_there d items None = refl
stopped_there d items (Some round) = refl

stops_there : (d : Desk) (items : List Item) (round : Option Round) → (after_round d items round).stops ≡ stops_left d.stops round
stops_there d items None = refl
stops_there d items (Some round) = refl

pub step_follows : (d d' : Desk) (t : Option Turn) → Step d t d' → Follows d (round_in t) d'
step_follows d d' None step = record {
  is_round = tt;
  shards = ap (λ (x : Desk). x.shards) step;
  tallies = ap (λ (x : Desk). x.tallies) step;
  pool = ap (λ (x : Desk). x.pool) step;
  rules = ap (λ (x : Desk). x.rules) step;
  lines = ap (λ (x : Desk). x.lines) step;
  stopped = ap (λ (x : Desk). x.stopped_book) step;
  stops = ap (λ (x : Desk). x.stops) step;
}
step_follows d d' (Some t) step = record {
  is_round = is_of d t.moment (items_of d t) t.round step.1;
  shards = ap (λ (x : Desk). x.shards) step.5 ∙ shards_after d (items_of d t) t.round;
  tallies = ap (λ (x : Desk). x.tallies) step.5 ∙ tallies_left d (items_of d t) t.round;
  pool = ap (λ (x : Desk). x.pool) step.5 ∙ pool_left d (items_of d t) t.round;
  rules = ap (λ (x : Desk). x.rules) step.5 ∙ rules_after d (items_of d t) t.round;
  lines = ap (λ (x : Desk). x.lines) step.5 ∙ lines_there d (items_of d t) t.round;
  stopped = ap (λ (x : Desk). x.stopped_book) step.5 ∙ stopped_there d (items_of d t) t.round;
  stops = ap (λ (x : Desk). x.stops) step.5 ∙ stops_there d (items_of d t) t.round;
}

pub end_follows : (d d' : Desk) (t : Late) → LateStep d t d' → Follows d (end_round_in t) d'
end_follows d d' (Ends None) step = record {
  is_round = tt;
  shards = ap (λ (x : Desk). x.shards) step;
  tallies = ap (λ (x : Desk). x.tallies) step;
  pool = ap (λ (x : Desk). x.pool) step;
  rules = ap (λ (x : Desk). x.rules) step;
  lines = ap (λ (x : Desk). x.lines) step;
  stopped = ap (λ (x : Desk). x.stopped_book) step;
  stops = ap (λ (x : Desk). x.stops) step;
}
end_follows d d' (Ends (Some t)) step = record {
  is_round = is_of d t.moment (ending_items d) t.round step.1;
  shards = ap (λ (x : Desk). x.shards) step.5 ∙ shards_after d (ending_items d) t.round;
  tallies = ap (λ (x : Desk). x.tallies) step.5 ∙ tallies_left d (ending_items d) t.round;
  pool = ap (λ (x : Desk). x.pool) step.5 ∙ pool_left d (ending_items d) t.round;
  rules = ap (λ (x : Desk). x.rules) step.5 ∙ rules_after d (ending_items d) t.round;
  lines = ap (λ (x : Desk). x.lines) step.5 ∙ lines_there d (ending_items d) t.round;
  stopped = ap (λ (x : Desk). x.stopped_book) step.5 ∙ stopped_there d (ending_items d) t.round;
  stops = ap (λ (x : Desk). x.stops) step.5 ∙ stops_there d (ending_items d) t.round;
}
end_follows d d' (Waits t) step = record {
  is_round = tt;
  shards = ap (λ (x : Desk). x.shards) step.after;
  tallies = ap (λ (x : Desk). x.tallies) step.after;
  pool = ap (λ (x : Desk). x.pool) step.after;
  rules = ap (λ (x : Desk). x.rules) step.after;
  lines = ap (λ (x : Desk). x.lines) step.after;
  stopped = ap (λ (x : Desk). x.stopped_book) step.after;
  stops = ap (λ (x : Desk). x.stops) step.after;
}

-- a chain, seen by what each of its links has
pub chain_map : {S T U : Type 0} (step : S → T → S → Type 0) (other : S → U → S → Type 0) (f : T → U) → ((s : S) (t : T) (s' : S) → step s t s' → other s (f t) s') → (s s' : S) (ts : List T) → Chain step s ts s' → Chain other s (map f ts) s'
chain_map step other f each s s' [] run = run
chain_map step other f each s s' (t ∷ ts) run = (run.0, each s t run.0 run.1, chain_map step other f each run.0 s' ts run.2)

-- the turns of serving and of the ending, by their rounds
pub run_follows : (d over last : Desk) (turns : List Made) (endings : List MadeEnd) → Run d turns over → EndRun over endings last → Chain Follows d (rounds_in turns endings) last
run_follows d over last turns endings run ending =
    chain_append Follows d over last (map (λ (m : Made). round_in m.turn) turns) (map (λ (m : MadeEnd). end_round_in m.turn) endings)
    (chain_map Goes Follows (λ (m : Made). round_in m.turn) (λ s m s' h. step_follows s s' m.turn h.1) d over turns run)
    (chain_map GoesEnding Follows (λ (m : MadeEnd). end_round_in m.turn) (λ s m s' h. end_follows s s' m.turn h.1) over last endings ending)

-- What the desk says of the Stops with an address, and of all, is what the Stops of all rounds say.
use Rattle.std.proofs.Common.{◌≡◌, ℕ, ◌+◌, Bool, true, false, cond, List, [], ◌∷◌, ◌++◌, codes, length, map, Option, Some, None, refl, sym, ap, ◌∙◌, add-zero, arith, length-append}
use Rattle.std.specs.List.{flat_map}
use Rattle.std.proofs.lemmas.List.Sums.{sum_by-append, sum_by-cons}
use Rattle.bng_base.specs.declared.address.Ip4.{Ip4}
use Rattle.bng_base.specs.declared.book.Book.{Book}
use Rattle.bng_base.specs.declared.book.Profile.{Profile}
use Rattle.bng_base.specs.Chain.{Chain}
use Rattle.bng_engine.specs.Histories.{stops_in}
use Rattle.bng_engine.specs.Laws.{stops_of}
use Rattle.bng_engine.specs.Quantities.{Quantity, Octets, in_book}
use Rattle.bng_engine.specs.Sums.{has_lease, is_any, stopped_where}
use Rattle.bng_engine.specs.Terms.{Key, Stop}
use Rattle.bng_engine.specs.Views.{ShardView, turn_in}
use Rattle.bng_steps.specs.declared.sums.Traffic.{Traffic}
use Rattle.bng_steps.specs.Protocol.{ShardState, Handled}
use Rattle.bng_desk.specs.declared.line.CircuitLine.{CircuitLine}
use Rattle.bng_desk.specs.Model.{Desk, all_stopped, line_after, plus_book, plus_traffic, stopped_of, total_of, traffic_by}
use Rattle.bng_desk.specs.Causes.{causes}
use Rattle.bng_desk.specs.Report.{drop_lines, profile_lines, report_text, static_line, static_lines, traffic_line, worker_lines}
use Rattle.bng_desk.specs.Round.{Round}
use Rattle.bng_desk.proofs.InAll.{book_is, plus_in, stopped_in_all}
use Rattle.bng_gate.specs.Rounds.{turns_of}
use Rattle.bng_gate.proofs.Follows.{Follows}

-- Traffic that says the same -------------------------------------------------------------------------------------------

abbrev make : ℕ → ℕ → Traffic
make input output = record { input = input; output = output }

pub traffic_is : (t : Traffic) (input output : ℕ) → t.input ≡ input → t.output ≡ output → t ≡ make input output
traffic_is t input output i o = ap (λ (x : ℕ). make x t.output) i ∙ ap (λ (x : ℕ). make input x) o

-- Lines ----------------------------------------------------------------------------------------------------------------

stopped_more : (q : Quantity) (pick : Key → Bool) (input : Bool) (a b : List Stop) → stopped_where q pick input (a ++ b) ≡ stopped_where q pick input a + stopped_where q pick input b
stopped_more q pick input a b = sum_by-append (λ (s : Stop). cond (pick s.key) (in_book q input s.carried) 0) a b

traffic_more : (t : Traffic) (address : Ip4) (a b : List Stop) → plus_traffic (plus_traffic t (stopped_of address a)) (stopped_of address b) ≡ plus_traffic t (stopped_of address (a ++ b))
traffic_more t address a b =
    traffic_is (plus_traffic (plus_traffic t (stopped_of address a)) (stopped_of address b)) (t.input + (stopped_of address (a ++ b)).input) (t.output + (stopped_of address (a ++ b)).output)
    (omega (arith, stopped_more Octets (has_lease address) true a b)) (omega (arith, stopped_more Octets (has_lease address) false a b))

abbrev with_stopped : CircuitLine → Traffic → CircuitLine
with_stopped l t = record l { stopped = t }

line_none : (l : CircuitLine) → line_after [] l ≡ l
line_none l = ap (with_stopped l) (traffic_is (plus_traffic l.stopped (stopped_of l.address [])) l.stopped.input l.stopped.output (add-zero l.stopped.input) (add-zero l.stopped.output))

line_more : (a b : List Stop) (l : CircuitLine) → line_after b (line_after a l) ≡ line_after (a ++ b) l
line_more a b l = ap (with_stopped l) (traffic_more l.stopped l.address a b)

lines_none : (ls : List CircuitLine) → map (line_after []) ls ≡ ls
lines_none [] = refl
lines_none (l ∷ ls) = ap (λ (x : CircuitLine). x ∷ map (line_after []) ls) (line_none l) ∙ ap (λ (xs : List CircuitLine). l ∷ xs) (lines_none ls)

lines_more : (a b : List Stop) (ls : List CircuitLine) → map (line_after b) (map (line_after a) ls) ≡ map (line_after (a ++ b)) ls
lines_more a b [] = refl
lines_more a b (l ∷ ls) = ap (λ (x : CircuitLine). x ∷ map (line_after b) (map (line_after a) ls)) (line_more a b l) ∙ ap (λ (xs : List CircuitLine). line_after (a ++ b) l ∷ xs) (lines_more a b ls)

-- The Stops of a round, as the engine lists them
pub round_stops : (vs : List (ShardView ShardState Handled)) → flat_map (λ v. v.stops) vs ≡ stops_in (map turn_in vs)
round_stops [] = refl
round_stops (v ∷ vs) = ap (λ (ss : List Stop). v.stops ++ ss) (round_stops vs)

-- the lines after all rounds
pub lines_gone : (d d' : Desk) (rounds : List (Option Round)) → Chain Follows d rounds d' → d'.lines ≡ map (line_after (stops_of (flat_map turns_of rounds))) d.lines
lines_gone d d' [] run = ap (λ (x : Desk). x.lines) run ∙ sym (lines_none d.lines)
lines_gone d d' (None ∷ rounds) run =
    lines_gone run.0 d' rounds run.2 ∙ ap (map (line_after (stops_of (flat_map turns_of rounds)))) run.1.lines
lines_gone d d' (Some round ∷ rounds) run =
    let rest = stops_of (flat_map turns_of rounds) in
    lines_gone run.0 d' rounds run.2
    ∙ ap (map (line_after rest)) (run.1.lines ∙ ap (λ (ss : List Stop). map (line_after ss) d.lines) (round_stops round.shards))
    ∙ lines_more (stops_in (map turn_in round.shards)) rest d.lines

-- what all Stops say, after all rounds
none_say : (q : Quantity) (input : Bool) → stopped_where q is_any input [] ≡ 0
none_say q input = refl

all_none : (b : Book) → plus_book b (all_stopped []) ≡ b
all_none b = book_is (plus_book b (all_stopped [])) b (λ q input. omega (arith, plus_in q input b (all_stopped []), stopped_in_all q input [], none_say q input))

all_more : (t : Book) (a b : List Stop) → plus_book (plus_book t (all_stopped a)) (all_stopped b) ≡ plus_book t (all_stopped (a ++ b))
all_more t a b =
    book_is (plus_book (plus_book t (all_stopped a)) (all_stopped b)) (plus_book t (all_stopped (a ++ b)))
    (λ q input.
    omega (
      arith,
      plus_in q input (plus_book t (all_stopped a)) (all_stopped b),
      plus_in q input t (all_stopped a),
      plus_in q input t (all_stopped (a ++ b)),
      stopped_in_all q input a,
      stopped_in_all q input b,
      stopped_in_all q input (a ++ b),
      stopped_more q is_any input a b,
    ))

pub stopped_gone : (d d' : Desk) (rounds : List (Option Round)) → Chain Follows d rounds d' → d'.stopped_book ≡ plus_book d.stopped_book (all_stopped (stops_of (flat_map turns_of rounds)))
stopped_gone d d' [] run = ap (λ (x : Desk). x.stopped_book) run ∙ sym (all_none d.stopped_book)
stopped_gone d d' (None ∷ rounds) run =
    stopped_gone run.0 d' rounds run.2 ∙ ap (λ (t : Book). plus_book t (all_stopped (stops_of (flat_map turns_of rounds)))) run.1.stopped
stopped_gone d d' (Some round ∷ rounds) run =
    let rest = stops_of (flat_map turns_of rounds) in
    stopped_gone run.0 d' rounds run.2
    ∙ ap (λ (t : Book). plus_book t (all_stopped rest)) (run.1.stopped ∙ ap (λ (ss : List Stop). plus_book d.stopped_book (all_stopped ss)) (round_stops round.shards))
    ∙ all_more d.stopped_book (stops_in (map turn_in round.shards)) rest

-- and how many they are
pub stops_gone : (d d' : Desk) (rounds : List (Option Round)) → Chain Follows d rounds d' → d'.stops ≡ d.stops + length (stops_of (flat_map turns_of rounds))
stops_gone d d' [] run = omega (arith, ap (λ (x : Desk). x.stops) run)
stops_gone d d' (None ∷ rounds) run = omega (arith, stops_gone run.0 d' rounds run.2, run.1.stops)
stops_gone d d' (Some round ∷ rounds) run =
    let here = stops_in (map turn_in round.shards) in
    let rest = stops_of (flat_map turns_of rounds) in
    omega (arith, stops_gone run.0 d' rounds run.2, run.1.stops, ap (λ (ss : List Stop). length ss) (round_stops round.shards), length-append here rest)

-- Workers --------------------------------------------------------------------------------------------------------------

-- there are as many tallies as at the opening
pub tallies_gone : (d d' : Desk) (rounds : List (Option Round)) → Chain Follows d rounds d' → length d'.tallies ≡ length d.tallies
tallies_gone d d' [] run = ap (λ (x : Desk). length x.tallies) run
tallies_gone d d' (None ∷ rounds) run = tallies_gone run.0 d' rounds run.2 ∙ ap (λ (bs : List Book). length bs) run.1.tallies
tallies_gone d d' (Some round ∷ rounds) run = tallies_gone run.0 d' rounds run.2 ∙ ap (λ (bs : List Book). length bs) run.1.tallies ∙ run.1.is_round.2.turn.tallies.count

-- one worker has passed what all have
pub one_worker : (bs : List Book) → length bs ≡ 1 → map traffic_by bs ≡ traffic_by (total_of bs) ∷ []
one_worker [] e = absurd (omega (arith, e))
one_worker (b ∷ []) e =
    ap (λ (t : Traffic). let ts : List Traffic = t ∷ [] in ts)
    (sym (traffic_is (traffic_by (total_of (b ∷ []))) b.input b.output (omega (arith, sum_by-cons (λ (x : Book). x.input) b [])) (omega (arith, sum_by-cons (λ (x : Book). x.output) b []))))
one_worker (b ∷ c ∷ bs) e = absurd (omega (arith, e))

-- Rules ----------------------------------------------------------------------------------------------------------------

-- by what the desk works stays
pub rules_gone : (d d' : Desk) (rounds : List (Option Round)) → Chain Follows d rounds d' → d'.rules ≡ d.rules
rules_gone d d' [] run = ap (λ (x : Desk). x.rules) run
rules_gone d d' (round ∷ rounds) run = rules_gone run.0 d' rounds run.2 ∙ run.1.rules

-- The report -----------------------------------------------------------------------------------------------------------

-- it names a circuit by its address alone
lines_told : (stops : List Stop) (ls : List CircuitLine) (ts : List Traffic) → static_lines (map (line_after stops) ls) ts ≡ static_lines ls ts
lines_told stops [] ts = refl
lines_told stops (l ∷ ls) [] = refl
lines_told stops (l ∷ ls) (t ∷ ts) = ap (λ (x : List ℕ). static_line l.address t ++ x) (lines_told stops ls ts)

pub report_told : (stopped live total : Book) (workers : List Traffic) (profiles : List Profile) (under : List Traffic) (stops : List Stop) (ls : List CircuitLine) (ts : List Traffic) (drops : List ℕ)
    → report_text stopped live total workers profiles under (map (line_after stops) ls) ts drops ≡ report_text stopped live total workers profiles under ls ts drops
report_told stopped live total workers profiles under stops ls ts drops =
    ap
    (λ (x : List ℕ). traffic_line (codes "stopped") (traffic_by stopped) ++ traffic_line (codes "live") (traffic_by live) ++ traffic_line (codes "total") (traffic_by total) ++ worker_lines 0 workers ++ profile_lines profiles under ++ x ++ drop_lines causes drops)
    (lines_told stops ls ts)

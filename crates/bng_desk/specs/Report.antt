-- The report.
use Rattle.std.specs.Prelude.{◌≡◌, ℕ, ◌+◌, ◌^◌, ◌<◌, ◌≤◌, Bool, List, [], ◌∷◌, ◌++◌, codes, length, map}
use Rattle.std.specs.List.{All, range_with_len}
use Rattle.std.specs.Fmt.{decimal}
use Rattle.bng_acct.specs.declared.facts.TermFacts.{TermFacts}
use Rattle.bng_acct.specs.Texts.{session_id, port_id}
use Rattle.bng_base.specs.declared.address.Ip4.{Ip4}
use Rattle.bng_base.specs.declared.book.Book.{Book}
use Rattle.bng_base.specs.declared.book.Profile.{Profile}
use Rattle.bng_base.specs.declared.item.Entry.{Entry}
use Rattle.bng_engine.specs.Quantities.{Quantity, in_book}
use Rattle.bng_engine.specs.Views.{ShardView}
use Rattle.bng_schema.specs.Address.{address_text}
use Rattle.bng_base.specs.declared.fate.DropCause.{DropCause}
use Rattle.bng_steps.specs.Protocol.{ShardState}
use Rattle.bng_desk.specs.declared.accounts.Stopped.{Stopped}
use Rattle.bng_desk.specs.declared.drops.Drops.{Drops}
use Rattle.bng_desk.specs.declared.line.CircuitLine.{CircuitLine}
use Rattle.bng_desk.specs.Causes.{causes}
use Rattle.bng_desk.specs.Model.{Desk, by_profile, live_of, plus_book, sums_of, traffic_by, traffic_under}
use Rattle.bng_steps.specs.declared.sums.Traffic.{Traffic}

-- octets in and out, and the end of the line
abbrev pub quantities : ℕ → ℕ → List ℕ
quantities input output = codes " in=" ++ decimal input ++ codes " out=" ++ decimal output ++ codes "\n"

-- a line of this name
abbrev pub traffic_line : List ℕ → Traffic → List ℕ
traffic_line name t = name ++ quantities t.input t.output

-- the octets of a worker
abbrev pub worker_line : ℕ → Traffic → List ℕ
worker_line number t = codes "worker " ++ decimal number ++ quantities t.input t.output

-- a line for each worker, the first of which has this number
abbrev pub worker_lines : ℕ → List Traffic → List ℕ
worker_lines number [] = []
worker_lines number (t ∷ ts) = worker_line number t ++ worker_lines (number + 1) ts

-- the octets of a profile
abbrev pub profile_line : List ℕ → Traffic → List ℕ
profile_line name t = codes "profile " ++ name ++ quantities t.input t.output

-- a line for each profile
abbrev pub profile_lines : List Profile → List Traffic → List ℕ
profile_lines [] traffic = []
profile_lines (p ∷ ps) [] = []
profile_lines (p ∷ ps) (t ∷ ts) = profile_line p.name.items t ++ profile_lines ps ts

-- the octets of a circuit
abbrev pub static_line : Ip4 → Traffic → List ℕ
static_line address t = codes "static " ++ address_text address ++ quantities t.input t.output

-- a line for each circuit
abbrev pub static_lines : List CircuitLine → List Traffic → List ℕ
static_lines [] traffic = []
static_lines (s ∷ ss) [] = []
static_lines (s ∷ ss) (t ∷ ts) = static_line s.address t ++ static_lines ss ts

-- the items dropped by the cause of this name
abbrev pub drop_line : List ℕ → ℕ → List ℕ
drop_line name items = codes "drop " ++ name ++ codes " " ++ decimal items ++ codes "\n"

-- a line for each cause with its number of items
abbrev pub drop_lines : List (DropCause × List ℕ) → List ℕ → List ℕ
drop_lines _ [] = []
drop_lines [] (items ∷ others) = []
drop_lines (cause ∷ more) (items ∷ others) = drop_line cause.1 items ++ drop_lines more others

-- of what the Stops say, what the terms carried that have no Stop yet, and both together the octets; each worker, each profile, each
-- circuit, and what was dropped by each cause
abbrev pub report_text : Book → Book → Book → List Traffic → List Profile → List Traffic → List CircuitLine → List Traffic → List ℕ → List ℕ
report_text stopped live total workers profiles under circuits traffic drops =
    traffic_line (codes "stopped") (traffic_by stopped)
    ++ traffic_line (codes "live") (traffic_by live)
    ++ traffic_line (codes "total") (traffic_by total)
    ++ worker_lines 0 workers
    ++ profile_lines profiles under
    ++ static_lines circuits traffic
    ++ drop_lines causes drops

-- the report without its lines of circuits: of these shards, what the Stops say, what the one worker passed, and what was dropped
abbrev pub stats_by : List (ShardView ShardState Entry) → Stopped → Book → Drops → List Profile → List ℕ
stats_by shards stopped tally drops profiles =
    report_text stopped.carried (live_of shards) (plus_book stopped.carried (live_of shards)) (traffic_by tally ∷ []) profiles (map (traffic_under shards) (range_with_len 0 (length profiles))) [] [] drops.counts

-- each shard has a book for each of these profiles, of which there are 16 at most, and no sum wraps
pub record MayTell (shards : List (ShardView ShardState Entry)) (stopped : Stopped) (profiles : List Profile) : Type 0 where
  pub few_profiles : length profiles ≤ 16
  pub few_shards : length shards ≤ 64
  pub books : All (λ v. length v.state.rules.profiles ≡ length profiles) shards
  pub low : (q : Quantity) (input : Bool) → in_book q input stopped.carried + in_book q input (live_of shards) < 2 ^ 64

-- the same of a desk, as Control is told it
abbrev pub stats_text : Desk → List ℕ
stats_text d = report_text (sums_of d).stopped (sums_of d).live (sums_of d).total (map traffic_by d.tallies) d.rules.profiles (by_profile d) [] [] (sums_of d).drops

-- the address of a term, and its octets in and out
abbrev pub carried_text : TermFacts → List ℕ
carried_text f = address_text f.address ++ quantities f.carried.input f.carried.output

-- a Stop that is not acknowledged: the Acct-Session-Id of its term, the NAS-Port-Id of its circuit, its address, and its octets
abbrev pub stop_line : List ℕ → TermFacts → List ℕ
stop_line id f = codes "stop " ++ id ++ codes " " ++ port_id f.circuit ++ codes " " ++ carried_text f

-- a line for each of these Stops, where the run opened at this second
abbrev pub stop_lines : ℕ → List TermFacts → List ℕ
stop_lines wall [] = []
stop_lines wall (f ∷ fs) = stop_line (session_id wall f.term) f ++ stop_lines wall fs

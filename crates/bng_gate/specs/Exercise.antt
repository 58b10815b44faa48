-- What `exercise` does: it serves scripted subscribers in memory, and says what that came to.
use Rattle.std.specs.Prelude.{◌≡◌, ◌≤◌, ◌+◌, ◌⊎◌, ℕ, List, [], ◌∷◌, ◌++◌, None, Some, IfSome, IsSome, codes, length, map, replicate, sum}
use Rattle.std.specs.List.{All, AllZip}
use Rattle.std.specs.Fmt.{decimal}
use Rattle.bng_base.specs.declared.address.Ip4.{Ip4}
use Rattle.bng_base.specs.declared.address.Peer.{Peer}
use Rattle.bng_base.specs.declared.book.Book.{Book}
use Rattle.bng_base.specs.declared.book.Profile.{Profile}
use Rattle.bng_base.specs.declared.book.Range.{Range}
use Rattle.bng_base.specs.declared.round.RoundRecord.{RoundRecord}
use Rattle.bng_base.specs.declared.settings.AuthKind.TheVariants.{Chap, Pap}
use Rattle.bng_base.specs.declared.settings.AccessPort.{AccessPort}
use Rattle.bng_base.specs.declared.settings.Lac.{Lac}
use Rattle.bng_base.specs.Stretch.{Outside}
use Rattle.bng_base.specs.Told.{TraceTold, SinkTold, Grows}
use Rattle.bng_billing.specs.Calls.{StopsAreAcknowledged}
use Rattle.bng_config.specs.declared.config.Config.{Config}
use Rattle.bng_config.specs.Pools.{ranges_of}
use Rattle.bng_desk.specs.declared.desk.DeskState.TheVariants.{Ended, Starved}
use Rattle.bng_desk.specs.Counting.{by_number}
use Rattle.bng_desk.specs.Model.{Desk, live_terms, state_of, sums_of}
use Rattle.bng_engine.specs.Laws.{stops_of}
use Rattle.bng_gate.specs.declared.texts.Refusal.{Refusal}
use Rattle.bng_gate.specs.declared.texts.Refusal.TheVariants.{Usage, Refused, CannotOpen, OutOfMemory, TraceFailed, OutputFailed}
use Rattle.bng_gate.specs.Exact.{StopsAccount}
use Rattle.bng_gate.specs.Headline.{AreStopped, IsSafe, all_terms_of, calls_in_run, terms_of_run, total_in}
use Rattle.bng_gate.specs.Rounds.{drops_of_run, plant_of, rounds_of}
use Rattle.bng_gate.specs.Run.{World, outside, turns_most, Course, IsWhole, CompletesTo, FailsToNote, WantsToServe, Concludes, Told}
use Rattle.bng_gate.specs.Saying.{FailsToSay}
use Rattle.bng_gate.specs.Serving.{Made, MadeEnd, run_stretch, ending_stretch}

-- The configuration ---------------------------------------------------------------------------------------------------------

-- an address by its octets
abbrev pub ip : ℕ → Ip4
ip n = record { 0 = n }

-- an end of this host, 127.0.0.1
abbrev pub loopback : ℕ → Peer
loopback port = record { ip = ip 2130706433; port = port }

-- the access port
abbrev pub the_port : AccessPort
the_port = record { local = loopback 9010; peer = loopback 9011; mac = record { 0 = 2 ∷ 0 ∷ 0 ∷ 0 ∷ 0 ∷ 254 ∷ [] } }

-- the addresses of the pool
abbrev pub the_range : Range
the_range = record { first = ip 167772162; last = ip 167837694 }

-- it meters nothing
abbrev pub IsUnmetered : Profile → Type 0
IsUnmetered p = (p.up ≡ None) × (p.down ≡ None)

-- it shares the secret `t`
abbrev pub SharesT : Lac → Type 0
SharesT lac = IsSome lac.secret × IfSome lac.secret (λ s. s.items ≡ codes "t")

-- The configuration of an exercise: 64 shards, room for 16,384 terms, one access port at 127.0.0.1:9010, two access concentrators
-- 127.0.0.2 and 127.0.0.3, one pool 10.0.0.2 to 10.0.255.254, one profile that meters nothing, and no circuit. The gateway is 10.0.0.1, and
-- 192.168.1.16 to the RADIUS server.
pub record IsExercise (many : ℕ) (c : Config) : Type 0 where
  pub name : c.name.items ≡ codes "bng1"
  pub shards : c.shards ≡ 64
  pub services : map (λ s. s.items) c.services.items ≡ codes "inet" ∷ []
  pub auth : c.auth.items ≡ Chap ∷ Pap ∷ []
  pub echo : c.echo ≡ 30
  pub control_local : c.control_local ≡ loopback 9002
  pub core_local : c.core_local ≡ loopback 9000
  pub core_peer : c.core_peer ≡ loopback 9001
  pub access : c.access ≡ the_port ∷ []
  pub statics : c.statics ≡ []
  pub nas_ip : c.nas_ip ≡ ip 3232235792
  pub auth_local : c.auth_local ≡ loopback 9003
  pub auth_server : c.auth_server ≡ loopback 1812
  pub secret : c.secret.items ≡ codes "xyzzy5461"
  pub tries : c.tries ≡ 4
  pub terms : c.terms ≡ 16384
  pub acct_local : c.acct_local ≡ loopback 9004
  pub acct_server : c.acct_server ≡ loopback 1813
  pub address : c.address ≡ ip 167772161
  pub dns : c.dns.items ≡ []
  pub pool_names : map (λ p. p.name.items) c.pools ≡ codes "main" ∷ []
  pub ranges : ranges_of c.pools ≡ the_range ∷ []
  pub profile_names : map (λ p. p.name.items) c.profiles ≡ codes "default" ∷ []
  pub unmetered : All IsUnmetered c.profiles
  pub workers : c.workers ≡ many
  pub tunnel_local : c.tunnel_local ≡ Some (loopback 1701)
  pub lacs : map (λ l. l.ip) c.lacs ≡ ip 2130706434 ∷ ip 2130706435 ∷ []
  pub secrets : All SharesT c.lacs
  pub coa : c.coa ≡ None

-- the seed of its random octets
abbrev pub exercise_seed : List ℕ
exercise_seed = replicate 32 0

-- The run -------------------------------------------------------------------------------------------------------------------

-- What is told where the plant and the clock are those of the scripted peers: nothing but the trace and the last moment of the clock. No
-- call of that plant fails.
abbrev pub among_peers : ℕ → TraceTold → Outside
among_peers last trace = record {
  plant = record { bound = None; heard = None; taken = None; sent = None; faults = 0 };
  clock = record { answers = None; last = last };
  trace = trace;
}

-- the same of all objects
abbrev pub peers_beside : ℕ → World → World
peers_beside last w = record w { plant = (among_peers last w.trace).plant; clock = (among_peers last w.trace).clock }

-- From the moment 0 on the configuration was served to its end, and this desk was left.
pub record IsPlayed (workers : ℕ) (trace trace' : TraceTold) (d : Desk) : Type 0 where
  pub config : Config
  pub is_exercise : IsExercise workers config
  pub last : ℕ
  pub completes : CompletesTo config turns_most exercise_seed (among_peers 0 trace) (among_peers last trace') d

-- memory was wanted before any round, or once the turns had come to their end
pub record WantsToPlay (workers : ℕ) (trace trace' : TraceTold) : Type 0 where
  pub config : Config
  pub is_exercise : IsExercise workers config
  pub last : ℕ
  pub wants : WantsToServe config turns_most exercise_seed (among_peers 0 trace) (among_peers last trace')

-- the trace did not take a round, and no turn was made after it
pub record FailsToPlay (workers : ℕ) (trace trace' : TraceTold) : Type 0 where
  pub config : Config
  pub is_exercise : IsExercise workers config
  pub last : ℕ
  pub fails : FailsToNote config turns_most exercise_seed (among_peers 0 trace) (among_peers last trace')

-- why it was not served to its end
abbrev pub IsUnplayed : ℕ → TraceTold → TraceTold → Refusal → Type 0
IsUnplayed workers trace trace' Usage = ⊥
IsUnplayed workers trace trace' (Refused fault) = ⊥
IsUnplayed workers trace trace' (CannotOpen what) = ⊥
IsUnplayed workers trace trace' OutOfMemory = (trace' ≡ trace) ⊎ WantsToPlay workers trace trace'
IsUnplayed workers trace trace' TraceFailed = FailsToPlay workers trace trace'
IsUnplayed workers trace trace' OutputFailed = ⊥

-- The line ------------------------------------------------------------------------------------------------------------------

-- a name and a number
abbrev pub number_text : List ℕ → ℕ → List ℕ
number_text name number = name ++ decimal number

-- so many subscribers and terms
abbrev pub terms_text : ℕ → ℕ → List ℕ
terms_text subscribers terms = number_text (codes "exercise subscribers=") subscribers ++ number_text (codes " terms=") terms

-- the packets and octets from the subscribers
abbrev pub input_text : Book → List ℕ
input_text carried = number_text (codes " in_packets=") carried.input_packets ++ number_text (codes " in_octets=") carried.input

-- and towards them
abbrev pub output_text : Book → List ℕ
output_text carried = number_text (codes " out_packets=") carried.output_packets ++ number_text (codes " out_octets=") carried.output

-- the Stops, and the items dropped
abbrev pub stops_text : ℕ → ℕ → List ℕ
stops_text stops dropped = number_text (codes " stops=") stops ++ number_text (codes " dropped=") dropped ++ codes "\n"

-- all of them
abbrev pub exercise_text : ℕ → ℕ → Book → ℕ → ℕ → List ℕ
exercise_text subscribers terms carried stops dropped = terms_text subscribers terms ++ input_text carried ++ output_text carried ++ stops_text stops dropped

-- by what a desk has counted
abbrev pub line_by : ℕ → Desk → List ℕ
line_by subscribers d = exercise_text subscribers (sums_of d).terms (sums_of d).total (sums_of d).stops (sum (sums_of d).drops)

-- the line of a desk that did not starve was written; each of its terms has a Stop, or is there
pub record Prints (subscribers : ℕ) (last : Desk) (out out' : SinkTold) : Type 0 where
  pub unstarved : ¬ (state_of last ≡ Starved)
  pub printed : Grows out.bytes out'.bytes (line_by subscribers last)
  pub later : out.faults ≤ out'.faults
  pub each_term : (sums_of last).terms ≡ (sums_of last).stops + live_terms last.shards

-- a front of it was written, and then the sink failed
pub record FailsToPrintLine (subscribers : ℕ) (last : Desk) (out out' : SinkTold) : Type 0 where
  pub unstarved : ¬ (state_of last ≡ Starved)
  pub fails : FailsToSay out out' (line_by subscribers last)

-- why it was not written; want of memory is free
abbrev pub IsUnprinted : ℕ → Desk → SinkTold → SinkTold → Refusal → Type 0
IsUnprinted subscribers last out out' Usage = ⊥
IsUnprinted subscribers last out out' (Refused fault) = ⊥
IsUnprinted subscribers last out out' (CannotOpen what) = ⊥
IsUnprinted subscribers last out out' OutOfMemory = out' ≡ out
IsUnprinted subscribers last out out' TraceFailed = ⊥
IsUnprinted subscribers last out out' OutputFailed = FailsToPrintLine subscribers last out out'

-- The line was written, and then what the Stops come to; or it was not, and the line of its refusal was.
abbrev pub TellsLine : ℕ → Desk → SinkTold → SinkTold → SinkTold → SinkTold → ℕ → Type 0
TellsLine subscribers last out out' err err' status =
    (Prints subscribers last out out' × Concludes last err err' status) ⊎ ((refusal : Refusal) × IsUnprinted subscribers last out out' refusal × Told err err' refusal status)

-- How an exercise ends: it was served to its end, and this was told; or it was not, and the line that says why was written, or a front of it.
abbrev pub Exercises : ℕ → ℕ → TraceTold → TraceTold → SinkTold → SinkTold → SinkTold → SinkTold → ℕ → Type 0
Exercises subscribers workers trace trace' out out' err err' status =
    ((d : Desk) × IsPlayed workers trace trace' d × TellsLine subscribers d out out' err err' status)
    ⊎ ((refusal : Refusal) × IsUnplayed workers trace trace' refusal × (out' ≡ out) × Told err err' refusal status)

-- In the subject's own words ------------------------------------------------------------------------------------------------

-- the records of the rounds of these turns, one after another
abbrev pub records_told : List Made → List MadeEnd → List RoundRecord
records_told turns endings = (run_stretch turns).rounds ++ (ending_stretch endings).rounds

-- What the line says of so many subscribers, over the rounds of these turns: the terms of which a Start was formed, the packets that were
-- sent from the subscribers to the core and towards the subscribers, and their octets, the Stops that were formed, and the items that were
-- dropped.
abbrev pub line_over : ℕ → Config → List Made → List MadeEnd → List ℕ
line_over subscribers config turns endings =
    exercise_text subscribers (length (all_terms_of config (rounds_of turns endings))) (total_in (plant_of turns endings).sent) (length (stops_of (rounds_of turns endings))) (sum (by_number (drops_of_run turns endings)))

-- What holds of the turns that an exercise made, whatever status it ended with.
pub record SafelyExercised (workers : ℕ) (old new : World) : Type 0 where
  -- The configuration of an exercise was served from the moment 0 on, in these turns.
  pub config : Config
  pub is_exercise : IsExercise workers config
  pub last : ℕ
  pub course : Course config turns_most exercise_seed (outside (peers_beside 0 old)) (outside (peers_beside last new))
  -- The trace was told the rounds of these turns that it took, each once and in order, and no other.
  pub traced : Grows old.trace.rounds new.trace.rounds (records_told course.turns course.endings)
  -- They are a run of the gateway from its opening state, of which all holds that holds of a run over sockets.
  pub safe : IsSafe config turns_most exercise_seed (peers_beside 0 old) (peers_beside last new) course

-- What holds of an exercise that came to its line, with status 0 or 6.
pub record Exercised (subscribers workers status : ℕ) (old new : World) : Type 0 where
  pub made : SafelyExercised workers old new
  -- They are turns of serving, and of the ending, until no session was left, and of the grace, until it was over; and the trace took each
  -- round.
  pub whole : IsWhole turns_most made.course.turns made.course.endings made.course.last
  pub ended : state_of made.course.last ≡ Ended
  -- Each term has one Stop, and the Stops say what was sent.
  pub stopped : AllZip AreStopped made.safe.history.shards (terms_of_run made.config (rounds_of made.course.turns made.course.endings))
  pub exact : StopsAccount (stops_of (rounds_of made.course.turns made.course.endings)) made.safe.sent
  -- Each number of the line, but that of the subscribers, is its sum over these rounds.
  pub printed : Grows old.out.bytes new.out.bytes (line_over subscribers made.config made.course.turns made.course.endings)
  -- With status 0 each Stop that was formed was acknowledged by a datagram that was heard later.
  pub acknowledged : status ≡ 0 → StopsAreAcknowledged (calls_in_run made.config turns_most exercise_seed (peers_beside 0 old) (peers_beside made.last new) made.course)

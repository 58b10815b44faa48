-- A run as a list of turns: those of serving, and then those of the ending and of the grace.
use Rattle.std.specs.Prelude.{◌≡◌, ℕ, ◌+◌, ◌-◌, ◌^◌, ◌≤◌, ◌<◌, ◌⊎◌, Bool, true, false, List, [], ◌∷◌, ◌++◌, Option, Some, None, length, take}
use Rattle.std.specs.List.{list_any}
use Rattle.bng_base.specs.Causes.{Rose}
use Rattle.bng_base.specs.Stretch.{Outside, Stretch, Extends}
use Rattle.bng_base.specs.Chain.{Chain, all_stretches}
use Rattle.bng_desk.specs.declared.desk.DeskState.{DeskState}
use Rattle.bng_desk.specs.declared.desk.DeskState.TheVariants.{Serving, Ending, Grace, Ended, Starved}
use Rattle.bng_desk.specs.declared.desk.Turned.{Turned}
use Rattle.bng_desk.specs.declared.desk.Turned.TheVariants.{Ok, TraceFault, WantOfMemory}
use Rattle.bng_desk.specs.Control.{has_stop}
use Rattle.bng_desk.specs.Model.{Desk, graces_most, state_of}
use Rattle.bng_desk.specs.Turn.{Turn, Step, stretch_of, EndTurn, EndStep, end_stretch, GraceTurn, GraceStep, grace_stretch}

-- a turn, and the desk from which it was made
pub record Made : Type 0 where
  pub desk : Desk
  pub turn : Option Turn

-- a turn once serving is over: one of the ending, which is None where it wanted memory, or one of the grace
pub data Late : Type 0 where
  Ends : Option EndTurn → Late
  Waits : GraceTurn → Late

-- where the desk stands from which it is made
abbrev pub made_in : Late → DeskState
made_in (Ends t) = Ending
made_in (Waits t) = Grace

abbrev pub LateStep : Desk → Late → Desk → Type 0
LateStep d (Ends t) d' = EndStep d t d'
LateStep d (Waits t) d' = GraceStep d t d'

abbrev pub late_stretch : Desk → Late → Stretch
late_stretch d (Ends t) = end_stretch d t
late_stretch d (Waits t) = grace_stretch d t

pub record MadeEnd : Type 0 where
  pub desk : Desk
  pub turn : Late

abbrev pub Goes : Desk → Made → Desk → Type 0
Goes d m d' = (m.desk ≡ d) × Step d m.turn d'

abbrev pub GoesEnding : Desk → MadeEnd → Desk → Type 0
GoesEnding d m d' = (m.desk ≡ d) × LateStep d m.turn d' × (state_of d ≡ made_in m.turn)

-- these turns lead from the first desk to the last, each from the desk that the one before left
abbrev pub Run : Desk → List Made → Desk → Type 0
Run = Chain Goes

abbrev pub EndRun : Desk → List MadeEnd → Desk → Type 0
EndRun = Chain GoesEnding

abbrev pub made_stretch : Made → Stretch
made_stretch m = stretch_of m.desk m.turn

abbrev pub made_end_stretch : MadeEnd → Stretch
made_end_stretch m = late_stretch m.desk m.turn

-- what the turns add to what the outside tells, one after another
abbrev pub run_stretch : List Made → Stretch
run_stretch turns = all_stretches made_stretch turns

abbrev pub ending_stretch : List MadeEnd → Stretch
ending_stretch ends = all_stretches made_end_stretch ends

abbrev pub took : Option Turn → Bool
took None = false
took (Some t) = has_stop t.control

abbrev pub took_stop : Made → Bool
took_stop m = took m.turn

-- no turn but the last took `stop`; where none did, there were n turns
pub record EndsServing (n : ℕ) (turns : List Made) : Type 0 where
  pub within : length turns ≤ n
  pub none_before : list_any took_stop (take (length turns - 1) turns) ≡ false
  pub ended : list_any took_stop turns ≡ false → length turns ≡ n

-- the trace took each round of these
abbrev pub AreNoted : Stretch → Type 0
AreNoted s = s.unnoted ≡ false

-- a call of `serve` was these turns, and the trace took their rounds
pub record Serves (d d' : Desk) (o o' : Outside) : Type 0 where
  pub turns : List Made
  pub run : Run d turns d'
  pub told : Extends o o' (run_stretch turns)
  pub noted : AreNoted (run_stretch turns)
  pub ends : EndsServing d.rounds turns
  pub over : ¬ (state_of d' ≡ Serving)

-- a call of `serve` was these turns and one more, the first whose round the trace did not take; none before it took `stop`
pub record FailsServing (d d' : Desk) (o o' : Outside) : Type 0 where
  pub turns : List Made
  pub fault : Made
  pub run : Run d (turns ++ fault ∷ []) d'
  pub told : Extends o o' (run_stretch (turns ++ fault ∷ []))
  pub noted : AreNoted (run_stretch turns)
  pub unnoted : ¬ AreNoted (made_stretch fault)
  pub within : length turns < d.rounds
  pub none_before : list_any took_stop turns ≡ false
  pub rose : Rose o.trace.faults o'.trace.faults

-- the most turns of the ending and of the grace that a run makes
abbrev pub endings_most : ℕ
endings_most = 2 ^ 37 + graces_most

-- a call of `finish` was these turns of the ending and of the grace, and the trace took their rounds
pub record Finishes (d d' : Desk) (o o' : Outside) : Type 0 where
  pub ends : List MadeEnd
  pub run : EndRun d ends d'
  pub told : Extends o o' (ending_stretch ends)
  pub noted : AreNoted (ending_stretch ends)
  pub within : length ends ≤ endings_most
  pub over : (state_of d' ≡ Ended) ⊎ (state_of d' ≡ Starved)

-- a call of `finish` was these turns and one more, the first whose round the trace did not take
pub record FailsFinishing (d d' : Desk) (o o' : Outside) : Type 0 where
  pub ends : List MadeEnd
  pub fault : MadeEnd
  pub run : EndRun d (ends ++ fault ∷ []) d'
  pub told : Extends o o' (ending_stretch (ends ++ fault ∷ []))
  pub noted : AreNoted (ending_stretch ends)
  pub unnoted : ¬ AreNoted (made_end_stretch fault)
  pub within : length ends < endings_most
  pub rose : Rose o.trace.faults o'.trace.faults

-- both calls, one after the other
pub record MakesTurns (d d' : Desk) (o o' : Outside) : Type 0 where
  pub over : Desk
  pub between : Outside
  pub serves : Serves d over o between
  pub finishes : Finishes over d' between o'

-- the trace took each round of serving, and not each of the ending
pub record FailsEnding (d d' : Desk) (o o' : Outside) : Type 0 where
  pub over : Desk
  pub between : Outside
  pub serves : Serves d over o between
  pub fails : FailsFinishing over d' between o'

abbrev pub FailsTurning : Desk → Desk → Outside → Outside → Type 0
FailsTurning d d' o o' = FailsServing d d' o o' ⊎ FailsEnding d d' o o'

-- where a desk stands, and what a turn answered, as tests
abbrev pub is_serving : DeskState → Bool
is_serving Serving = true
is_serving Ending = false
is_serving Grace = false
is_serving Ended = false
is_serving Starved = false

-- serving is over, and turns are still to be made
abbrev pub is_late : DeskState → Bool
is_late Serving = false
is_late Ending = true
is_late Grace = true
is_late Ended = false
is_late Starved = false

abbrev pub is_starved : DeskState → Bool
is_starved Serving = false
is_starved Ending = false
is_starved Grace = false
is_starved Ended = false
is_starved Starved = true

abbrev pub is_fault : Turned → Bool
is_fault Ok = false
is_fault TraceFault = true
is_fault WantOfMemory = false

-- How the commands end.
use Rattle.std.specs.Prelude.{◌≡◌, ◌≤◌, ◌⊎◌, ⊤, ℕ, List, None, Some}
use Rattle.bng_words.specs.Meaning.{Meaning, Says, serve, check, exercise, audit}
use Rattle.bng_words.specs.declared.command.WordsError.{WordsError}
use Rattle.bng_words.specs.declared.command.WordsError.TheVariants.{Refused as NoWords, OutOfMemory as NoMemory}
use Rattle.bng_gate.specs.declared.texts.Refusal.{Refusal}
use Rattle.bng_gate.specs.declared.texts.Refusal.TheVariants.{Usage, OutOfMemory}
use Rattle.bng_gate.specs.Check.{Checks}
use Rattle.bng_gate.specs.Exercise.{Exercises}
use Rattle.bng_gate.specs.Run.{World, ServeEnds, Told, turns_most}

-- a check reads the file of this name and writes, and touches nothing else
pub record CheckEnds (file : List ℕ) (old new : World) (status : ℕ) : Type 0 where
  pub checks : Checks file old.files new.files old.out new.out old.err new.err status
  pub plant : new.plant ≡ old.plant
  pub clock : new.clock ≡ old.clock
  pub entropy : new.entropy ≡ old.entropy
  pub trace : new.trace ≡ old.trace

-- an exercise tells the trace and writes, and touches nothing else
pub record ExerciseEnds (subscribers workers : ℕ) (old new : World) (status : ℕ) : Type 0 where
  pub exercises : Exercises subscribers workers old.trace new.trace old.out new.out old.err new.err status
  pub files : new.files ≡ old.files
  pub plant : new.plant ≡ old.plant
  pub clock : new.clock ≡ old.clock
  pub entropy : new.entropy ≡ old.entropy

-- nothing is touched but the output of errors
pub record LeavesAll (old new : World) : Type 0 where
  pub files : new.files ≡ old.files
  pub plant : new.plant ≡ old.plant
  pub clock : new.clock ≡ old.clock
  pub entropy : new.entropy ≡ old.entropy
  pub trace : new.trace ≡ old.trace
  pub out : new.out ≡ old.out

-- the usage line is written there, or a front of it
pub record UsageEnds (old new : World) (status : ℕ) : Type 0 where
  pub told : Told old.err new.err Usage status
  pub untouched : LeavesAll old new

-- so it is of a command that the program does not carry out, if there is memory to read its words
pub record AsideEnds (old new : World) (status : ℕ) : Type 0 where
  pub told : Told old.err new.err Usage status ⊎ Told old.err new.err OutOfMemory status
  pub untouched : LeavesAll old new

-- How a command ends. No trace file is written or judged yet.
abbrev pub CommandEnds : Meaning → World → World → ℕ → Type 0
CommandEnds (serve file None rounds) old new status = ServeEnds file rounds old new status
CommandEnds (serve file (Some trace) rounds) old new status = AsideEnds old new status
CommandEnds (check file) old new status = CheckEnds file old new status
CommandEnds (exercise subscribers workers) old new status = ExerciseEnds subscribers workers old new status
CommandEnds (audit file) old new status = AsideEnds old new status

-- the program carries the command out
abbrev pub IsCarriedOut : Meaning → Type 0
IsCarriedOut (serve file None rounds) = ⊤
IsCarriedOut (serve file (Some trace) rounds) = ⊥
IsCarriedOut (check file) = ⊤
IsCarriedOut (exercise subscribers workers) = ⊤
IsCarriedOut (audit file) = ⊥

-- its numbers are in their ranges
abbrev pub IsInRange : Meaning → Type 0
IsInRange (serve file trace rounds) = (1 ≤ rounds) × (rounds ≤ turns_most)
IsInRange (check file) = ⊤
IsInRange (exercise subscribers workers) = (1 ≤ subscribers) × (subscribers ≤ 4000) × (1 ≤ workers) × (workers ≤ 16)
IsInRange (audit file) = ⊤

-- memory was wanted to read the words, and nothing else was touched
pub record WantsWords (old new : World) (status : ℕ) : Type 0 where
  pub told : Told old.err new.err OutOfMemory status
  pub untouched : LeavesAll old new

-- how a run ends: a command was carried out that the words say, or they say none, or memory was wanted to read the words of one
abbrev pub Outcome : List (List ℕ) → World → World → ℕ → Type 0
Outcome words old new status =
    ((m : Meaning) × Says words m × CommandEnds m old new status)
    ⊎ ((((m : Meaning) → ¬ Says words m) × UsageEnds old new status) ⊎ ((((m : Meaning) → ¬ Says words m) → ⊥) × WantsWords old new status))

-- why words that were not read are refused
abbrev pub refusal_for : WordsError → Refusal
refusal_for NoWords = Usage
refusal_for NoMemory = OutOfMemory

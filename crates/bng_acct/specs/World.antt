-- Whole runs of a spool: what its calls promise beside each other.
use Rattle.std.specs.Prelude.{◌≡◌, ◌≢◌, ℕ, true, List, [], ◌∷◌, filter, Some, ◌⊎◌, None}
use Rattle.bng_base.specs.Packet.{Packet as Bytes}
use Rattle.bng_acct.specs.declared.facts.StatusType.{StatusType}
use Rattle.bng_acct.specs.declared.facts.TermFacts.{TermFacts}
use Rattle.bng_acct.specs.declared.facts.Moment.{Moment}
use Rattle.bng_acct.specs.declared.sheet.Sheet.{Sheet}
use Rattle.bng_acct.specs.Queue.{sheet_at, Sets, without}
use Rattle.bng_acct.specs.Spool.{State, Forms, HandsOver, is_stop, is_stop_sheet, only_stop}

-- a record was formed, handed out or acknowledged, or all but Stops were forgotten
pub data Event : Type 0 where
  Formed : StatusType → TermFacts → Moment → ℕ → Event
  Handed : ℕ → Bytes → Event
  Acked : ℕ → Event
  Forgot : Event

-- what `acked` ensures of the records
pub record Acks (old new : State) (n : ℕ) : Type 0 where
  pub sets : Sets old.sheets new.sheets n None
  pub waiting : new.waiting ≡ without n old.waiting

-- what `stops_only` ensures of the records
pub record KeepsStops (old new : State) : Type 0 where
  pub sheets : (n : ℕ) → sheet_at new.sheets n ≡ only_stop (sheet_at old.sheets n)
  pub waiting : new.waiting ≡ filter (λ n. is_stop_sheet (sheet_at old.sheets n)) old.waiting

abbrev pub Step : State → Event → State → Type 0
Step old (Formed status facts moment n) new = Forms old new status facts moment n
Step old (Handed n frame) new = HandsOver old new n frame
Step old (Acked n) new = Acks old new n
Step old Forgot new = KeepsStops old new

-- the events led from one state to another
abbrev pub Run : State → List Event → State → Type 0
Run s [] end = end ≡ s
Run s (e ∷ es) end = (next : State) × Step s e next × Run next es end

-- the numbers that were given to records, in the order in which these were formed
abbrev pub formed : List Event → List ℕ
formed [] = []
formed (Formed status facts moment n ∷ es) = n ∷ formed es
formed (Handed n frame ∷ es) = formed es
formed (Acked n ∷ es) = formed es
formed (Forgot ∷ es) = formed es

-- the numbers that were handed out, in that order
abbrev pub handed : List Event → List ℕ
handed [] = []
handed (Formed status facts moment n ∷ es) = handed es
handed (Handed n frame ∷ es) = n ∷ handed es
handed (Acked n ∷ es) = handed es
handed (Forgot ∷ es) = handed es

-- the first list is a part of the second, in its order
abbrev pub IsPart : List ℕ → List ℕ → Type 0
IsPart [] ys = Unit {0}
IsPart (x ∷ xs) [] = ⊥
IsPart (x ∷ xs) (y ∷ ys) = ((x ≡ y) × IsPart xs ys) ⊎ IsPart (x ∷ xs) ys

-- no event acknowledges this record, or forgets it
abbrev pub Spares : ℕ → StatusType → List Event → Type 0
Spares n status [] = Unit {0}
Spares n status (Formed kind facts moment m ∷ es) = Spares n status es
Spares n status (Handed m frame ∷ es) = Spares n status es
Spares n status (Acked m ∷ es) = (m ≢ n) × Spares n status es
Spares n status (Forgot ∷ es) = (is_stop status ≡ true) × Spares n status es

-- the record is open, whether it was handed out or not
pub record IsOpen (s : State) (n : ℕ) (x : Sheet) : Type 0 where
  pub sheet : Sheet
  pub is_there : sheet_at s.sheets n ≡ Some sheet
  pub same : sheet.record ≡ x.record

-- A text is written, or the sink failed.
use Rattle.std.specs.Prelude.{◌≡◌, ℕ, ◌≤◌, List, length, take}
use Rattle.bng_base.specs.Causes.{Rose}
use Rattle.bng_base.specs.Told.{SinkTold, Grows}
use Rattle.bng_plant.specs.declared.answers.Wrote.{Wrote}
use Rattle.bng_plant.specs.declared.answers.Wrote.TheVariants.{Ok, Failed}

-- a front of the text was written, and then the sink failed
pub record FailsToSay (old new : SinkTold) (text : List ℕ) : Type 0 where
  pub front : ℕ
  pub within : front ≤ length text
  pub told : Grows old.bytes new.bytes (take front text)
  pub rose : Rose old.faults new.faults

-- the whole text was written, or a front of it
pub record Says (old new : SinkTold) (text : List ℕ) (answer : Wrote) : Type 0 where
  pub written : answer ≡ Ok → Grows old.bytes new.bytes text
  pub later : old.faults ≤ new.faults
  pub failed : answer ≡ Failed → FailsToSay old new text

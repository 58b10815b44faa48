-- A text goes to a sink through a block.
use Rattle.std.specs.Prelude.{◌≡◌, ◌≤◌, ℕ, List, ◌++◌, Bool, true, false}
use Rattle.bng_base.specs.Causes.{Rose}
use Rattle.bng_base.specs.Told.{SinkTold, Grows}
use Rattle.bng_plant.specs.declared.answers.Wrote.{Wrote}
use Rattle.bng_plant.specs.declared.answers.Wrote.TheVariants.{Ok, Failed}

-- a front of the text was written, and then the sink failed
pub record Breaks (old new : SinkTold) (text : List ℕ) : Type 0 where
  pub front : List ℕ
  pub left : List ℕ
  pub all : front ++ left ≡ text
  pub told : Grows old.bytes new.bytes front
  pub rose : Rose old.faults new.faults

-- the whole text was written, or the sink failed behind a front of it
pub record Spells (old new : SinkTold) (text : List ℕ) (answer : Wrote) : Type 0 where
  pub later : old.faults ≤ new.faults
  pub written : answer ≡ Ok → Grows old.bytes new.bytes text
  pub failed : answer ≡ Failed → Breaks old new text

-- what a block has still to write, and whether the sink failed
pub record Pending : Type 0 where
  pub octets : List ℕ
  pub failed : Bool

-- a front of the text was written, and the rest is pending
pub record Waits (old new : SinkTold) (pending text : List ℕ) : Type 0 where
  pub front : List ℕ
  pub all : front ++ pending ≡ text
  pub told : Grows old.bytes new.bytes front

-- how far a text has come since the sink told `old`: all of it is written or pending, or the sink failed within it
pub record Holds (old new : SinkTold) (block : Pending) (text : List ℕ) : Type 0 where
  pub later : old.faults ≤ new.faults
  pub going : block.failed ≡ false → Waits old new block.octets text
  pub broken : block.failed ≡ true → Breaks old new text

-- a call put this text behind all that was put before it
pub record Adds (old new : SinkTold) (before after : Pending) (text : List ℕ) : Type 0 where
  pub adds : (start : SinkTold) (done : List ℕ) → Holds start old before done → Holds start new after (done ++ text)

-- a call wrote all that was pending, and answered for all that was put before it
pub record Closes (old new : SinkTold) (block : Pending) (answer : Wrote) : Type 0 where
  pub closes : (start : SinkTold) (done : List ℕ) → Holds start old block done → Spells start new done answer

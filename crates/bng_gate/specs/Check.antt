-- What `check` does: it reads a configuration, and says that it is right or which rule it breaks.
use Rattle.std.specs.Prelude.{◌≡◌, ◌≤◌, ◌⊎◌, ℕ, List, codes}
use Rattle.bng_base.specs.Told.{FilesTold, SinkTold, Grows}
use Rattle.bng_config.specs.declared.config.Config.{Config}
use Rattle.bng_gate.specs.declared.texts.Refusal.{Refusal}
use Rattle.bng_gate.specs.declared.texts.Refusal.TheVariants.{Usage, Refused, CannotOpen, OutOfMemory, TraceFailed, OutputFailed}
use Rattle.bng_gate.specs.Run.{Prepares, IsUnprepared, Told}
use Rattle.bng_gate.specs.Saying.{FailsToSay}

-- the file of this name was read, whose text is a configuration, which breaks no rule, and that was written
pub record IsRight (file : List ℕ) (files files' : FilesTold) (out out' : SinkTold) : Type 0 where
  pub config : Config
  pub prepares : Prepares file files files' config
  pub printed : Grows out.bytes out'.bytes (codes "ok\n")
  pub later : out.faults ≤ out'.faults

-- so it was read, and that could not be written whole
pub record IsUntold (file : List ℕ) (files files' : FilesTold) (out out' : SinkTold) : Type 0 where
  pub config : Config
  pub prepares : Prepares file files files' config
  pub fails : FailsToSay out out' (codes "ok\n")

-- why nothing was written that a configuration is right
abbrev pub IsUnchecked : List ℕ → FilesTold → FilesTold → SinkTold → SinkTold → Refusal → Type 0
IsUnchecked file files files' out out' Usage = ⊥
IsUnchecked file files files' out out' (Refused fault) = IsUnprepared file files files' (Refused fault) × (out' ≡ out)
IsUnchecked file files files' out out' (CannotOpen what) = IsUnprepared file files files' (CannotOpen what) × (out' ≡ out)
IsUnchecked file files files' out out' OutOfMemory = IsUnprepared file files files' OutOfMemory × (out' ≡ out)
IsUnchecked file files files' out out' TraceFailed = ⊥
IsUnchecked file files files' out out' OutputFailed = IsUntold file files files' out out'

-- With status 0 the configuration is right, and nothing was written of errors; with any other the line that says why was, or a front of it.
abbrev pub Checks : List ℕ → FilesTold → FilesTold → SinkTold → SinkTold → SinkTold → SinkTold → ℕ → Type 0
Checks file files files' out out' err err' status =
    ((status ≡ 0) × IsRight file files files' out out' × (err' ≡ err)) ⊎ ((refusal : Refusal) × IsUnchecked file files files' out out' refusal × Told err err' refusal status)

-- What the sink in memory tells and holds.
use Rattle.std.specs.Prelude.{ℕ, ◌-◌, ◌/◌, Some, min, if◌then◌else◌, vec_len, vec_capacity}
use Rattle.bng_base.specs.Told.{SinkTold}
use Rattle.bng_plant.specs.Failing.{Calls, calls_of, is_due}
use Rattle.bng_plant.specs.declared.memory_sink.MemorySink.{MemorySink}

abbrev pub told_by : MemorySink → SinkTold
told_by s = record { bytes = Some s.text.items; faults = s.failing.faults }

-- its calls, and for how many octets more it has room
pub record SinkHeld : Type 0 where
  pub calls : Calls
  pub room : ℕ

abbrev pub held_by : MemorySink → SinkHeld
held_by s = record { calls = calls_of s.failing; room = vec_capacity s.text - vec_len s.text }

-- how many octets of so many the next write appends: all, or the first half where it is to fail, as far as there is room
abbrev pub written : SinkHeld → ℕ → ℕ
written s n = min (if is_due s.calls then n / 2 else n) s.room

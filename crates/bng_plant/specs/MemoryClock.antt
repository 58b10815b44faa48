-- What the clock in memory tells and holds.
use Rattle.std.specs.Prelude.{ℕ, ◌-◌, vec_len, vec_capacity}
use Rattle.bng_base.specs.Told.{ClockTold, told_unless}
use Rattle.bng_plant.specs.declared.memory_clock.MemoryClock.{MemoryClock}

abbrev pub told_by : MemoryClock → ClockTold
told_by c = record { answers = told_unless c.silent c.answers.items; last = c.last }

-- its step in milliseconds, its second on the wall at the moment 0, and how many answers more it tells
pub record ClockHeld : Type 0 where
  pub step : ℕ
  pub wall : ℕ
  pub room : ℕ

abbrev pub held_by : MemoryClock → ClockHeld
held_by c = record { step = c.step; wall = c.wall; room = vec_capacity c.answers - vec_len c.answers }

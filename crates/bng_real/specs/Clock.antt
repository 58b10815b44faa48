-- What a clock answers.
use Rattle.std.specs.Prelude.{◌-◌, ◌/◌, ◌^◌, ℕ, Option, Some, None, max, min}
use Rattle.std.specs.Duration.{as_nanos}
use Rattle.std.specs.declared.time.Duration.{Duration}

-- the milliseconds that have passed by the system's clock, but none below the last answer, and none past the last moment that there is;
-- where the system says nothing, the last answer
abbrev pub moment_after : ℕ → Option Duration → ℕ
moment_after last (Some passed) = max last (min (as_nanos passed / 1_000_000) (2 ^ 60 - 1))
moment_after last None = last

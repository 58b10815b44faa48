-- The moments of the clock of the peers.
use Rattle.std.specs.Prelude.{ℕ, ◌-◌, ◌^◌, max, min}

-- never below the last one, and kept below 2^60
abbrev pub moment_after : (last shared : ℕ) → ℕ
moment_after last shared = max last (min shared (2 ^ 60 - 1))

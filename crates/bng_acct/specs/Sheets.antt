-- Open records by number.
use Rattle.std.specs.Prelude.{◌≡◌, ℕ, ◌+◌, ◌*◌, ◌/◌, ◌<◌, ◌≤◌, ◌^◌, Bool, true, false, List, Option, length, slice_index_or, is_some}
use Rattle.bng_acct.specs.declared.sheet.Sheet.{Sheet}
use Rattle.bng_acct.specs.Queue.{sheet_at}

-- the records, each at the place of its number, and for how many there is room
pub record Table : Type 0 where
  pub places : List (Option Sheet)
  pub room : ℕ

-- each number from the first on, below the second, is that of a record
abbrev pub AreUsed : List (Option Sheet) → (from to : ℕ) → Type 0
AreUsed places from to = (n : ℕ) → from ≤ n → n < to → is_some (sheet_at places n) ≡ true

-- each number in a row of 64 that is marked is that of a record
abbrev pub AreFull : List (Option Sheet) → List Bool → Type 0
AreFull places full = (n : ℕ) → slice_index_or full (n / 64) false ≡ true → is_some (sheet_at places n) ≡ true

pub record IsTable (places : List (Option Sheet)) (full : List Bool) (room capacity : ℕ) : Type 0 where
  pub marked : AreFull places full
  pub few : length places ≤ room
  pub fits : room < 2 ^ 32
  pub has_room : room ≤ capacity
  pub rows : length full ≡ room / 64 + 1

-- a record that is handed out
abbrev pub handed : Sheet → Sheet
handed x = record x { handed = true }

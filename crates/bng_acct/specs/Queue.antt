-- The records that are open.
use Rattle.std.specs.Prelude.{◌≡◌, ◌≢◌, ◌==◌, ℕ, ◌<◌, ◌≤◌, ◌^◌, Bool, true, false, not, List, [], ◌∷◌, filter, slice_index_or, count_by, Option, Some, None, is_some, ◌⊎◌}
use Rattle.std.specs.List.{AllByRecursion}
use Rattle.bng_acct.specs.declared.sheet.Sheet.{Sheet}

-- the open records by their numbers, the numbers of those that were not handed out in the order in which the records were
-- formed, and for how many there is room
pub record Open : Type 0 where
  pub sheets : List (Option Sheet)
  pub waiting : List ℕ
  pub most : ℕ

-- the record that has a number
abbrev pub sheet_at : List (Option Sheet) → ℕ → Option Sheet
sheet_at sheets n = slice_index_or sheets n None

abbrev pub count : List (Option Sheet) → ℕ
count sheets = count_by is_some sheets

abbrev pub is_waiting : Option Sheet → Bool
is_waiting None = false
is_waiting (Some x) = not x.handed

abbrev pub Apart : List ℕ → Type 0
Apart [] = Unit {0}
Apart (n ∷ ns) = AllByRecursion (λ m. m ≢ n) ns × Apart ns

-- each of these numbers is once there, and is that of a record that was not handed out
pub record AreWaiting (sheets : List (Option Sheet)) (numbers : List ℕ) : Type 0 where
  pub each : AllByRecursion (λ n. is_waiting (sheet_at sheets n) ≡ true) numbers
  pub apart : Apart numbers

abbrev pub IsIn : ℕ → List ℕ → Type 0
IsIn n [] = ⊥
IsIn n (m ∷ ms) = (m ≡ n) ⊎ IsIn n ms

-- each record that was not handed out has its number among these
abbrev pub AllWait : List (Option Sheet) → List ℕ → Type 0
AllWait sheets numbers = (n : ℕ) (x : Sheet) → sheet_at sheets n ≡ Some x → x.handed ≡ false → IsIn n numbers

-- the numbers of all records are below this one
abbrev pub AllBelow : List (Option Sheet) → ℕ → Type 0
AllBelow sheets most = (n : ℕ) (x : Sheet) → sheet_at sheets n ≡ Some x → n < most

-- the open records and the numbers of those that wait, where numbers are below a bound
pub record IsQueue (sheets : List (Option Sheet)) (numbers : List ℕ) (most room : ℕ) : Type 0 where
  pub most_fits : most < 2 ^ 32
  pub room_is : room ≡ most
  pub wait : AreWaiting sheets numbers
  pub all_wait : AllWait sheets numbers
  pub below : AllBelow sheets most

-- the number has this, and each other number has what it had
pub record Sets (old new : List (Option Sheet)) (n : ℕ) (x : Option Sheet) : Type 0 where
  pub changed : sheet_at new n ≡ x
  pub others : (m : ℕ) → m ≢ n → sheet_at new m ≡ sheet_at old m

-- the numbers but this one
abbrev pub without : ℕ → List ℕ → List ℕ
without n numbers = filter (λ m. not (m == n)) numbers

-- the number is the first that waited, and its record counts as handed out
pub record HandsOut (old new : Open) (n : ℕ) : Type 0 where
  pub first : old.waiting ≡ n ∷ new.waiting
  pub sheet : Sheet
  pub was : sheet_at old.sheets n ≡ Some sheet
  pub sets : Sets old.sheets new.sheets n (Some (record sheet { handed = true }))
  pub same_count : count new.sheets ≡ count old.sheets
  pub same_most : new.most ≡ old.most

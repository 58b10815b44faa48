-- Numbers in a row, each of which knows the one after it and the one before it.
use Rattle.std.specs.Prelude.{◌≡◌, ◌==◌, ℕ, zero, suc, ◌+◌, ◌<◌, ◌≤◌, if◌then◌else◌, List, [], ◌∷◌, length, slice_index_or}
use Rattle.std.specs.List.{AllByRecursion}
use Rattle.bng_acct.specs.Queue.{Apart}

-- the numbers in their order, and the bound of each and of how many there are
pub record Row : Type 0 where
  pub numbers : List ℕ
  pub room : ℕ

abbrev pub at : List ℕ → ℕ → ℕ
at xs n = slice_index_or xs n 0

-- the numbers from one on, up to the end
abbrev pub walk : ℕ → List ℕ → ℕ → ℕ → List ℕ
walk zero after end n = []
walk (suc k) after end n = if n == end then [] else n ∷ walk k after end (at after n)

-- from one number over these to another, each knows the next, and the next knows it
abbrev pub Chain : List ℕ → List ℕ → ℕ → List ℕ → ℕ → Type 0
Chain after before p [] z = (at after p ≡ z) × (at before z ≡ p)
Chain after before p (n ∷ ns) z = (at after p ≡ n) × (at before n ≡ p) × Chain after before n ns z

-- the end stands before the first and after the last
pub record IsRow (after before : List ℕ) (end : ℕ) (numbers : List ℕ) : Type 0 where
  pub after_all : length after ≡ end + 1
  pub before_all : length before ≡ end + 1
  pub chain : Chain after before end numbers end
  pub apart : Apart numbers
  pub below : AllByRecursion (λ n. n < end) numbers
  pub few : length numbers ≤ end

abbrev pub row : List ℕ → ℕ → Row
row after end = record { numbers = walk end after end (at after end); room = end }

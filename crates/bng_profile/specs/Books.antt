-- Profiles by name, and the book of each.
use Rattle.std.specs.Prelude.{◌≡◌, ℕ, ◌+◌, ◌^◌, ◌<◌, ◌≤◌, Bool, List, map, slice_get, Some}
use Rattle.bng_base.specs.declared.book.Book.{Book}
use Rattle.bng_base.specs.declared.book.Profile.{Profile}
use Rattle.bng_base.specs.Books.{octets_in, packets_in}

-- the names of the profiles and their books, in the order of the list
pub record Ledger : Type 0 where
  pub names : List (List ℕ)
  pub books : List Book

abbrev pub names_of : List Profile → List (List ℕ)
names_of profiles = map (λ p. p.name.items) profiles

-- no two of these names are the same
abbrev pub AreDifferent : List (List ℕ) → Type 0
AreDifferent names = (i j : ℕ) (name : List ℕ) → slice_get names i ≡ Some name → slice_get names j ≡ Some name → i ≡ j

-- the book has room for so many octets and one packet more in that direction
abbrev pub HasRoom : Book → Bool → ℕ → Type 0
HasRoom b input octets = (octets_in input b + octets < 2 ^ 64) × (packets_in input b + 1 < 2 ^ 64)

-- the book holds so many octets and one packet in that direction
abbrev pub Holds : Book → Bool → ℕ → Type 0
Holds b input octets = (octets ≤ octets_in input b) × (1 ≤ packets_in input b)

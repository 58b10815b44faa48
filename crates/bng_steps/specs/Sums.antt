-- What terms carried, and what passed.
use Rattle.std.specs.Prelude.{◌≡◌, ℕ, ◌+◌, ◌<◌, ◌≤◌, ◌==◌, Bool, ◌&&◌, List, [], ◌∷◌, Option, Some, None, cond, length}
use Rattle.bng_base.specs.declared.book.Book.{Book}
use Rattle.bng_base.specs.declared.item.Charge.{Charge as Of}
use Rattle.bng_base.specs.declared.item.OutRecord.{OutRecord}
use Rattle.bng_engine.specs.Books.{book_at, failed_under}
use Rattle.bng_engine.specs.Quantities.{Quantity, amount, in_book}
use Rattle.bng_engine.specs.Sums.{same, charge_if, is_any, is_directed, passed_sum}
use Rattle.bng_engine.specs.Views.{Row, rows_where}
use Rattle.bng_steps.specs.declared.sums.Charged.{Charged}
use Rattle.bng_steps.specs.declared.sums.Charged.TheVariants.{Packet, Control}
use Rattle.bng_steps.specs.declared.sums.Traffic.{Traffic}

abbrev pub traffic_in : Row → Traffic
traffic_in r = record { input = r.carried.input; output = r.carried.output }

-- whose packet it is, as `charge` answers
abbrev pub charged_as : Option Of → Charged
charged_as None = Control
charged_as (Some c) = Packet c.input c.octets

-- one packet more stands in the second book than in the first, of so many octets in this direction
abbrev pub IsMore : Book → Bool → ℕ → Book → Type 0
IsMore book input octets book' = (q : Quantity) (direction : Bool) → in_book q direction book' ≡ in_book q direction book + cond (same direction input) (amount q octets) 0

-- one packet more stands in the book of that profile, and the other books say what they said
pub record AreMore (books : List Book) (profile : ℕ) (input : Bool) (octets : ℕ) (books' : List Book) : Type 0 where
  pub count : length books' ≡ length books
  pub each : (q : Quantity) (i : ℕ) (direction : Bool) → i < length books
      → in_book q direction (book_at i books') ≡ in_book q direction (book_at i books) + cond ((profile == i) && same direction input) (amount q octets) 0

-- a book has such a packet
abbrev pub Has : Book → Bool → ℕ → Type 0
Has book input octets = (q : Quantity) → amount q octets ≤ in_book q input book

-- a book rises by what passes, by its direction
abbrev pub Rises : Book → List OutRecord → Book → Type 0
Rises book outs book' = (q : Quantity) (input : Bool) → in_book q input book' ≡ in_book q input book + passed_sum (charge_if q (is_directed input)) outs

-- no sum in a book, and none of all rows together, is above this number
abbrev pub IsLow : ℕ → Book → Type 0
IsLow most book = (q : Quantity) (input : Bool) → in_book q input book ≤ most

abbrev pub AreLow : ℕ → List Book → Type 0
AreLow most books = (i : ℕ) → i < length books → IsLow most (book_at i books)

abbrev pub RowsAreLow : ℕ → List Row → Type 0
RowsAreLow most rows = (q : Quantity) (input : Bool) → rows_where q is_any input rows ≤ most

-- what is taken off the books where this send failed is in them
abbrev pub AreCovered : List Book → OutRecord → Type 0
AreCovered books o = (q : Quantity) (i : ℕ) (input : Bool) → i < length books → failed_under q i input (o ∷ []) ≤ in_book q input (book_at i books)

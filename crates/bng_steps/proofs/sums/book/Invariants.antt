use Rattle.std.proofs.Common.{◌≡◌, ◌+◌, ◌*◌, ◌^◌, take}
use Rattle.bng_engine.specs.Books.{BooksRise}
use Rattle.bng_steps.specs.Sums.{AreLow}
use Rattle.bng_steps.proofs.sums.book.Given as goal

abbrev pub invariant-loop-out : goal.invariant-loop-out
invariant-loop-out l = record {
  names : l.profiles.names ≡ l.fn.profiles.names;
  so_far : BooksRise l.fn.profiles.books (take l.out-index l.outs) l.profiles.books;
  low : AreLow (2 ^ 63 + 2 ^ 16 * l.out-index) l.profiles.books;
}

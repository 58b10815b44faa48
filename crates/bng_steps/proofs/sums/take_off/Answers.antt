use Rattle.std.proofs.Common.{refl}
use Rattle.std.proofs.lemmas.Option.{get_or_from_slice_get, slice_get-get_or}
use Rattle.bng_base.specs.Books.{taken_off}
use Rattle.bng_engine.specs.Books.{book_at}
use Rattle.bng_engine.specs.Quantities.{empty_book}
use Rattle.bng_steps.proofs.BookLaws.{held_in_books, less_off}
use Rattle.bng_steps.proofs.Tallying.{set_less}
use Rattle.bng_steps.proofs.sums.take_off.Goals as goal

pub take_off-requires-clause-held : goal.take_off-requires-clause-held
take_off-requires-clause-held c b at = held_in_books c.args.profiles.now.books c.args.profile b c.args.input c.args.octets (get_or_from_slice_get c.args.profiles.now.books c.args.profile b empty_book at) c.requires.there

pub returns-clause-less : goal.returns-clause-less
returns-clause-less c =
    let bs = c.args.profiles.now.books in
    let b = book_at c.args.profile bs in
    let now = taken_off b c.args.input c.args.octets in
    set_less bs c.take_off.new.self.books c.args.profile now c.args.input c.args.octets c.requires.profile (c.take_off.ensures.books b (slice_get-get_or bs c.args.profile empty_book c.requires.profile)) (less_off b now c.args.input c.args.octets c.requires.there refl)

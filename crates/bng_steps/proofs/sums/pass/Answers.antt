use Rattle.std.proofs.Common.{refl, arith}
use Rattle.std.proofs.lemmas.Option.{get_or_from_slice_get, slice_get-get_or}
use Rattle.bng_engine.specs.Books.{book_at}
use Rattle.bng_engine.specs.Quantities.{empty_book}
use Rattle.bng_base.specs.Books.{entered}
use Rattle.bng_steps.proofs.BookLaws.{more_entered, room_in_books}
use Rattle.bng_steps.proofs.Tallying.{little_in_books, set_more}
use Rattle.bng_steps.proofs.sums.pass.Goals as goal

pub pass-requires-clause-room : goal.pass-requires-clause-room
pass-requires-clause-room c b at = room_in_books c.args.profiles.now.books c.args.profile b c.args.input c.args.octets c.requires.profile (get_or_from_slice_get c.args.profiles.now.books c.args.profile b empty_book at) c.requires.low (omega (arith, c.ranges.octets))

pub returns-clause-more : goal.returns-clause-more
returns-clause-more c =
    let bs = c.args.profiles.now.books in
    let b = book_at c.args.profile bs in
    let now = entered b c.args.input c.args.octets in
    set_more bs c.pass.new.self.books c.args.profile now c.args.input c.args.octets c.requires.profile (c.pass.ensures.books b (slice_get-get_or bs c.args.profile empty_book c.requires.profile)) (more_entered b now c.args.input c.args.octets refl)

pub returns-clause-few : goal.returns-clause-few
returns-clause-few c = little_in_books c.args.profiles.now.books c.pass.new.self.books c.args.profile c.args.input c.args.octets (omega (arith, c.ranges.octets)) (returns-clause-more c)

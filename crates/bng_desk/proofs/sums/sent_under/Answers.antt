use Rattle.std.proofs.Common.{◌<◌, Bool, true, false, length, sym, ap, subst, arith}
use Rattle.std.proofs.lemmas.List.Sums.{sum_by_more}
use Rattle.bng_base.specs.declared.book.Book.{Book}
use Rattle.bng_engine.specs.Books.{book_at}
use Rattle.bng_engine.specs.Quantities.{Octets, in_book}
use Rattle.bng_desk.specs.Taking.{Shown}
use Rattle.bng_desk.proofs.sums.sent_under.Goals as goal

pub book-book-requires : goal.book-book-requires
book-book-requires c =
    subst (λ (v : Shown). c.args.place < length v.state.rules.profiles) (sym c.shard-item.is) (c.requires.there c.loop-shard.shard-index c.shard-item.result c.loop-shard-test.true)

pub loop-shard-preserved : goal.loop-shard-preserved
loop-shard-preserved c =
    let vs = c.args.shards.now in
    let i = c.loop-shard.shard-index in
    let v = c.shard-item.result in
    let was = c.loop-shard.invariant in
    let by = λ (input : Bool) (u : Shown). in_book Octets input (book_at c.args.place u.books) in
    let book = c.book-book.ensures.book in
    record {
      input = omega (arith, was.input, ap (λ (b : Book). b.input) book, sum_by_more (by true) vs i v c.loop-shard-test.true, ap (by true) c.shard-item.is);
      output = omega (arith, was.output, ap (λ (b : Book). b.output) book, sum_by_more (by false) vs i v c.loop-shard-test.true, ap (by false) c.shard-item.is);
      low_input = omega (arith, was.low_input);
      low_output = omega (arith, was.low_output);
      few = was.few;
    }

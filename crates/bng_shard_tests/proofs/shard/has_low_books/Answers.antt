use Rattle.std.proofs.Common.{◌^◌, ◌∙◌, subst}
use Rattle.bng_base.specs.declared.book.Book.{Book}
use Rattle.bng_steps.specs.Sums.{IsLow}
use Rattle.bng_shard_tests.proofs.Benches.{all_low}
use Rattle.bng_shard_tests.proofs.shard.has_low_books.Goals as goal

pub returns : goal.returns
returns c true_is =
    all_low (2 ^ 63) c.args.shard.now.books (c.book-gold.ensures.number ∙ c.requires)
    (subst (λ (b : Book). IsLow (2 ^ 63) b) c.book-bronze.ensures.book (c.is_low.ensures c.if-not-is_low.false))
    (subst (λ (b : Book). IsLow (2 ^ 63) b) c.book-gold.ensures.book (c.is_low-2.ensures true_is))

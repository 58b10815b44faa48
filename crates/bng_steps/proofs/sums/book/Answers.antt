use Rattle.std.proofs.Common.{◌+◌, ◌*◌, ◌^◌, ◌++◌, ◌∷◌, [], ◌∙◌, refl, arith, sym, subst, take, List}
use Rattle.std.proofs.lemmas.List.{take_more, take_all}
use Rattle.bng_base.specs.declared.item.OutRecord.{OutRecord}
use Rattle.bng_engine.specs.Books.{BooksRise}
use Rattle.bng_steps.proofs.Tallying.{booked_begin, booked_more}
use Rattle.bng_steps.proofs.sums.book.Goals as goal

pub loop-out-init : goal.loop-out-init
loop-out-init c = record { names = refl; so_far = booked_begin c.args.profiles.now.books; low = λ k lt q input. omega (arith, c.requires.low k lt q input) }

pub book_one-requires : goal.book_one-requires
book_one-requires c = record { low = λ k lt q input. omega (arith, c.loop-out.invariant.low k lt q input, c.loop-out-test.true, c.requires.few) }

pub loop-out-preserved : goal.loop-out-preserved
loop-out-preserved c =
    let i = c.loop-out.out-index in
    let o = c.out-item.result in
    let books = c.args.profiles.now.books in
    let books' = c.book_one.new.profiles.books in
    record {
      names = c.book_one.ensures.names ∙ c.loop-out.invariant.names;
      so_far = subst (λ (os : List OutRecord). BooksRise books os books') (sym (take_more c.args.outs.now i o c.loop-out-test.true))
          (subst (λ (x : OutRecord). BooksRise books (take i c.args.outs.now ++ x ∷ []) books') c.out-item.is
          (booked_more books c.loop-out.profiles.books books' (take i c.args.outs.now) o c.loop-out.invariant.so_far c.book_one.ensures.rises));
      low = λ k lt q input. omega (arith, c.book_one.ensures.few (2 ^ 63 + 2 ^ 16 * i) c.loop-out.invariant.low k lt q input);
    }

pub returns-clause-rises : goal.returns-clause-rises
returns-clause-rises c = subst (λ (os : List OutRecord). BooksRise c.args.profiles.now.books os c.loop-out.profiles.books) (take_all c.loop-out.out-index c.args.outs.now (omega (arith, c.loop-out-test.false))) c.loop-out.invariant.so_far

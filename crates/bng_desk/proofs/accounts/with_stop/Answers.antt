use Rattle.std.proofs.Common.{◌+◌, sym, ap, ◌∙◌, arith}
use Rattle.bng_base.specs.declared.book.Book.{Book}
use Rattle.bng_steps.specs.Protocol.{stop_of}
use Rattle.bng_desk.specs.declared.accounts.Stopped.{Stopped}
use Rattle.bng_desk.specs.Model.{plus_book}
use Rattle.bng_desk.proofs.InAll.{one_said, one_stopped}
use Rattle.bng_desk.proofs.accounts.with_stop.Goals as goal

pub plus_book-requires : goal.plus_book-requires
plus_book-requires c = record { low = λ q input. omega (arith, c.requires.carried q input, one_said q input (stop_of c.args.ended.now)) }

pub overflow_add-result : goal.overflow_add-result
overflow_add-result c = omega (arith, c.requires.count)

pub returns : goal.returns
returns c =
    let t = c.args.stopped in
    let with = λ (b : Book). let x : Stopped = record { carried = b; stops = t.stops + 1 } in x in
    ap with c.plus_book.ensures ∙ ap (λ (b : Book). with (plus_book t.carried b)) (sym (one_stopped (stop_of c.args.ended.now)))

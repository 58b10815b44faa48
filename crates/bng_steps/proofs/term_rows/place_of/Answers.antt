use Rattle.std.proofs.Common.{rules, Ok, Err}
use Rattle.std.proofs.lemmas.List.Sorted.{answers_always}
use Rattle.bng_steps.proofs.RowSums.{searched}
use Rattle.bng_steps.proofs.term_rows.place_of.Goals as goal

pub returns-in-Ok-clause-there : goal.returns-in-Ok-clause-there
returns-in-Ok-clause-there c =
    let by_key = c.in-Ok.ensures.position (λ p. p.term.serial) (answers_always _ _ _ (λ f a r g called. search rules)) in
    searched c.args.serial c.args.rows.now c.requires.rising (Ok c.in-Ok.place) c.in-Ok.ensures.bound by_key

pub returns-in-Err-clause-none : goal.returns-in-Err-clause-none
returns-in-Err-clause-none c =
    let by_key = c.in-Err.ensures.position (λ p. p.term.serial) (answers_always _ _ _ (λ f a r g called. search rules)) in
    searched c.args.serial c.args.rows.now c.requires.rising (Err c.in-Err.field-0) c.in-Err.ensures.bound by_key

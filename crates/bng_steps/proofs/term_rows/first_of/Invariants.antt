use Rattle.bng_steps.specs.TermRows.{IsFirstOf}
use Rattle.bng_steps.proofs.term_rows.first_of.Given as goal

abbrev pub invariant-loop-place : goal.invariant-loop-place
invariant-loop-place l = IsFirstOf l.over l.rows l.place l.first

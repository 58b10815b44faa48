use Rattle.std.proofs.Common.{◌≡◌, ◌+◌, ◌-◌, ◌≤◌, ◌++◌, length, vec_capacity}
use Rattle.bng_steps.specs.Opening.{in_order, tenures_after}
use Rattle.bng_steps.specs.TermRows.{tenures_in}
use Rattle.bng_steps.proofs.InCircuits.{AreNew, circuits_from}
use Rattle.bng_steps.proofs.terms.rows_of.Given as goal

abbrev pub invariant-loop-n : goal.invariant-loop-n
invariant-loop-n l = record {
  tenures : tenures_in l.rows.items ++ tenures_after l.now l.serial (circuits_from l.circuits l.n (l.first + 1022 - l.n)) ≡ tenures_after l.now 0 (in_order l.number l.circuits);
  new : AreNew l.rows.items;
  count : length l.rows.items + l.first ≤ l.n;
  serials : l.serial + l.first ≤ l.n;
  room : 1022 ≤ vec_capacity l.rows;
}

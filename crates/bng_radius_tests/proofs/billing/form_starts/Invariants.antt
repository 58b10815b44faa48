use Rattle.std.proofs.Common.{◌≡◌, ◌≤◌, None}
use Rattle.bng_base.specs.declared.circuit.TermId.{TermId}
use Rattle.bng_acct.specs.declared.facts.StatusType.TheVariants.{Start}
use Rattle.bng_acct.specs.Spool.{open_of}
use Rattle.bng_radius_tests.proofs.billing.form_starts.Given as goal

abbrev pub invariant-loop-n : goal.invariant-loop-n
invariant-loop-n g l = (t : TermId) → l.n ≤ t.serial → open_of t Start l.billing.spool.held ≡ None

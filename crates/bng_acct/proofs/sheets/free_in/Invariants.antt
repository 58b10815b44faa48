use Rattle.std.proofs.Common.{◌*◌}
use Rattle.bng_acct.specs.Sheets.{AreUsed}
use Rattle.bng_acct.proofs.sheets.free_in.Given as goal

abbrev pub invariant-loop-number : goal.invariant-loop-number
invariant-loop-number l = AreUsed l.places (64 * l.row) l.number

use Rattle.std.proofs.Common.{◌≡◌, ◌*◌, length}
use Rattle.bng_acct.specs.Sheets.{AreUsed, AreFull}
use Rattle.bng_acct.proofs.sheets.lowest_free.Given as goal

abbrev pub invariant-loop-row : goal.invariant-loop-row
invariant-loop-row l = AreFull l.places.items l.full.items × (length l.full.items ≡ length l.initial.full.items) × AreUsed l.places.items 0 (64 * l.row)

use Rattle.std.proofs.Common.{◌≡◌, take}
use Rattle.bng_acct.specs.Spool.{unacked_stops}
use Rattle.bng_desk.specs.Report.{stop_lines}
use Rattle.bng_desk.proofs.unanswered.unanswered.Given as goal

-- the lines of the Stops so far were written
abbrev pub invariant-loop-at : goal.invariant-loop-at
invariant-loop-at l = l.text.items ≡ stop_lines l.billing.spool.rules.wall (take l.at (unacked_stops l.billing.spool))

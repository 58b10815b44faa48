use Rattle.std.proofs.Common.{length}
use Rattle.bng_steps.specs.Interims.{owed}
use Rattle.bng_desk.proofs.Reporting.{ReportsSome}
use Rattle.bng_desk.proofs.interims.report.Given as goal

-- what was taken so far
abbrev pub invariant-loop-due : goal.invariant-loop-due
invariant-loop-due l = ReportsSome l.moment l.wall l.shard l.fn.reports l.reports l.fn.billing l.billing

-- how many are still owed
abbrev pub decreases-loop-due : goal.decreases-loop-due
decreases-loop-due l = length (owed l.shard l.reports.last l.moment)

use Rattle.bng_desk.proofs.Reporting.{ReportsFew}
use Rattle.bng_desk.proofs.interims.report_each.Given as goal

-- the Interims of the shards so far were formed
abbrev pub invariant-loop-place : goal.invariant-loop-place
invariant-loop-place l = ReportsFew l.moment l.wall l.shards l.place l.fn.reports l.reports l.fn.billing l.billing

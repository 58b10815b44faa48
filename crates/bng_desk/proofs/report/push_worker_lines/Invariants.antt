use Rattle.std.proofs.Common.{◌≡◌, ◌++◌, take, string_bytes}
use Rattle.bng_desk.specs.Report.{worker_lines}
use Rattle.bng_desk.proofs.report.push_worker_lines.Given as goal

-- the lines of the workers so far follow what was written before
abbrev pub invariant-loop-number : goal.invariant-loop-number
invariant-loop-number l = string_bytes l.text ≡ string_bytes l.initial.text ++ worker_lines 0 (take l.number l.workers)

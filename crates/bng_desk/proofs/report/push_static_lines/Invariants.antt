use Rattle.std.proofs.Common.{◌≡◌, ◌++◌, take, string_bytes}
use Rattle.bng_desk.specs.Report.{static_lines}
use Rattle.bng_desk.proofs.report.push_static_lines.Given as goal

-- the lines of the circuits so far follow what was written before
abbrev pub invariant-loop-place : goal.invariant-loop-place
invariant-loop-place l = string_bytes l.text ≡ string_bytes l.initial.text ++ static_lines (take l.place l.circuits) l.traffic

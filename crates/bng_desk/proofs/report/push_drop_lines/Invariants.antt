use Rattle.std.proofs.Common.{◌≡◌, ◌++◌, take, string_bytes}
use Rattle.bng_desk.specs.Causes.{causes}
use Rattle.bng_desk.specs.Report.{drop_lines}
use Rattle.bng_desk.proofs.report.push_drop_lines.Given as goal

-- the lines of the causes so far follow what was written before
abbrev pub invariant-loop-number : goal.invariant-loop-number
invariant-loop-number l = string_bytes l.text ≡ string_bytes l.initial.text ++ drop_lines causes (take l.number l.drops)

use Rattle.std.proofs.Common.{◌≡◌, ◌++◌, length, map, take}
use Rattle.std.specs.List.{range_with_len}
use Rattle.bng_desk.specs.Model.{traffic_under}
use Rattle.bng_desk.specs.Report.{profile_lines}
use Rattle.bng_desk.proofs.report.push_profile_lines.Given as goal

-- the lines of the profiles so far follow what was written before
abbrev pub invariant-loop-place : goal.invariant-loop-place
invariant-loop-place l = l.text.items ≡ l.initial.text.items ++ profile_lines (take l.place l.profiles) (map (traffic_under l.shards) (range_with_len 0 (length l.profiles)))

use Rattle.std.proofs.Common.{◌≡◌, ◌+◌, ◌*◌, ◌≤◌, ◌++◌, length, map, take}
use Rattle.std.specs.List.{range_with_len}
use Rattle.bng_desk.specs.Model.{traffic_under}
use Rattle.bng_desk.specs.Report.{profile_lines}
use Rattle.bng_desk.proofs.stats.put_profiles.Given as goal

-- the lines of the profiles so far follow what was written before
abbrev pub invariant-loop-place : goal.invariant-loop-place
invariant-loop-place l = record {
  text : l.text.payload ≡ l.initial.text.payload ++ profile_lines (take l.place l.profiles) (map (traffic_under l.shards) (range_with_len 0 (length l.profiles)));
  few : length l.text.payload ≤ length l.initial.text.payload + 130 * l.place;
  headroom : l.text.headroom ≡ l.initial.text.headroom;
}

use Rattle.std.proofs.Common.{◌≡◌, ◌≤◌, ℕ, length, map, vec_capacity}
use Rattle.std.specs.List.{range_with_len}
use Rattle.bng_steps.specs.Interims.{no_reports}
use Rattle.bng_steps.specs.Questions.{none_handed}
use Rattle.bng_desk.proofs.opening.notes.Given as goal

abbrev pub invariant-loop-shard : goal.invariant-loop-shard
invariant-loop-shard l = record {
  handed : l.handed.items ≡ map (λ (n : ℕ). none_handed) (range_with_len 0 l._shard);
  reports : l.reports.items ≡ map (λ (n : ℕ). no_reports) (range_with_len 0 l._shard);
  count : length l.handed.items ≡ l._shard;
  count_reports : length l.reports.items ≡ l._shard;
  room : l.shards ≤ vec_capacity l.handed;
  room_reports : l.shards ≤ vec_capacity l.reports;
}

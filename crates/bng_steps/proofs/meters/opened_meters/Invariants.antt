use Rattle.std.proofs.Common.{◌≡◌, ℕ, ◌*◌, ◌≤◌, map, vec_capacity}
use Rattle.std.specs.List.{range_with_len}
use Rattle.bng_steps.specs.Opening.{circuit_at, circuit_meters}
use Rattle.bng_steps.proofs.meters.opened_meters.Given as goal

abbrev pub invariant-loop-index : goal.invariant-loop-index
invariant-loop-index l = record {
  items : l.meters.items ≡ map (λ (n : ℕ). circuit_meters l.profiles l.now (circuit_at l.circuits n)) (range_with_len (l.number * 1024) l.index);
  room : 1024 ≤ vec_capacity l.meters;
}

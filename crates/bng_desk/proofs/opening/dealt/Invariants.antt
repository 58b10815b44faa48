use Rattle.std.proofs.Common.{◌≡◌, ◌++◌, ◌==◌, ℕ, map, filter}
use Rattle.std.specs.List.{range_with_len}
use Rattle.bng_base.specs.declared.settings.Static.{Static}
use Rattle.bng_desk.specs.Opening.{shard_of}
use Rattle.bng_desk.proofs.opening.dealt.Given as goal

-- each list has the circuits so far that are its shard's
abbrev pub invariant-loop-circuit : goal.invariant-loop-circuit
invariant-loop-circuit l = record {
  whole : l.fn.circuits.items ≡ l.yielded ++ l.circuit-iterator.rest.items;
  dealt : map (λ x. x.items) l.lists.items ≡ map (λ (n : ℕ). filter (λ (c : Static). shard_of c == n) l.yielded) (range_with_len 0 l.fn.shards);
}

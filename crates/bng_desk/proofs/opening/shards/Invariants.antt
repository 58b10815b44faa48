use Rattle.std.proofs.Common.{◌≡◌, ◌≤◌, ◌++◌, ◌==◌, ℕ, length, map, filter, vec_capacity}
use Rattle.std.specs.List.{All, range_with_len}
use Rattle.bng_base.specs.declared.settings.Static.{Static}
use Rattle.bng_steps.specs.Protocol.{opened}
use Rattle.bng_desk.specs.Opening.{shard_of}
use Rattle.bng_desk.specs.Taking.{HasFewSessions}
use Rattle.bng_desk.proofs.opening.shards.Given as goal

-- the shards so far are opened
abbrev pub invariant-loop-circuits : goal.invariant-loop-circuits
invariant-loop-circuits l = record {
  left : map (λ x. x.items) (l.yielded ++ l.circuits-iterator.rest.items) ≡ map (λ (n : ℕ). filter (λ (c : Static). shard_of c == n) l.fn.circuits.items) (range_with_len 0 l.fn.rules.shards);
  opens : l.opens.items ≡ map (λ (n : ℕ). opened n l.fn.rules (filter (λ (c : Static). shard_of c == n) l.fn.circuits.items) l.fn.now) (range_with_len 0 l.number);
  sessions : All HasFewSessions l.opens.items;
  number : length l.yielded ≡ l.number;
  room : l.fn.rules.shards ≤ vec_capacity l.opens;
}

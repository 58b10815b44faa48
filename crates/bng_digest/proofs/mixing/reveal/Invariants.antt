use Rattle.std.proofs.Common.{◌≡◌, ℕ, ◌*◌, ◌+◌, ◌≤◌, length, take}
use Rattle.bng_digest.specs.Mixing.{chunk, plain_chunk}
use Rattle.bng_digest.proofs.mixing.reveal.Given as goal

abbrev pub invariant-loop-left : goal.invariant-loop-left
invariant-loop-left l = record {
  size : length l.value ≡ length l.initial.value;
  within : 16 * l.left ≤ length l.initial.value + 15;
  left : take (16 * l.left) l.value ≡ take (16 * l.left) l.initial.value;
  done : (k : ℕ) → l.left ≤ k → chunk l.value k ≡ plain_chunk l.secret l.first l.initial.value k;
}

abbrev pub decreases-loop-left : goal.decreases-loop-left
decreases-loop-left l = l.left

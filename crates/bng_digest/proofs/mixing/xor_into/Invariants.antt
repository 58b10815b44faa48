use Rattle.std.proofs.Common.{◌≡◌, ℕ, ◌<◌, ◌≤◌, get_or, length}
use Rattle.std.specs.Prelude.{bit_xor}
use Rattle.bng_digest.proofs.mixing.xor_into.Given as goal

abbrev pub invariant-loop-i : goal.invariant-loop-i
invariant-loop-i l = record {
  size : length l.part ≡ length l.initial.part;
  written : (k : ℕ) → k < l.i → get_or l.part k 0 ≡ bit_xor (get_or l.initial.part k 0) (get_or l.digest k 0);
  left : (k : ℕ) → l.i ≤ k → get_or l.part k 0 ≡ get_or l.initial.part k 0;
}

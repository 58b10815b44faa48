use Rattle.std.proofs.Common.{◌≡◌, ℕ, ◌*◌, ◌<◌, length, drop}
use Rattle.bng_digest.specs.Mixing.{xored, chunk, mask}
use Rattle.bng_digest.proofs.mixing.hide.Given as goal

abbrev pub invariant-loop-i : goal.invariant-loop-i
invariant-loop-i l = record {
  size : length l.value ≡ length l.initial.value;
  done : (k : ℕ) → k < l.i → chunk l.value k ≡ xored (chunk l.initial.value k) (mask l.secret l.first l.value k);
  left : drop (16 * l.i) l.value ≡ drop (16 * l.i) l.initial.value;
}

use Rattle.std.proofs.Common.{◌≡◌, length, map, take}
use Rattle.bng_desk.proofs.allowing.note.Given as goal

abbrev pub invariant-loop-number : goal.invariant-loop-number
invariant-loop-number l = record {
  long : length l.allowances.items ≡ length l.shards;
  done : take l.number l.allowances.items ≡ map (λ v. v.allowance) (take l.number l.shards);
}

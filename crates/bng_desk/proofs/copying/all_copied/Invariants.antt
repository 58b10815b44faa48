use Rattle.std.proofs.Common.{◌≡◌, ◌≤◌, length, take}
use Rattle.bng_desk.proofs.copying.all_copied.Given as goal

-- the texts so far were copied
abbrev pub invariant-loop-text : goal.invariant-loop-text
invariant-loop-text l = record {
  few : length l.text-items ≤ 12;
  done : length l.copies.items ≡ l.text-index;
  same : l.copies.items ≡ take l.text-index l.text-items;
}

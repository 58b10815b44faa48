use Rattle.std.proofs.Common.{◌≡◌, ◌≤◌, length, take, vec_capacity}
use Rattle.bng_desk.proofs.copying.lacs_copied.Given as goal

-- the access concentrators so far were copied
abbrev pub invariant-loop-lac : goal.invariant-loop-lac
invariant-loop-lac l = record {
  same : l.copies.items ≡ take l.lac-index l.lacs;
  done : length l.copies.items ≡ l.lac-index;
  room : length l.lacs ≤ vec_capacity l.copies;
}

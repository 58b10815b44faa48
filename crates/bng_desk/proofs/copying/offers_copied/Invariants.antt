use Rattle.std.proofs.Common.{◌≡◌, ◌≤◌, length, take, vec_capacity}
use Rattle.bng_desk.proofs.copying.offers_copied.Given as goal

-- the offers so far were copied
abbrev pub invariant-loop-offer : goal.invariant-loop-offer
invariant-loop-offer l = record {
  same : l.copies.items ≡ take l.offer-index l.offers;
  done : length l.copies.items ≡ l.offer-index;
  room : length l.offers ≤ vec_capacity l.copies;
}

use Rattle.std.proofs.Common.{◌≡◌, ◌≤◌, length, take, vec_capacity}
use Rattle.bng_desk.specs.Opening.{AreOffersOf}
use Rattle.bng_desk.proofs.opening.offers.Given as goal

-- what the ports so far offer
abbrev pub invariant-loop-place : goal.invariant-loop-place
invariant-loop-place l = record {
  offers : AreOffersOf l.name.items l.services.items l.key 1 (take l.place l.access) l.offers.items;
  count : length l.offers.items ≡ l.place;
  room : length l.access ≤ vec_capacity l.offers;
}

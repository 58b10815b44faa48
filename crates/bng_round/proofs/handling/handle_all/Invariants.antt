use Rattle.std.proofs.Common.{◌≡◌, ◌≤◌, length, take}
use Rattle.std.specs.Vec.{vec_capacity}
use Rattle.bng_round.specs.Looking.{IsLooker}
use Rattle.bng_round.specs.Rounds.{list_of, round_of}
use Rattle.bng_round.specs.Working.{AreSeats, Worked}
use Rattle.bng_round.proofs.handling.handle_all.Given as goal

abbrev pub invariant-loop-index : goal.invariant-loop-index
invariant-loop-index g l = record {
  seats : AreSeats l.fn.turns l.fn.number l.seats.items;
  worked : Worked (round_of l.fn.turns l.fn.rules l.fn.now l.fn.items l.fn.numbers l.fn._workers) l.fn.number (list_of l.fn.number (take l.index l.fn.numbers) (take l.index l.fn.items)) l.seats.items l.looker l.loose.items l.fn.tally l.tally;
  looker : IsLooker l.fn.turns l.fn.pool l.looker;
  place : l.place ≡ length (list_of l.fn.number (take l.index l.fn.numbers) (take l.index l.fn.items));
  room : length (list_of l.fn.number l.fn.numbers l.fn.items) ≤ vec_capacity l.loose;
  loose : length l.loose.items ≤ l.place;
  index : l.index ≤ length l.fn.items;
}

-- What the fields of a round and of its workers show.
use Rattle.std.specs.Prelude.{◌≡◌, ◌≤◌, [], length, vec_capacity}
use Rattle.std.specs.List.{AllByRecursion}
use Rattle.bng_round.specs.declared.round.Floor.TheInside.{Inside as FloorInside}
use Rattle.bng_round.specs.declared.round.Round.TheInside.{Inside as RoundInside}
use Rattle.bng_round.specs.declared.round.Worker.TheInside.{Inside as WorkerInside}
use Rattle.bng_round.specs.Rounds.{RoundView, WorkerView}

module _ {S : Type 0} where
  abbrev pub floor_seen : FloorInside S → RoundView
  floor_seen a = record { turns = a.turns.items; rules = a.rules.value; moment = a.moment; items = a.items.items; seats = a.seats.items; workers = a.workers }

  abbrev pub round_seen : RoundInside S → RoundView
  round_seen a = a.floor

  abbrev pub worker_seen : WorkerInside S → WorkerView
  worker_seen a = record { number = a.number; turns = a.turns.items; looker = a.looker; loose = a.loose.items; room = vec_capacity a.loose; tally = a.tally }

  -- there is room for what the round is to answer
  pub record IsKept (a : RoundInside S) : Type 0 where
    pub rows : length a.rows.items ≡ length a.floor.turns
    pub each_row : AllByRecursion (λ r. (r.items ≡ []) × (a.floor.workers ≤ vec_capacity r)) a.rows.items
    pub shards : (a.shards.items ≡ []) × (length a.floor.turns ≤ vec_capacity a.shards)
    pub lookers : (a.lookers.items ≡ []) × (a.floor.workers ≤ vec_capacity a.lookers)
    pub loose : (a.loose.items ≡ []) × (length a.floor.items ≤ vec_capacity a.loose)
    pub tallies : (a.tallies.items ≡ []) × (a.floor.workers ≤ vec_capacity a.tallies)

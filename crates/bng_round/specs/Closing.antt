-- How a round ends.
use Rattle.std.specs.Prelude.{◌≡◌, ℕ, ◌+◌, ◌<◌, ◌≤◌, false, List, [], ◌∷◌, ◌++◌, Option, Some, length, map, slice_get}
use Rattle.bng_pool.specs.Seats.{PoolView}
use Rattle.bng_round.specs.declared.mark.Mark.{Mark}
use Rattle.bng_round.specs.Booking.{Follows}
use Rattle.bng_round.specs.Looking.{IsGround, IsLooker}
use Rattle.bng_round.specs.Rounds.{RoundView, WorkerView, IsOpen}
use Rattle.bng_round.specs.Telling.{EachKnowsMore, AreAgreed}
use Rattle.bng_round.specs.Views.{PlacedView}
use Rattle.bng_round.specs.Working.{HasWorked}
use Rattle.bng_turn.specs.Marks.{marks_of}
use Rattle.bng_turn.specs.Views.{TurnView, SeatView}

-- The turn of a shard ended with this state: by a list that has the marks of each worker's seat at it, each once, in that seat's order, and
-- no others.
pub record Ends (workers : List WorkerView) (s : ℕ) (t : TurnView PlacedView) (g : PlacedView) : Type 0 where
  pub list : List (ℕ × Mark)
  pub follows : Follows t.opening list g
  pub own : (k : ℕ) (v : WorkerView) (q : SeatView PlacedView Mark) → slice_get workers k ≡ Some v → slice_get v.turns s ≡ Some q → marks_of k list ≡ q.own
  pub others : (k : ℕ) → length workers ≤ k → marks_of k list ≡ []

-- the turns of the shards from this number on ended with these states
abbrev pub EndFrom : List WorkerView → ℕ → List (TurnView PlacedView) → List PlacedView → Type 0
EndFrom workers s [] [] = Unit {0}
EndFrom workers s [] (g ∷ gs) = ⊥
EndFrom workers s (t ∷ ts) [] = ⊥
EndFrom workers s (t ∷ ts) (g ∷ gs) = Ends workers s t g × EndFrom workers (s + 1) ts gs

-- these are the workers of a round, in the order of their numbers, before and after they handled all of their lists
pub record AreAllDone (p : PoolView) (round : RoundView) (before workers : List WorkerView) : Type 0 where
  pub count : (length workers ≡ round.workers) × (length before ≡ round.workers)
  pub some : 1 ≤ round.workers
  pub worked : (k : ℕ) (v v' : WorkerView) → slice_get before k ≡ Some v → slice_get workers k ≡ Some v' → (v.number ≡ k) × HasWorked round v v'
  pub lookers : (k : ℕ) (v : WorkerView) → slice_get workers k ≡ Some v → IsLooker round.turns p v.looker

-- A round that ended: each shard as its turn ended, and what its seat knew more in the end; each worker handled its list; and what was noted
-- of the addresses is so.
pub record IsClosed (p : PoolView) (round : RoundView) (before workers : List WorkerView) (shards : List PlacedView) : Type 0 where
  pub is_open : IsOpen round
  pub ground : IsGround round.turns p
  pub done : AreAllDone p round before workers
  pub ended : List PlacedView
  pub ends : EndFrom workers 0 round.turns ended
  pub shards_count : length shards ≡ length ended
  pub more : EachKnowsMore ended shards
  pub agreed : AreAgreed ended shards (map (λ (v : WorkerView). v.looker) workers)

-- What the parts of a close do -------------------------------------------------------------------------------------------------

-- a worker gave back its last seat at a turn
pub record Gives (v : WorkerView) (after : Option WorkerView) (given : Option (SeatView PlacedView Mark)) : Type 0 where
  pub left : WorkerView
  pub seat : SeatView PlacedView Mark
  pub after_is : after ≡ Some left
  pub given_is : given ≡ Some seat
  pub was : v ≡ record left { turns = left.turns ++ seat ∷ [] }

-- each of the workers did
pub record AllGive (workers workers' : List WorkerView) (row : List (SeatView PlacedView Mark)) : Type 0 where
  pub count : length workers' ≡ length workers
  pub long : length row ≡ length workers
  pub each : (k : ℕ) (v : WorkerView) → slice_get workers k ≡ Some v → Gives v (slice_get workers' k) (slice_get row k)

-- the worker's last seat at a turn is this turn's, outside, with this number
pub record IsLast (t : TurnView PlacedView) (k : ℕ) (v : WorkerView) : Type 0 where
  pub some : 0 < length v.turns
  pub last : (front : List (SeatView PlacedView Mark)) (q : SeatView PlacedView Mark) → v.turns ≡ front ++ q ∷ [] → (q.turn ≡ Some t) × (q.inside ≡ false) × (q.number ≡ k)

-- a turn ended with this state: by a list that has the marks of each seat, and no others
pub record EndsOne (workers workers' : List WorkerView) (t : TurnView PlacedView) (g : PlacedView) : Type 0 where
  pub row : List (SeatView PlacedView Mark)
  pub gave : AllGive workers workers' row
  pub list : List (ℕ × Mark)
  pub follows : Follows t.opening list g
  pub own : (k : ℕ) (q : SeatView PlacedView Mark) → slice_get row k ≡ Some q → marks_of k list ≡ q.own
  pub others : (k : ℕ) → length workers ≤ k → marks_of k list ≡ []

-- a worker that gave back its seats at the turns from this number on
pub record IsCut (v : WorkerView) (now : Option WorkerView) (m : ℕ) : Type 0 where
  pub left : WorkerView
  pub rest : List (SeatView PlacedView Mark)
  pub now_is : now ≡ Some left
  pub was : v ≡ record left { turns = left.turns ++ rest }
  pub long : length left.turns ≡ m

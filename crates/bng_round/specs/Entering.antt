-- What a seat brings to a turn, and what it leaves there.
use Rattle.std.specs.Prelude.{◌≡◌, ◌^◌, ◌<◌, true, false, List, [], ◌∷◌, ◌++◌, length, map, slice_index_or}
use Rattle.bng_base.specs.declared.item.Entry.{Entry}
use Rattle.bng_round.specs.declared.mark.Done.{Done}
use Rattle.bng_round.specs.declared.mark.Mark.{Mark}
use Rattle.bng_round.specs.Booking.{without_claim, Rise}
use Rattle.bng_round.specs.Ticks.{is_for_shard, Admits}
use Rattle.bng_round.specs.Views.{PlacedView}
use Rattle.bng_steps.specs.Seats.{IsSeat}
use Rattle.bng_steps.specs.Sums.{IsLow}
use Rattle.bng_turn.specs.Views.{SeatView}

-- the entries that a seat booked
abbrev pub entries_in_marks : List Mark → List Entry
entries_in_marks marks = map (λ (m : Mark). m.entry) marks

-- what a seat brings to a turn whose opening is this, as far as the seat knows
pub record IsDue (o : PlacedView) (q : SeatView PlacedView Mark) (a : Entry) : Type 0 where
  pub number : a.seat ≡ q.number
  pub seat : IsSeat (length o.lists) a.item a.seat
  pub worker : a.seat < length o.lists
  pub moment : a.moment ≡ o.moment
  pub early : a.moment < 2 ^ 60
  pub low : a.place < slice_index_or o.lists a.seat 0
  pub past : Rise 0 a.place (entries_in_marks q.own)
  pub target : is_for_shard a.item.kind ≡ true → a.item.target ≡ o.shard.number
  pub once : Admits (entries_in_marks q.own) a.item.kind
  pub whole : a.item.frame.headroom ≡ 64

-- the seat left with one mark more, of this item, which came to this and let few octets pass
pub record Books (q q' : SeatView PlacedView Mark) (a : Entry) (done : Done) : Type 0 where
  pub mark : Mark
  pub seat : q' ≡ record q { inside = false; own = q.own ++ mark ∷ []; seen = q'.seen }
  pub asked_is : without_claim mark.entry ≡ a
  pub done_is : mark.done ≡ done
  pub light : IsLow 4160 done.passed

use Rattle.std.proofs.Common.{◌≡◌, ◌+◌, ◌++◌, ◌∷◌, [], List, Some, length, length-append, length-set, slice_get, refl, ap, ◌∙◌, arith}
use Rattle.std.proofs.lemmas.Option.{slice_get_read}
use Rattle.bng_turn.specs.Views.{SeatView}
use Rattle.bng_round.specs.declared.mark.Mark.{Mark}
use Rattle.bng_round.specs.Views.{PlacedView}
use Rattle.bng_round.specs.declared.opening.Room.{Room}
use Rattle.bng_round.proofs.Openings.{kept_on, before_on, after_on}
use Rattle.bng_round.proofs.opening.deal_row.Goals as goal

pub loop-seat-preserved : goal.loop-seat-preserved
loop-seat-preserved g c =
    let inv = c.loop-seat.invariant in
    let popped : c.loop-seat.row.items ≡ c.pop.new.self.items ++ c.in-Some.seat ∷ [] = c.in-Some.ensures.items in
    let long : length c.loop-seat.row.items ≡ length c.pop.new.self.items + 1 = omega (arith, ap (λ (l : List (SeatView PlacedView Mark)). length l) popped, length-append c.pop.new.self.items (c.in-Some.seat ∷ [])) in
    let at : c.len.result ≡ length c.pop.new.self.items = c.len.ensures ∙ c.pop.new.self.ok.0 in
    let x : Room _ = c.index_mut-room.result.now in
    let new : Room _ = record { turns = c.push_reserved.new.self; loose = x.loose } in
    let here : slice_get c.loop-seat.rooms.items c.len.result ≡ Some x = slice_get_read c.loop-seat.rooms.items (length c.loop-seat.rooms.items) c.len.result x refl (omega (arith, at, long, inv.low, inv.count)) c.index_mut-room.ensures.value in
    record {
      count = length-set c.loop-seat.rooms.items c.len.result new ∙ inv.count;
      low = omega (arith, inv.low, long);
      kept = kept_on c.args.rooms.now.items c.loop-seat.rooms.items c.args.row.now.items c.loop-seat.row.items c.pop.new.self.items c.in-Some.seat x new c.len.result popped at here c.push_reserved.ensures.items c.push_reserved.ensures.capacity refl inv.kept inv.before inv.after;
      before = before_on c.args.rooms.now.items c.loop-seat.rooms.items c.args.row.now.items c.loop-seat.row.items c.pop.new.self.items c.in-Some.seat x new c.len.result popped at here c.push_reserved.ensures.items c.push_reserved.ensures.capacity refl inv.kept inv.before inv.after;
      after = after_on c.args.rooms.now.items c.loop-seat.rooms.items c.args.row.now.items c.loop-seat.row.items c.pop.new.self.items c.in-Some.seat x new c.len.result popped at here c.push_reserved.ensures.items c.push_reserved.ensures.capacity refl inv.kept inv.before inv.after;
      room = c.pop.ensures.capacity ∙ inv.room;
    }

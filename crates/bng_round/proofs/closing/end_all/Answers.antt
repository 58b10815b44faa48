use Rattle.std.proofs.Common.{◌≡◌, ◌+◌, ◌∷◌, [], List, length, length-append, Vec, Global, refl, sym, ap, ◌∙◌, subst, arith}
use Rattle.std.proofs.lemmas.List.{append-nil}
use Rattle.bng_turn.specs.Views.{TurnView, SeatView}
use Rattle.bng_round.specs.declared.mark.Mark.{Mark}
use Rattle.bng_round.specs.Views.{PlacedView}
use Rattle.bng_round.specs.Closing.{EndFrom}
use Rattle.bng_round.proofs.Places.{all_last}
use Rattle.bng_round.proofs.Closings.{cut_none, cut_last, cut_more, end_from, now_left, at_turn}
use Rattle.bng_round.proofs.closing.end_all.Goals as goal

pub loop-turn-init : goal.loop-turn-init
loop-turn-init g c = record {
  done = [];
  turns = sym (append-nil c.args.turns.items);
  ended = subst (λ (l : List PlacedView). EndFrom c.args.workers.now.items (length c.args.turns.items) [] l) (sym c.requires.shards.0) tt;
  cut = cut_none c.args.turns.items c.args.workers.now.items c.requires.seats;
  count = refl;
  rows = c.requires.rows;
  each_row = c.requires.each_row;
  room = c.requires.shards.1;
  sum = omega (arith, ap (λ (l : List PlacedView). length l) c.requires.shards.0);
}

pub end_one-shard-requires-clause-row : goal.end_one-shard-requires-clause-row
end_one-shard-requires-clause-row g c = let inv = c.loop-turn.invariant in
    let last = all_last _ c.loop-turn.rows.items c.pop-in-Some.new.self.items c.in-Some-pop.row c.in-Some-pop.ensures.items inv.each_row in
    (last.1.0, omega (arith, last.1.1, inv.count))

pub end_one-shard-requires-clause-count : goal.end_one-shard-requires-clause-count
end_one-shard-requires-clause-count g c = let inv = c.loop-turn.invariant in
    c.requires.counts (length c.pop.new.self.items) c.in-Some.turn (at_turn c.args.turns.items c.args.workers.now.items c.requires.seats c.loop-turn.turns.items c.pop.new.self.items inv.done c.in-Some.turn c.loop-turn.workers.items c.in-Some.ensures.items inv.turns inv.count inv.cut) ∙ sym inv.count

pub end_one-shard-requires-clause-last : goal.end_one-shard-requires-clause-last
end_one-shard-requires-clause-last g c = let inv = c.loop-turn.invariant in
    cut_last c.args.turns.items c.args.workers.now.items c.requires.seats c.loop-turn.turns.items c.pop.new.self.items inv.done c.in-Some.turn c.loop-turn.workers.items c.in-Some.ensures.items inv.turns inv.count inv.cut

pub loop-turn-preserved : goal.loop-turn-preserved
loop-turn-preserved g c = let inv = c.loop-turn.invariant in
    let last = all_last _ c.loop-turn.rows.items c.pop-in-Some.new.self.items c.in-Some-pop.row c.in-Some-pop.ensures.items inv.each_row in
    let longer : length c.loop-turn.turns.items ≡ length c.pop.new.self.items + 1 = omega (arith, ap (λ (l : List (TurnView PlacedView)). length l) c.in-Some.ensures.items, length-append c.pop.new.self.items (c.in-Some.turn ∷ [])) in
    let rows : length c.loop-turn.rows.items ≡ length c.pop-in-Some.new.self.items + 1 = omega (arith, ap (λ (l : List (Vec (SeatView PlacedView Mark) Global)). length l) c.in-Some-pop.ensures.items, length-append c.pop-in-Some.new.self.items (c.in-Some-pop.row ∷ [])) in
    let items : c.insert.new.self.items ≡ c.end_one-shard.result ∷ c.loop-turn.shards.items = c.in-Ok.ensures.items in
    record {
      done = c.in-Some.turn ∷ inv.done;
      turns = now_left c.args.turns.items c.args.workers.now.items c.requires.seats c.loop-turn.turns.items c.pop.new.self.items inv.done c.in-Some.turn c.loop-turn.workers.items c.in-Some.ensures.items inv.turns inv.count inv.cut;
      ended = subst (λ (l : List PlacedView). EndFrom c.args.workers.now.items (length c.pop.new.self.items) (c.in-Some.turn ∷ inv.done) l) (sym items)
          (end_from c.args.turns.items c.args.workers.now.items c.requires.seats c.loop-turn.turns.items c.pop.new.self.items inv.done c.in-Some.turn c.loop-turn.workers.items c.in-Some.ensures.items inv.turns inv.count inv.cut c.end_one-shard.new.workers.items c.end_one-shard.result c.end_one-shard.ensures c.loop-turn.shards.items inv.ended);
      cut = cut_more c.args.turns.items c.args.workers.now.items c.requires.seats c.loop-turn.turns.items c.pop.new.self.items inv.done c.in-Some.turn c.loop-turn.workers.items c.in-Some.ensures.items inv.turns inv.count inv.cut c.end_one-shard.new.workers.items c.end_one-shard.result c.end_one-shard.ensures;
      count = c.end_one-shard.ensures.gave.count ∙ inv.count;
      rows = omega (arith, rows, longer, inv.rows);
      each_row = last.0;
      room = omega (arith, inv.room, c.insert.ensures.capacity);
      sum = omega (arith, inv.sum, longer, ap (λ (l : List PlacedView). length l) items);
    }

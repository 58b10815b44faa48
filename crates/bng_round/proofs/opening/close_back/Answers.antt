use Rattle.std.proofs.Common.{◌≡◌, ◌<◌, ◌++◌, ◌∷◌, [], List, length, length-append, refl, ap, ◌∙◌, arith, append_assoc, sym}
use Rattle.std.proofs.lemmas.List.{append-nil}
use Rattle.std.proofs.lemmas.Bool.Decides.{nat_tests}
use Rattle.bng_turn.specs.Views.{TurnView}
use Rattle.bng_turn.proofs.SeatLists.{removed_first}
use Rattle.bng_round.specs.Views.{PlacedView}
use Rattle.bng_round.specs.Opening.{openings}
use Rattle.bng_round.proofs.Openings.{new_outside, new_untouched, opened_first, rows_some}
use Rattle.bng_round.proofs.opening.close_back.Goals as goal

one_more : {A : Type 0} (l m : List A) (a : A) → l ++ a ∷ m ≡ (l ++ a ∷ []) ++ m
one_more [] m a = refl
one_more (x ∷ xs) m a = ap (λ z. x ∷ z) (one_more xs m a)

pub close-shard-requires : goal.close-shard-requires
close-shard-requires g c =
    let inv = c.loop-turns.invariant in
    let count = rows_some c.args.seats (openings c.loop-turns.turns.items) c.loop-turns.turns.items c.loop-turns.rows.items inv.opened in
    let some : 0 < length c.loop-turns.turns.items = grind (arith, nat_tests, c.loop-turns-test.ensures, c.loop-turns.turns.ok.0) in
    let turns = removed_first c.loop-turns.turns.items c.remove-turn.new.self.items c.remove-turn.result some c.remove-turn.ensures.value c.remove-turn.ensures.items in
    let rows = removed_first c.loop-turns.rows.items c.remove-row.new.self.items c.remove-row.result (omega (arith, some, count.0)) c.remove-row.ensures.value c.remove-row.ensures.items in
    let first = opened_first c.args.seats c.remove-turn.result c.loop-turns.turns.items c.remove-turn.new.self.items c.remove-row.result c.loop-turns.rows.items c.remove-row.new.self.items turns rows inv.opened in
    new_outside c.args.seats c.remove-turn.result.opening c.remove-turn.result c.remove-row.result first.0

pub loop-turns-preserved : goal.loop-turns-preserved
loop-turns-preserved g c =
    let inv = c.loop-turns.invariant in
    let count = rows_some c.args.seats (openings c.loop-turns.turns.items) c.loop-turns.turns.items c.loop-turns.rows.items inv.opened in
    let some : 0 < length c.loop-turns.turns.items = grind (arith, nat_tests, c.loop-turns-test.ensures, c.loop-turns.turns.ok.0) in
    let turns = removed_first c.loop-turns.turns.items c.remove-turn.new.self.items c.remove-turn.result some c.remove-turn.ensures.value c.remove-turn.ensures.items in
    let rows = removed_first c.loop-turns.rows.items c.remove-row.new.self.items c.remove-row.result (omega (arith, some, count.0)) c.remove-row.ensures.value c.remove-row.ensures.items in
    let first = opened_first c.args.seats c.remove-turn.result c.loop-turns.turns.items c.remove-turn.new.self.items c.remove-row.result c.loop-turns.rows.items c.remove-row.new.self.items turns rows inv.opened in
    let shard : c.close-shard.result ≡ c.remove-turn.result.opening = c.close-shard.ensures.untouched (new_untouched c.args.seats c.remove-turn.result.opening c.remove-turn.result c.remove-row.result first.0) in
    record {
      done = inv.done ++ c.remove-turn.result.opening ∷ [];
      split = inv.split ∙ (ap (λ l. inv.done ++ openings l) turns ∙ one_more inv.done (openings c.remove-turn.new.self.items) c.remove-turn.result.opening);
      shards = c.push_reserved.ensures.items ∙ ((λ i. inv.shards i ++ shard i ∷ []) ∙ append_assoc c.args.shards.items inv.done (c.remove-turn.result.opening ∷ []));
      opened = first.1;
      room = omega (arith, inv.room, ap (λ (l : List (TurnView PlacedView)). length l) turns, ap (λ (l : List PlacedView). length l) c.push_reserved.ensures.items, length-append c.loop-turns.shards.items (c.close-shard.result ∷ []), c.push_reserved.ensures.capacity);
    }

pub loop-turns-init : goal.loop-turns-init
loop-turns-init g c = record { done = []; split = refl; shards = sym (append-nil c.args.shards.items); opened = c.requires.opened; room = c.requires.room }

use Rattle.std.proofs.Common.{rules, ◌<◌, Some, slice_get, ◌≡◌, ◌+◌, ◌++◌, ◌∷◌, [], List, length, length-append, sym, ap, ◌∙◌, subst, arith}
use Rattle.bng_round.specs.Views.{PlacedView}
use Rattle.bng_round.specs.Opening.{AreOpened}
use Rattle.bng_round.proofs.Openings.{rows_some, openings_are}
use Rattle.std.proofs.lemmas.List.{append-nil}
use Rattle.bng_round.proofs.Places.{at_front, at_end}
use Rattle.bng_round.proofs.Following.{follows_self}
use Rattle.bng_round.proofs.opening.open_turns.Goals as goal

pub keep_first-requires : goal.keep_first-requires
keep_first-requires g c = let inv = c.loop-shard.invariant in let count = rows_some c.args.seats inv.done c.loop-shard.turns.items c.loop-shard.rows.items inv.opened in
    let long : length c.loop-shard.shards.items ≡ length c.pop.new.self.items + 1 = omega (arith, ap (λ (l : List PlacedView). length l) c.in-Some.ensures.items, length-append c.pop.new.self.items (c.in-Some.shard ∷ [])) in
    omega (arith, inv.turns_room, ap (λ (l : List PlacedView). length l) inv.split, length-append c.loop-shard.shards.items inv.done, long, count.1, c.loop-shard.turns.ok.0)

pub keep_first-requires-in-Ok-open : goal.keep_first-requires-in-Ok-open
keep_first-requires-in-Ok-open g c = let inv = c.loop-shard.invariant in let count = rows_some c.args.seats inv.done c.loop-shard.turns.items c.loop-shard.rows.items inv.opened in
    let long : length c.loop-shard.shards.items ≡ length c.pop.new.self.items + 1 = omega (arith, ap (λ (l : List PlacedView). length l) c.in-Some.ensures.items, length-append c.pop.new.self.items (c.in-Some.shard ∷ [])) in
    omega (arith, inv.rows_room, ap (λ (l : List PlacedView). length l) inv.split, length-append c.loop-shard.shards.items inv.done, long, count.0, count.1, c.loop-shard.rows.ok.0)

pub close_back-requires-clause-room : goal.close_back-requires-clause-room
close_back-requires-clause-room g c = let inv = c.loop-shard.invariant in let count = rows_some c.args.seats inv.done c.loop-shard.turns.items c.loop-shard.rows.items inv.opened in
    let long : length c.loop-shard.shards.items ≡ length c.pop.new.self.items + 1 = omega (arith, ap (λ (l : List PlacedView). length l) c.in-Some.ensures.items, length-append c.pop.new.self.items (c.in-Some.shard ∷ [])) in
    omega (arith, inv.room, ap (λ (l : List PlacedView). length l) inv.split, length-append c.loop-shard.shards.items inv.done, long, count.1, ap (λ (l : List PlacedView). length l) c.push_reserved.ensures.items, length-append c.pop.new.self.items (c.in-Err.shard ∷ []), c.push_reserved.ensures.capacity, c.pop.ensures.capacity)

pub close_back-requires-clause-opened : goal.close_back-requires-clause-opened
close_back-requires-clause-opened g c = let inv = c.loop-shard.invariant in
    subst (λ (l : List PlacedView). AreOpened c.args.seats l c.loop-shard.turns.items c.loop-shard.rows.items) (sym (openings_are c.args.seats inv.done c.loop-shard.turns.items c.loop-shard.rows.items inv.opened)) inv.opened

pub returns-in-Err-clause-back : goal.returns-in-Err-clause-back
returns-in-Err-clause-back g c = let inv = c.loop-shard.invariant in
    c.close_back.ensures ∙ ((λ i. c.push_reserved.ensures.items i ++ openings_are c.args.seats inv.done c.loop-shard.turns.items c.loop-shard.rows.items inv.opened i)
    ∙ (ap (λ z. (c.pop.new.self.items ++ z ∷ []) ++ inv.done) c.in-Err.ensures.refused ∙ (ap (λ l. l ++ inv.done) (sym c.in-Some.ensures.items) ∙ sym inv.split)))

pub loop-shard-init : goal.loop-shard-init
loop-shard-init g c = record {
  done = [];
  split = sym (append-nil c.args.shards.items);
  opened = search rules;
  room = search rules;
  turns_room = search rules;
  rows_room = search rules;
}

pub open-requires-clause-start : goal.open-requires-clause-start
open-requires-clause-start g c =
    let inv = c.loop-shard.invariant in let rest : List PlacedView = c.pop.new.self.items in
    let popped : c.loop-shard.shards.items ≡ rest ++ c.in-Some.shard ∷ [] = c.in-Some.ensures.items in
    let low : length rest < length (rest ++ c.in-Some.shard ∷ []) = omega (arith, length-append rest (c.in-Some.shard ∷ [])) in
    let at : slice_get c.args.shards.items (length rest) ≡ Some c.in-Some.shard =
    ap (λ (l : List PlacedView). slice_get l (length rest)) (inv.split ∙ ap (λ l. l ++ inv.done) popped) ∙ (at_front (rest ++ c.in-Some.shard ∷ []) inv.done (length rest) low ∙ at_end rest [] c.in-Some.shard) in
    follows_self c.in-Some.shard (c.requires.rest (length rest) c.in-Some.shard at)

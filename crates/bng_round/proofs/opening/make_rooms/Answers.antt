use Rattle.std.proofs.Common.{rules, ◌≡◌, ◌<◌, ◌+◌, ◌++◌, ◌∷◌, [], ℕ, List, length, length-append, slice_get, slice_index_or, sym, ap, ◌∙◌, subst, arith}
use mathlib.Core.Logic.{dite}
use native.Mathlib.Decide.{ℕ_discrete}
use Rattle.std.proofs.lemmas.Option.{slice_get_within}
use Rattle.bng_round.specs.declared.opening.Room.{Room}
use Rattle.bng_round.specs.Opening.{IsRoom}
use Rattle.bng_round.proofs.Places.{at_front, at_end, same_some}
use Rattle.bng_round.proofs.opening.make_rooms.Goals as goal

pub loop-items-preserved : goal.loop-items-preserved
loop-items-preserved g c =
    let inv = c.loop-items.invariant in
    let rooms : List (Room g.row.S.Denot) = c.loop-items.rooms.items in
    let new : Room g.row.S.Denot = record { turns = c.in_ok-with_capacity.field-0; loose = c.in_ok-with_capacity-2.field-0 } in
    let all : c.push_reserved.new.self.items ≡ rooms ++ new ∷ [] = c.push_reserved.ensures.items in
    let fresh : IsRoom c.args.shards (slice_index_or c.args.lengths.now c.loop-items.items-index 0) new = record {
      turns_none = c.in_ok-with_capacity.ensures.items;
      turns_room = omega (arith, c.in_ok-with_capacity.ensures.capacity);
      loose_none = c.in_ok-with_capacity-2.ensures.items;
      loose_room = search rules;
    } in
    record {
      count = search rules;
      each = λ k x e. dite (ℕ_discrete (length rooms) k)
          (λ same. let is : new ≡ x = same_some new x (slice_get c.push_reserved.new.self.items k) (ap (λ l. slice_get l k) all ∙ (ap (λ z. slice_get (rooms ++ new ∷ []) z) (sym same) ∙ at_end rooms [] new)) e in
          subst (λ (z : Room g.row.S.Denot). IsRoom c.args.shards (slice_index_or c.args.lengths.now k 0) z) is
          (subst (λ (n : ℕ). IsRoom c.args.shards (slice_index_or c.args.lengths.now n 0) new) (sym inv.count ∙ same) fresh))
          (λ other. let long : length c.push_reserved.new.self.items ≡ length rooms + 1 = ap (λ (l : List (Room g.row.S.Denot)). length l) all ∙ length-append rooms (new ∷ []) in
          let low : k < length rooms = omega (arith, slice_get_within c.push_reserved.new.self.items k x e, long, other) in
          inv.each k x (sym (ap (λ l. slice_get l k) all ∙ at_front rooms (new ∷ []) k low) ∙ e));
      room = search rules;
    }

use Rattle.std.proofs.Common.{ℕ, ◌++◌, ◌∷◌, List, [], map, length, sym, ap, ◌∙◌, arith, length-append}
use Rattle.std.specs.List.{range_with_len}
use Rattle.std.proofs.lemmas.List.{map-append}
use Rattle.std.proofs.lemmas.List.FromFn.{map-range_with_len_more}
use Rattle.bng_base.specs.declared.settings.Static.{Static}
use Rattle.bng_desk.proofs.opening.empties.Goals as goal

pub loop-shard-preserved : goal.loop-shard-preserved
loop-shard-preserved c =
    let was = c.loop-shard.invariant in
    let n = c.loop-shard._shard in
    let none = λ (k : ℕ). let xs : List Static = [] in xs in
    record {
      empty = ap (map (λ x. x.items)) c.push_reserved.ensures.items
          ∙ map-append (λ x. x.items) c.loop-shard.lists.items (c.new.result ∷ [])
          ∙ ap (λ (xs : List (List Static)). xs ++ c.new.result.items ∷ []) was.empty
          ∙ ap (λ (xs : List Static). map none (range_with_len 0 n) ++ xs ∷ []) c.new.ensures.items
          ∙ sym (map-range_with_len_more none 0 n n (omega arith));
      count = omega (arith, ap length c.push_reserved.ensures.items, length-append c.loop-shard.lists.items (c.new.result ∷ []), was.count);
      room = omega (arith, c.push_reserved.ensures.capacity, was.room);
    }

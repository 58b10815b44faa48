use Rattle.std.proofs.Common.{◌≡◌, ◌+◌, ◌++◌, List, [], ◌∷◌, length, sym, ap, ◌∙◌, arith, ℕ, length-append}
use Rattle.bng_base.specs.declared.item.Item.{Item}
use Rattle.bng_base.specs.Batches.{Batch}
use Rattle.bng_base.specs.declared.item.ItemKind.TheVariants.{End}
use Rattle.bng_desk.specs.Items.{for_shard, ends_of, drawn_from}
use Rattle.bng_desk.specs.Random.{Drawn}
use Rattle.bng_desk.proofs.Drawing.{drawn_more, ends_length, ends_more}
use Rattle.bng_desk.proofs.due.add_ends.Goals as goal

pub loop-number-preserved : goal.loop-number-preserved
loop-number-preserved c =
    let so_far = c.loop-number.invariant in
    let k = c.loop-number.number in
    let seed = c.args.draws.now.seed in
    let n = c.args.draws.now.drawn in
    let old = c.args.items.now.items in
    let drawn : c.loop-number.draws ≡ record { seed = seed; drawn = n + length (ends_of k) } = so_far.draws ∙ ap (λ (m : ℕ). record { seed = seed; drawn = n + m }) (sym (ends_length k)) in
    let more = ends_more k in
    let here : c.push.new.self.items ≡ c.loop-number.items.items ++ drawn_from c.loop-number.draws.seed c.loop-number.draws.drawn (for_shard End k ∷ []) =
    ap (λ (b : Batch Item). b.items) c.push.ensures ∙ ap (λ (i : Item). c.loop-number.items.items ++ i ∷ []) c.item_for-end.ensures.item in
    record {
      items = drawn_more seed n old c.loop-number.items.items c.push.new.self.items (ends_of k) (for_shard End k ∷ []) c.loop-number.draws so_far.items drawn here
          ∙ ap (λ (is : List Item). old ++ drawn_from seed n is) (sym more);
      count = omega (arith, ap (λ (b : Batch Item). length b.items) c.push.ensures, length-append c.loop-number.items.items (c.item_for-end.result ∷ []), so_far.count);
      draws = c.item_for-end.ensures.drawn ∙ ap (λ (d : Drawn). record d { drawn = d.drawn + 1 }) so_far.draws ∙ ap (λ (m : ℕ). record { seed = seed; drawn = m }) (omega arith);
      capacity = ap (λ (b : Batch Item). b.room) c.push.ensures ∙ so_far.capacity;
    }

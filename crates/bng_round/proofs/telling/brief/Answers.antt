use Rattle.std.proofs.Common.{rules, ◌≡◌, ◌<◌, ℕ, List, Some, length, length-set, slice_get, slice_index_or, sym, ◌∙◌, subst, arith}
use Rattle.std.proofs.lemmas.Option.{slice_get_within}
use Rattle.bng_pool.specs.Seats.{SeatView as Hold}
use Rattle.bng_round.specs.Views.{PlacedView}
use Rattle.bng_round.specs.Asking.{Goes}
use Rattle.bng_round.specs.Telling.{KnowsAll}
use Rattle.bng_round.proofs.Places.{at_set_other}
use Rattle.bng_round.proofs.Tellings.{item_at, lookers_more, lookers_know_more}
use Rattle.bng_round.proofs.telling.brief.Goals as goal

pub tell_all-requires-clause-pool : goal.tell_all-requires-clause-pool
tell_all-requires-clause-pool g c =
    let n : ℕ = c.loop-looker.looker-index in let d : Hold = c.looker-item.result in
    let low : n < length c.loop-looker.lookers = search rules in
    (c.requires.at.2 n (slice_index_or c.loop-looker.lookers n d) (sym (c.loop-looker.invariant.rest n (omega arith)) ∙ item_at c.loop-looker.lookers n d low)).pool

pub loop-looker-preserved : goal.loop-looker-preserved
loop-looker-preserved g c =
    let inv = c.loop-looker.invariant in let did = c.tell_all.ensures in
    let n : ℕ = c.loop-looker.looker-index in let d : Hold = c.looker-item.result in let x : Hold = slice_index_or c.loop-looker.lookers n d in
    let low : n < length c.loop-looker.lookers = search rules in
    let here : slice_get c.loop-looker.lookers n ≡ Some x = item_at c.loop-looker.lookers n d low in
    record {
      same = did.same ∙ inv.same;
      count = length-set c.loop-looker.lookers n c.tell_all.new.to ∙ inv.count;
      rest = λ s high. at_set_other c.loop-looker.lookers n s c.tell_all.new.to (λ e. omega (arith, e, high)) ∙ inv.rest s (omega (arith, high));
      goes = lookers_more Goes c.args.lookers.now c.loop-looker.lookers n x c.tell_all.new.to (sym (inv.rest n (omega arith)) ∙ here) did.goes inv.goes;
      knows = lookers_know_more (λ q. KnowsAll q c.args.shards.now) c.loop-looker.lookers n c.tell_all.new.to (subst (λ (l : List PlacedView). KnowsAll c.tell_all.new.to l) inv.same did.knows) inv.knows;
    }

pub returns-clause-knows : goal.returns-clause-knows
returns-clause-knows g c j q e = c.loop-looker.invariant.knows j q (let low = slice_get_within c.loop-looker.lookers j q e in search rules) e

use Rattle.std.proofs.Common.{rules, ◌≡◌, ◌<◌, ℕ, Some, length, slice_get, slice_index_or, slice_set, sym, ap, ◌∙◌}
use Rattle.std.proofs.lemmas.Option.{slice_get_within}
use Rattle.bng_pool.specs.Seats.{SeatView as Hold}
use Rattle.bng_round.proofs.Answering.{goes_on}
use Rattle.bng_round.proofs.Tellings.{item_at, set_back, each_more}
use Rattle.bng_round.proofs.telling.tell_each.Goals as goal

pub tell_seat-requires-clause-at : goal.tell_seat-requires-clause-at
tell_seat-requires-clause-at c =
    let n : ℕ = c.loop-other.other-index in let d : Hold = c.other-item.result in
    let low : n < length c.loop-other.others = search rules in
    (c.requires.at.0, c.requires.at.1 n (slice_index_or c.loop-other.others n d) (ap (λ l. slice_get l n) (sym c.loop-other.invariant.same) ∙ item_at c.loop-other.others n d low))

pub loop-other-preserved : goal.loop-other-preserved
loop-other-preserved c =
    let inv = c.loop-other.invariant in let did = c.tell_seat.ensures in
    let n : ℕ = c.loop-other.other-index in let d : Hold = c.other-item.result in let x : Hold = slice_index_or c.loop-other.others n d in
    let low : n < length c.loop-other.others = search rules in
    let here : slice_get c.loop-other.others n ≡ Some x = item_at c.loop-other.others n d low in
    record {
      same = ap (λ z. slice_set c.loop-other.others n z) did.same ∙ (set_back c.loop-other.others n x here ∙ inv.same);
      goes = goes_on c.args.to.now c.loop-other.to c.tell_seat.new.to inv.goes did.goes;
      held = did.held ∙ inv.held;
      knows = each_more c.loop-other.to c.tell_seat.new.to did.goes c.args.others.now n x (ap (λ l. slice_get l n) (sym inv.same) ∙ here) did.knows inv.knows;
    }

pub returns-clause-knows : goal.returns-clause-knows
returns-clause-knows c j q e = c.loop-other.invariant.knows j q (let low = slice_get_within c.args.others.now j q e in search rules) e

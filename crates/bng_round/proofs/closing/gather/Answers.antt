use Rattle.std.proofs.Common.{rules, ◌≡◌, ◌<◌, ◌++◌, ◌∷◌, [], ℕ, List, Some, length, set, slice_get, refl, sym, ap, ◌∙◌, arith}
use mathlib.Core.Logic.{dite}
use native.Mathlib.Decide.{ℕ_discrete}
use Rattle.bng_turn.specs.Views.{SeatView}
use Rattle.bng_round.specs.Views.{PlacedView}
use Rattle.bng_round.specs.declared.mark.Mark.{Mark}
use Rattle.bng_round.specs.Rounds.{WorkerView}
use Rattle.bng_round.proofs.Places.{at_front, at_end, at_set, at_set_other, same_some}
use Rattle.std.proofs.lemmas.Option.{slice_get_within, slice_get_read}
use Rattle.bng_round.proofs.closing.gather.Goals as goal

pub returns : goal.returns
returns g c = let inv = c.loop-k.invariant in record {
  count = inv.count;
  long = omega (arith, inv.long, c.loop-k-test.false, c.len-k-end.ensures);
  each = λ k v e. inv.before k v e (omega (arith, slice_get_within c.args.workers.now.items k v e, c.loop-k-test.false, c.len-k-end.ensures));
}

pub loop-k-preserved : goal.loop-k-preserved
loop-k-preserved g c =
    let inv = c.loop-k.invariant in let n : ℕ = c.loop-k.k in let seats : List WorkerView = c.loop-k.workers.items in
    let row : List (SeatView PlacedView Mark) = c.loop-k.row.items in let seat : SeatView PlacedView Mark = c.give.result in
    let was : WorkerView = c.index_mut-worker.result.now in let new : WorkerView = c.give.new.self in
    let low : n < length seats = omega (arith, c.loop-k-test.true, c.len-k-end.ensures, inv.count, c.args.workers.now.ok.0) in
    let here : slice_get seats n ≡ Some was = slice_get_read seats (length seats) n was refl low c.index_mut-worker.ensures.value in
    record {
      before = λ j v e under. dite (ℕ_discrete n j)
          (λ same. record {
            left = new;
            seat = seat;
            after_is = ap (λ z. slice_get (set seats n new) z) (sym same) ∙ at_set seats n new low;
            given_is = ap (λ l. slice_get l j) c.push_reserved.ensures.items ∙ (ap (λ z. slice_get (row ++ seat ∷ []) z) (sym same ∙ sym inv.long) ∙ at_end row [] seat);
            was = same_some v was (slice_get seats n) (inv.after n (omega arith) ∙ (ap (λ z. slice_get c.args.workers.now.items z) same ∙ e)) here ∙ c.give.ensures;
          })
          (λ other. let had = inv.before j v e (omega (arith, under, other)) in record {
            left = had.left;
            seat = had.seat;
            after_is = at_set_other seats n j new other ∙ had.after_is;
            given_is = ap (λ l. slice_get l j) c.push_reserved.ensures.items ∙ (at_front row (seat ∷ []) j (omega (arith, under, other, inv.long)) ∙ had.given_is);
            was = had.was;
          });
      after = λ j high. at_set_other seats n j new (λ e. omega (arith, e, high)) ∙ inv.after j (omega (arith, high));
      count = search rules;
      long = search rules;
      room = search rules;
    }

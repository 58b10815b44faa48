use Rattle.std.proofs.Common.{ℕ, List, [], ◌∷◌, ◌++◌, map, ap, sym, arith, ◌∙◌}
use Rattle.std.specs.List.{range_with_len}
use Rattle.std.proofs.lemmas.List.FromFn.{map-range_with_len_more}
use Rattle.bng_steps.specs.Interims.{Reports, no_reports}
use Rattle.bng_steps.specs.Questions.{none_handed}
use Rattle.bng_desk.proofs.opening.notes.Goals as goal

pub loop-shard-preserved : goal.loop-shard-preserved
loop-shard-preserved c =
    let was = c.loop-shard.invariant in
    let n = c.loop-shard._shard in
    let handed = λ (k : ℕ). none_handed in
    let reports = λ (k : ℕ). no_reports in
    let pushed = c.push_reserved.ensures in
    let pushed' = c.push_reserved-in-loop-shard.ensures in
    record {
      handed = pushed.items
          ∙ ap (λ (xs : List (List ℕ)). xs ++ c.in-Ok-Ok-2.questions ∷ []) was.handed
          ∙ ap (λ (h : List ℕ). map handed (range_with_len 0 n) ++ h ∷ []) c.in-Ok-Ok-2.ensures
          ∙ sym (map-range_with_len_more handed 0 n n (omega arith));
      reports = pushed'.items
          ∙ ap (λ (xs : List Reports). xs ++ c.in-Ok-Ok-2.interims ∷ []) was.reports
          ∙ ap (λ (r : Reports). map reports (range_with_len 0 n) ++ r ∷ []) c.in-Ok-Ok-2.ensures'
          ∙ sym (map-range_with_len_more reports 0 n n (omega arith));
      count = omega (arith, pushed.len, was.count);
      count_reports = omega (arith, pushed'.len, was.count_reports);
      room = omega (arith, pushed.capacity, was.room);
      room_reports = omega (arith, pushed'.capacity, was.room_reports);
    }

-- The drops of a run are those of its rounds.
use Rattle.std.proofs.Common.{◌≡◌, ℕ, ◌+◌, List, [], ◌∷◌, ◌++◌, map, Option, Some, None, refl, sym, ap, ◌∙◌, arith}
use Rattle.std.proofs.Math.Path.{fun_ext}
use Rattle.bng_base.specs.declared.fate.DropCause.{DropCause}
use Rattle.bng_base.specs.declared.item.Item.{Item}
use Rattle.bng_desk.specs.declared.drops.Drops.{Drops}
use Rattle.bng_desk.specs.Counting.{Amounts, both, by_number, no_drops, plus}
use Rattle.bng_desk.specs.Model.{Desk}
use Rattle.bng_desk.specs.Round.{Round}
use Rattle.bng_desk.specs.Turn.{Turn, Step, after_round, items_of, ending_items}
use Rattle.bng_desk.proofs.DropLaws.{plus_none, plus_plus, from_none}
use Rattle.bng_gate.specs.Rounds.{round_drops, drops_made, drops_ended, all_drops, drops_of_run}
use Rattle.bng_gate.specs.Serving.{Made, MadeEnd, Late, Ends, Waits, LateStep, Run, EndRun}

none_first : (n : ℕ) → 0 + n ≡ n
none_first n = omega arith

three : (a b c : ℕ) → a + b + c ≡ a + (b + c)
three a b c = omega arith

-- those of one list after another
all_append : (xs ys : List Amounts) → both (all_drops xs) (all_drops ys) ≡ all_drops (xs ++ ys)
all_append [] ys = fun_ext (λ (cause : DropCause). none_first (all_drops ys cause))
all_append (x ∷ xs) ys =
    let first : both (both x (all_drops xs)) (all_drops ys) ≡ both x (both (all_drops xs) (all_drops ys)) = fun_ext (λ (cause : DropCause). three (x cause) (all_drops xs cause) (all_drops ys cause)) in
    first ∙ ap (both x) (all_append xs ys)

-- what a round adds
drops_after : (d : Desk) (items : List Item) (round : Option Round) → (after_round d items round).drops ≡ plus d.drops (round_drops items round)
drops_after d items None = refl
drops_after d items (Some round) = refl

step_drops : (d d' : Desk) (t : Option Turn) → Step d t d' → d'.drops ≡ plus d.drops (drops_made d t)
step_drops d d' None step = ap (λ (x : Desk). x.drops) step ∙ sym (plus_none d.drops)
step_drops d d' (Some t) step = ap (λ (x : Desk). x.drops) step.5 ∙ drops_after d (items_of d t) t.round

end_drops : (d d' : Desk) (t : Late) → LateStep d t d' → d'.drops ≡ plus d.drops (drops_ended d t)
end_drops d d' (Ends None) step = ap (λ (x : Desk). x.drops) step ∙ sym (plus_none d.drops)
end_drops d d' (Waits t) step = ap (λ (x : Desk). x.drops) step.after ∙ sym (plus_none d.drops)
end_drops d d' (Ends (Some t)) step = ap (λ (x : Desk). x.drops) step.5 ∙ drops_after d (ending_items d) t.round

run_drops : (d d' : Desk) (turns : List Made) → Run d turns d' → d'.drops ≡ plus d.drops (all_drops (map (λ m. drops_made m.desk m.turn) turns))
run_drops d d' [] run = ap (λ (x : Desk). x.drops) run ∙ sym (plus_none d.drops)
run_drops d d' (m ∷ turns) run =
    let later = all_drops (map (λ (x : Made). drops_made x.desk x.turn) turns) in
    run_drops run.0 d' turns run.2
    ∙ ap (λ (x : Drops). plus x later) (step_drops d run.0 m.turn run.1.1)
    ∙ plus_plus d.drops (drops_made d m.turn) later
    ∙ ap (λ (x : Desk). plus d.drops (both (drops_made x m.turn) later)) (sym run.1.0)

ending_drops : (d d' : Desk) (endings : List MadeEnd) → EndRun d endings d' → d'.drops ≡ plus d.drops (all_drops (map (λ m. drops_ended m.desk m.turn) endings))
ending_drops d d' [] run = ap (λ (x : Desk). x.drops) run ∙ sym (plus_none d.drops)
ending_drops d d' (m ∷ endings) run =
    let later = all_drops (map (λ (x : MadeEnd). drops_ended x.desk x.turn) endings) in
    ending_drops run.0 d' endings run.2
    ∙ ap (λ (x : Drops). plus x later) (end_drops d run.0 m.turn run.1.1)
    ∙ plus_plus d.drops (drops_ended d m.turn) later
    ∙ ap (λ (x : Desk). plus d.drops (both (drops_ended x m.turn) later)) (sym run.1.0)

-- from a desk that has dropped nothing, by the number of the cause
pub all_dropped : (d over last : Desk) (turns : List Made) (endings : List MadeEnd) → d.drops ≡ no_drops → Run d turns over → EndRun over endings last
    → last.drops.counts ≡ by_number (drops_of_run turns endings)
all_dropped d over last turns endings none run ending =
    let serving = all_drops (map (λ (m : Made). drops_made m.desk m.turn) turns) in
    let after = all_drops (map (λ (m : MadeEnd). drops_ended m.desk m.turn) endings) in
    let both_are : last.drops ≡ plus no_drops (both serving after) =
    ending_drops over last endings ending
    ∙ ap (λ (x : Drops). plus x after) (run_drops d over turns run ∙ ap (λ (x : Drops). plus x serving) none)
    ∙ plus_plus no_drops serving after in
    ap (λ (x : Drops). x.counts) both_are
    ∙ from_none (both serving after)
    ∙ ap by_number (all_append (map (λ (m : Made). drops_made m.desk m.turn) turns) (map (λ (m : MadeEnd). drops_ended m.desk m.turn) endings))

-- A run of serving, and one of the ending and the grace, goes on by one turn.
use Rattle.std.proofs.Common.{◌≡◌, ℕ, ◌+◌, ◌-◌, ◌<◌, ◌≤◌, Bool, true, false, ◌||◌, ◌==◌, List, [], ◌∷◌, ◌++◌, Option, Some, None, length, take, refl, sym, ap, ◌∙◌, arith, length-append, ◌≢◌, ⊎_elim}
use Rattle.std.specs.List.{list_any}
use Rattle.std.specs.Prelude.{eqb}
use Rattle.std.proofs.lemmas.Bool.{or_parts, eqb-true, true≢false}
use Rattle.std.proofs.lemmas.Bool.Decides.{eqb_tells}
use Rattle.std.proofs.lemmas.List.{take-append-le}
use Rattle.std.proofs.Math.Seq.{take-length}
use Rattle.bng_base.specs.declared.item.Item.{Item}
use Rattle.bng_base.specs.Stretch.{Outside, Stretch, Extends}
use Rattle.bng_base.proofs.ChainLaws.{all_stretches_more, told_more_turn}
use Rattle.bng_desk.specs.Model.{Desk, is_over}
use Rattle.bng_desk.specs.Round.{Round}
use Rattle.bng_desk.specs.Turn.{Turn, Step, after_round, items_of, ending_items}
use Rattle.bng_gate.specs.Serving.{Made, MadeEnd, Late, Ends, Waits, LateStep, Run, EndRun, made_stretch, made_end_stretch, run_stretch, ending_stretch, took, took_stop, AreNoted, EndsServing}

or_assoc : (a b c : Bool) → ((a || b) || c) ≡ (a || (b || c))
or_assoc true b c = refl
or_assoc false b c = refl

or_false : (a : Bool) → (a || false) ≡ a
or_false true = refl
or_false false = refl

-- a round keeps how long the desk serves
kept_rounds : (d : Desk) (items : List Item) (round : Option Round) → (after_round d items round).rounds ≡ d.rounds
kept_rounds d items None = refl
kept_rounds d items (Some round) = refl

kept_turns : (d : Desk) (items : List Item) (round : Option Round) → (after_round d items round).turns ≡ d.turns
kept_turns d items None = refl
kept_turns d items (Some round) = refl

kept_graces : (d : Desk) (items : List Item) (round : Option Round) → (after_round d items round).graces ≡ d.graces
kept_graces d items None = refl
kept_graces d items (Some round) = refl

kept_stopped : (d : Desk) (items : List Item) (round : Option Round) → (after_round d items round).stopped ≡ d.stopped
kept_stopped d items None = refl
kept_stopped d items (Some round) = refl

-- a step of serving counts one turn, and stops the desk where it took `stop`
step_rounds : (d d' : Desk) (t : Option Turn) → Step d t d' → d'.rounds ≡ d.rounds
step_rounds d d' None step = ap (λ (u : Desk). u.rounds) step
step_rounds d d' (Some t) step = ap (λ (u : Desk). u.rounds) step.5 ∙ kept_rounds d (items_of d t) t.round

pub step_turns : (d d' : Desk) (t : Option Turn) → Step d t d' → d'.turns ≡ d.turns + 1
step_turns d d' None step = ap (λ (u : Desk). u.turns) step
step_turns d d' (Some t) step = ap (λ (u : Desk). u.turns) step.5

step_stopped : (d d' : Desk) (t : Option Turn) → Step d t d' → d'.stopped ≡ (d.stopped || took t)
step_stopped d d' None step = ap (λ (u : Desk). u.stopped) step ∙ sym (or_false d.stopped)
step_stopped d d' (Some t) step = ap (λ (u : Desk). u.stopped) step.5

pub run_rounds : (d d' : Desk) (turns : List Made) → Run d turns d' → d'.rounds ≡ d.rounds
run_rounds d d' [] run = ap (λ (u : Desk). u.rounds) run
run_rounds d d' (m ∷ turns) run = run_rounds run.0 d' turns run.2 ∙ step_rounds d run.0 m.turn run.1.1

pub run_turns : (d d' : Desk) (turns : List Made) → Run d turns d' → d'.turns ≡ d.turns + length turns
run_turns d d' [] run = omega (arith, ap (λ (u : Desk). u.turns) run)
run_turns d d' (m ∷ turns) run = omega (arith, run_turns run.0 d' turns run.2, step_turns d run.0 m.turn run.1.1)

run_stopped : (d d' : Desk) (turns : List Made) → Run d turns d' → d'.stopped ≡ (d.stopped || list_any took_stop turns)
run_stopped d d' [] run = ap (λ (u : Desk). u.stopped) run ∙ sym (or_false d.stopped)
run_stopped d d' (m ∷ turns) run =
    run_stopped run.0 d' turns run.2 ∙ ap (λ (b : Bool). b || list_any took_stop turns) (step_stopped d run.0 m.turn run.1.1) ∙ or_assoc d.stopped (took m.turn) (list_any took_stop turns)

-- what a desk that serves has not taken
pub none_took : (d d' : Desk) (turns : List Made) → Run d turns d' → d.stopped ≡ false → is_over d' ≡ false → list_any took_stop turns ≡ false
none_took d d' turns run before now =
    let parts = or_parts d'.stopped (d'.turns == d'.rounds) now in
    sym (ap (λ (b : Bool). b || list_any took_stop turns) before) ∙ sym (run_stopped d d' turns run) ∙ parts.0

apart : (a b : ℕ) → eqb a b ≡ false → a ≤ b → a < b
apart a b unlike le = ⊎_elim (λ t. absurd (true≢false (sym t.0 ∙ unlike))) (λ f. let differ : a ≢ b = f.1 in omega arith) (eqb_tells a b)

-- a desk that serves has turns left
pub turns_left : (d : Desk) → is_over d ≡ false → d.turns ≤ d.rounds → d.turns < d.rounds
turns_left d now le = let parts = or_parts d.stopped (d.turns == d.rounds) now in apart d.turns d.rounds parts.1 le

front_of_more : (turns : List Made) (m : Made) → take (length (turns ++ m ∷ []) - 1) (turns ++ m ∷ []) ≡ turns
front_of_more turns m =
    let n : length (turns ++ m ∷ []) - 1 ≡ length turns = omega (arith, length-append turns (m ∷ [])) in
    let le : length turns ≤ length turns = omega arith in
    ap (λ k. take k (turns ++ m ∷ [])) n ∙ take-append-le (length turns) turns (m ∷ []) le ∙ take-length turns

pub none_before : (turns : List Made) (m : Made) → list_any took_stop turns ≡ false
    → list_any took_stop (take (length (turns ++ m ∷ []) - 1) (turns ++ m ∷ [])) ≡ false
none_before turns m none = ap (list_any took_stop) (front_of_more turns m) ∙ none

-- the turns of a desk that was new and is over
pub ended : (d d' : Desk) (turns : List Made) → Run d turns d' → d.turns ≡ 0 → d.stopped ≡ false → is_over d' ≡ true → length turns ≤ d.rounds
    → list_any took_stop (take (length turns - 1) turns) ≡ false → EndsServing d.rounds turns
ended d d' turns run fresh serving over within before = record {
  within = within;
  none_before = before;
  ended = λ none.
      let unstopped : d'.stopped ≡ false = run_stopped d d' turns run ∙ ap (λ (b : Bool). b || list_any took_stop turns) serving ∙ none in
      let all : (d'.turns == d'.rounds) ≡ true = sym (ap (λ (b : Bool). b || (d'.turns == d'.rounds)) unstopped) ∙ over in
      omega (arith, eqb-true d'.turns d'.rounds all, run_turns d d' turns run, run_rounds d d' turns run);
}

-- a turn of the ending or of the grace leaves serving over
end_over : (d d' : Desk) → d'.stopped ≡ d.stopped → d'.turns ≡ d.turns → d'.rounds ≡ d.rounds → is_over d' ≡ is_over d
end_over d d' stopped turns rounds = cc

pub stays_over : (d d' : Desk) (t : Late) → LateStep d t d' → is_over d' ≡ is_over d
stays_over d d' (Ends None) step = ap is_over step
stays_over d d' (Waits t) step = ap is_over step.after
stays_over d d' (Ends (Some t)) step =
    end_over d d'
    (ap (λ (u : Desk). u.stopped) step.5 ∙ kept_stopped d (ending_items d) t.round)
    (ap (λ (u : Desk). u.turns) step.5 ∙ kept_turns d (ending_items d) t.round)
    (ap (λ (u : Desk). u.rounds) step.5 ∙ kept_rounds d (ending_items d) t.round)

-- the desk counts the turns of its ending and of its grace
step_late : (d d' : Desk) (t : Late) → LateStep d t d' → d'.endings + d'.graces ≡ d.endings + d.graces + 1
step_late d d' (Ends None) step = omega (arith, ap (λ (u : Desk). u.endings) step, ap (λ (u : Desk). u.graces) step)
step_late d d' (Ends (Some t)) step = omega (arith, ap (λ (u : Desk). u.endings) step.5, ap (λ (u : Desk). u.graces) step.5, kept_graces d (ending_items d) t.round)
step_late d d' (Waits t) step = omega (arith, ap (λ (u : Desk). u.endings) step.after, ap (λ (u : Desk). u.graces) step.after)

pub late_made : (d d' : Desk) (endings : List MadeEnd) → EndRun d endings d' → d'.endings + d'.graces ≡ d.endings + d.graces + length endings
late_made d d' [] run = omega (arith, ap (λ (u : Desk). u.endings) run, ap (λ (u : Desk). u.graces) run)
late_made d d' (m ∷ endings) run = omega (arith, late_made run.0 d' endings run.2, step_late d run.0 m.turn run.1.1)

both_noted : (a b : Bool) → a ≡ false → b ≡ false → (a || b) ≡ false
both_noted a b x y = cc

one_unnoted : (a b : Bool) → b ≡ true → (a || b) ≡ true
one_unnoted true b x = refl
one_unnoted false b x = x

-- what is told goes on by a turn, and with it whether all was noted
module _ (turns : List Made) (m : Made) where
  abbrev more : List Made
  more = turns ++ m ∷ []

  unnoted_more : (run_stretch more).unnoted ≡ ((run_stretch turns).unnoted || (made_stretch m).unnoted)
  unnoted_more = sym (ap (λ (s : Stretch). s.unnoted) (all_stretches_more made_stretch turns m))

  pub told_turn : (o o₁ o₂ : Outside) → Extends o o₁ (run_stretch turns) → Extends o₁ o₂ (made_stretch m) → Extends o o₂ (run_stretch more)
  told_turn o o₁ o₂ so_far here = told_more_turn made_stretch o o₁ o₂ turns m so_far here

  pub noted_turn : AreNoted (run_stretch turns) → (made_stretch m).unnoted ≡ false → AreNoted (run_stretch more)
  noted_turn before here = unnoted_more ∙ both_noted (run_stretch turns).unnoted (made_stretch m).unnoted before here

  pub unnoted_turn : (made_stretch m).unnoted ≡ true → (run_stretch more).unnoted ≡ true
  unnoted_turn here = unnoted_more ∙ one_unnoted (run_stretch turns).unnoted (made_stretch m).unnoted here

module _ (ends : List MadeEnd) (m : MadeEnd) where
  abbrev more_ends : List MadeEnd
  more_ends = ends ++ m ∷ []

  unnoted_more_ends : (ending_stretch more_ends).unnoted ≡ ((ending_stretch ends).unnoted || (made_end_stretch m).unnoted)
  unnoted_more_ends = sym (ap (λ (s : Stretch). s.unnoted) (all_stretches_more made_end_stretch ends m))

  pub told_end : (o o₁ o₂ : Outside) → Extends o o₁ (ending_stretch ends) → Extends o₁ o₂ (made_end_stretch m) → Extends o o₂ (ending_stretch more_ends)
  told_end o o₁ o₂ so_far here = told_more_turn made_end_stretch o o₁ o₂ ends m so_far here

  pub noted_end : AreNoted (ending_stretch ends) → (made_end_stretch m).unnoted ≡ false → AreNoted (ending_stretch more_ends)
  noted_end before here = unnoted_more_ends ∙ both_noted (ending_stretch ends).unnoted (made_end_stretch m).unnoted before here

  pub unnoted_end : (made_end_stretch m).unnoted ≡ true → (ending_stretch more_ends).unnoted ≡ true
  unnoted_end here = unnoted_more_ends ∙ one_unnoted (ending_stretch ends).unnoted (made_end_stretch m).unnoted here

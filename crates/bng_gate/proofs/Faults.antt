-- A run ends with the turn whose round the trace did not take.
use Rattle.std.proofs.Common.{◌≡◌, ◌<◌, Bool, true, false, List, Option, length, refl, sym, ◌∙◌}
use Rattle.std.specs.List.{list_any}
use Rattle.std.proofs.lemmas.Bool.{true≢false}
use Rattle.bng_base.specs.Stretch.{Outside, Extends}
use Rattle.bng_base.proofs.ChainLaws.{chain_more}
use Rattle.bng_desk.specs.Model.{Desk, state_of}
use Rattle.bng_desk.specs.Turn.{Turn, Step, stretch_of}
use Rattle.bng_gate.specs.Serving.{Made, MadeEnd, Late, LateStep, late_stretch, made_in, Goes, GoesEnding, Run, EndRun, endings_most, run_stretch, ending_stretch, took_stop, AreNoted, FailsServing, FailsFinishing}
use Rattle.bng_gate.proofs.Turns.{told_turn, unnoted_turn, told_end, unnoted_end}

not_noted : (b : Bool) → b ≡ true → ¬ (b ≡ false)
not_noted b up = λ down. true≢false (sym up ∙ down)

module _ (d mid d' : Desk) (o o₁ o₂ : Outside) where
  pub fails_serving : (turns : List Made) (t : Option Turn) → Run d turns mid → Step mid t d' → Extends o o₁ (run_stretch turns) → Extends o₁ o₂ (stretch_of mid t)
      → AreNoted (run_stretch turns) → (stretch_of mid t).unnoted ≡ true → length turns < d.rounds → list_any took_stop turns ≡ false → FailsServing d d' o o₂
  fails_serving turns t run step so_far here noted unnoted within before =
      let m : Made = record { desk = mid; turn = t } in
      let told = told_turn turns m o o₁ o₂ so_far here in
      record {
        turns = turns;
        fault = m;
        run = chain_more Goes d mid d' turns m run (refl, step);
        told = told;
        noted = noted;
        unnoted = not_noted (stretch_of mid t).unnoted unnoted;
        within = within;
        none_before = before;
        rose = told.cause.cause (unnoted_turn turns m unnoted);
      }

  pub fails_finishing : (ends : List MadeEnd) (t : Late) → EndRun d ends mid → LateStep mid t d' → state_of mid ≡ made_in t → Extends o o₁ (ending_stretch ends) → Extends o₁ o₂ (late_stretch mid t)
      → AreNoted (ending_stretch ends) → (late_stretch mid t).unnoted ≡ true → length ends < endings_most → FailsFinishing d d' o o₂
  fails_finishing ends t run step stands so_far here noted unnoted within =
      let m : MadeEnd = record { desk = mid; turn = t } in
      let told = told_end ends m o o₁ o₂ so_far here in
      record {
        ends = ends;
        fault = m;
        run = chain_more GoesEnding d mid d' ends m run (refl, step, stands);
        told = told;
        noted = noted;
        unnoted = not_noted (late_stretch mid t).unnoted unnoted;
        within = within;
        rose = told.cause.cause (unnoted_end ends m unnoted);
      }

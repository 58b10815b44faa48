-- Where a desk stands, by its tests.
use Rattle.std.proofs.Common.{◌≡◌, ◌≤◌, ◌⊎◌, inl, inr, Bool, true, false, not, cond, Option, Some, None, refl, sym, ap, ◌∙◌}
use Rattle.bng_desk.specs.declared.desk.DeskState.{DeskState}
use Rattle.bng_desk.specs.declared.desk.DeskState.TheVariants.{Serving, Ending, Grace, Ended, Starved}
use Rattle.bng_desk.specs.declared.desk.Turned.{Turned}
use Rattle.bng_base.specs.Stretch.{Outside, Extends}
use Rattle.bng_desk.specs.Model.{Desk, grace_is_over, is_over, has_ended, has_starved, state_of}
use Rattle.bng_desk.specs.Turn.{Turn, EndTurn, MakesEnd, MakesGrace, stretch_of, end_stretch, answer_if, turned_of, end_turned}
use Rattle.bng_gate.specs.Serving.{Late, Ends, Waits, LateStep, late_stretch, made_in, is_serving, is_late, is_fault}

-- over the tests alone
abbrev state_by : (over ended done starved : Bool) → DeskState
state_by over ended done starved = cond (not over) Serving (cond ended (cond done Ended Grace) (cond starved Starved Ending))

serving_by : (over ended done starved : Bool) → is_serving (state_by over ended done starved) ≡ true → (state_by over ended done starved ≡ Serving) × (over ≡ false)
serving_by true true true starved e = cc
serving_by true true false starved e = cc
serving_by true false done true e = cc
serving_by true false done false e = cc
serving_by false ended done starved e = (refl, refl)

over_by : (over ended done starved : Bool) → is_serving (state_by over ended done starved) ≡ false → over ≡ true
over_by true ended done starved e = refl
over_by false ended done starved e = cc

not_serving_by : (over ended done starved : Bool) → ¬ (state_by over ended done starved ≡ Serving) → over ≡ true
not_serving_by true ended done starved no_serving = refl
not_serving_by false ended done starved no_serving = absurd (no_serving refl)

late_by : (over ended done starved : Bool) → is_late (state_by over ended done starved) ≡ true → (state_by over ended done starved ≡ Ending) ⊎ (state_by over ended done starved ≡ Grace)
late_by true true true starved e = cc
late_by true true false starved e = inr refl
late_by true false done true e = cc
late_by true false done false e = inl refl
late_by false ended done starved e = cc

left_by : (over ended done starved : Bool) → over ≡ true → is_late (state_by over ended done starved) ≡ false
    → (state_by over ended done starved ≡ Ended) ⊎ (state_by over ended done starved ≡ Starved)
left_by true true true starved now e = inl refl
left_by true true false starved now e = cc
left_by true false done true now e = inr refl
left_by true false done false now e = cc
left_by false ended done starved now e = cc

pub ended_by : (over ended done starved : Bool) → state_by over ended done starved ≡ Ended → ended ≡ true
ended_by true true done starved e = refl
ended_by true false done true e = cc
ended_by true false done false e = cc
ended_by false ended done starved e = cc

pub serving : (d : Desk) → is_serving (state_of d) ≡ true → (state_of d ≡ Serving) × (is_over d ≡ false)
serving d e = serving_by (is_over d) (has_ended d) (grace_is_over d) (has_starved d) e

pub over : (d : Desk) → is_serving (state_of d) ≡ false → is_over d ≡ true
over d e = over_by (is_over d) (has_ended d) (grace_is_over d) (has_starved d) e

pub not_serving : (d : Desk) → ¬ (state_of d ≡ Serving) → is_over d ≡ true
not_serving d no_serving = not_serving_by (is_over d) (has_ended d) (grace_is_over d) (has_starved d) no_serving

pub late : (d : Desk) → is_late (state_of d) ≡ true → (state_of d ≡ Ending) ⊎ (state_of d ≡ Grace)
late d e = late_by (is_over d) (has_ended d) (grace_is_over d) (has_starved d) e

pub left : (d : Desk) → is_over d ≡ true → is_late (state_of d) ≡ false → (state_of d ≡ Ended) ⊎ (state_of d ≡ Starved)
left d now e = left_by (is_over d) (has_ended d) (grace_is_over d) (has_starved d) now e

-- a test that fails is no state
pub serving_no : (s : DeskState) → is_serving s ≡ false → ¬ (s ≡ Serving)
serving_no s e = λ is. cc

pub ended_of : (s : DeskState) → (s ≡ Ended) ⊎ (s ≡ Starved) → ¬ (s ≡ Starved) → s ≡ Ended
ended_of s (inl e) no_starved = e
ended_of s (inr e) no_starved = absurd (no_starved e)

-- a turn answers a fault where its round was not noted
fault_if : (b : Bool) → is_fault (answer_if b) ≡ not b
fault_if true = refl
fault_if false = refl

pub fault_of : (d : Desk) (t : Option Turn) (answer : Turned) → answer ≡ turned_of t → (stretch_of d t).unnoted ≡ is_fault answer
fault_of d None answer e = sym (ap is_fault e)
fault_of d (Some t) answer e = sym (ap is_fault e ∙ fault_if t.noted)

end_fault_of : (d : Desk) (t : Option EndTurn) (answer : Turned) → answer ≡ end_turned t → (end_stretch d t).unnoted ≡ is_fault answer
end_fault_of d None answer e = sym (ap is_fault e)
end_fault_of d (Some t) answer e = sym (ap is_fault e ∙ fault_if t.noted)

-- A call of `turn` of a desk that has served and is to go on: one turn of the ending, or one of the grace.
pub record MakesLate (d d' : Desk) (o o' : Outside) (result : Turned) : Type 0 where
  pub turn : Late
  pub stands : state_of d ≡ made_in turn
  pub fault : (late_stretch d turn).unnoted ≡ is_fault result
  pub step : LateStep d turn d'
  pub told : Extends o o' (late_stretch d turn)
  pub moment : d'.moment ≤ o'.clock.last

pub makes_late : (d d' : Desk) (o o' : Outside) (result : Turned) → (state_of d ≡ Ending → MakesEnd d d' o o' result) → (state_of d ≡ Grace → MakesGrace d d' o o' result)
    → (state_of d ≡ Ending) ⊎ (state_of d ≡ Grace) → MakesLate d d' o o' result
makes_late d d' o o' result ending grace (inl is) =
    let here = ending is in
    record { turn = Ends here.turn; stands = is; fault = end_fault_of d here.turn result here.answer; step = here.step; told = here.told; moment = here.moment }
makes_late d d' o o' result ending grace (inr is) =
    let here = grace is in
    record { turn = Waits here.turn; stands = is; fault = sym (ap is_fault here.answer); step = here.step; told = here.told; moment = here.moment }

-- The restart timer runs exactly in the states in which it should.
use Rattle.std.proofs.Common.{◌≡◌, ℕ, ◌<◌, Bool, true, false, ◌||◌, Option, Some, None, is_some, List, refl, ◌∙◌, arith, Contains}
use Rattle.std.specs.Prelude.{not, if◌then◌else◌, ◌↔◌, IsSome, IsTrue}
use Rattle.std.specs.List.{list_all, list_any}
use Rattle.std.specs.Option.{ForSome}
use Rattle.bng_automaton.specs.declared.state.State.{State}
use Rattle.bng_automaton.specs.declared.event.Event.{Event}
use Rattle.bng_automaton.specs.declared.action.Action.{Action}
use Rattle.bng_automaton.specs.Table.{Transition, row, table}
use Rattle.bng_automaton.specs.Machine.{Machine}
use Rattle.bng_automaton.specs.Timer.{timer_runs, starts_timer, started_after}
use Rattle.bng_automaton.proofs.TableLaws.{passes}

-- a row that leads to a state in which the timer runs starts it, or comes from such a state
keeps : Transition → Bool
keeps t = not (timer_runs t.next) || list_any starts_timer t.actions || timer_runs t.state

all_keep : list_all keeps table ≡ true
unfolding keeps table
all_keep = refl

pub is_some-started_after : (m : Machine) (e : Event) (cell : List Action) (next : State) (moment : ℕ) → is_some m.started ≡ timer_runs m.state → Contains table (row m.state e cell next) → is_some (started_after m cell next moment) ≡ timer_runs next
unfolding keeps
is_some-started_after m e cell next moment ran member =
    by_cases (timer_runs next) (list_any starts_timer cell) (timer_runs m.state) m.started ran (passes keeps table (row m.state e cell next) all_keep member)
  where
    by_cases : (runs starts before : Bool) (was : Option ℕ) → is_some was ≡ before → (not runs || starts || before) ≡ true → is_some (if runs then (if starts then Some moment else was) else None) ≡ runs
    by_cases true true before was ran kept = refl
    by_cases true false before was ran kept = ran ∙ kept
    by_cases false starts before was ran kept = refl

pub started_after-below : (m : Machine) (cell : List Action) (next : State) (moment end : ℕ) → moment < end → ForSome m.started (λ t. t < end) → ForSome (started_after m cell next moment) (λ t. t < end)
started_after-below m cell next moment end now_below was_below = by_cases (timer_runs next) (list_any starts_timer cell)
  where
    by_cases : (runs starts : Bool) → ForSome (if runs then (if starts then Some moment else m.started) else None) (λ t. t < end)
    by_cases true true = λ t is. let e : moment ≡ t = cc in omega (arith, now_below, e)
    by_cases true false = was_below
    by_cases false starts = λ t is. absurd cc

-- a timer's moment is there exactly in the states in which it runs
pub IsSome-iff : (o : Option ℕ) (runs : Bool) → is_some o ≡ runs → IsSome o ↔ IsTrue runs
IsSome-iff o runs e = rw (← e) (λ h. h, λ h. h)

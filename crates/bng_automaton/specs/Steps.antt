-- One event, by RFC 1661 section 4.
use Rattle.std.specs.Prelude.{◌≡◌, ℕ, List, Contains}
use Rattle.bng_automaton.specs.declared.event.Event.{Event}
use Rattle.bng_automaton.specs.declared.action.Action.{Action}
use Rattle.bng_automaton.specs.Table.{row, table}
use Rattle.bng_automaton.specs.Machine.{Machine}
use Rattle.bng_automaton.specs.Counter.{counter_after}
use Rattle.bng_automaton.specs.Timer.{started_after}

-- At this event the automaton goes from old to new, and these actions are done.
pub record Steps (old : Machine) (event : Event) (moment : ℕ) (actions : List Action) (new : Machine) : Type 0 where
  pub transition : Contains table (row old.state event actions new.state)
  pub counter : new.counter ≡ counter_after old actions
  pub timer : new.started ≡ started_after old actions new.state moment
  pub max_configure : new.max_configure ≡ old.max_configure
  pub max_terminate : new.max_terminate ≡ old.max_terminate
  pub max_failure : new.max_failure ≡ old.max_failure

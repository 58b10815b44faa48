-- How many frames the actions of an event send.
use Rattle.std.proofs.Common.{◌≡◌, ◌≤◌, ℕ, Bool, true, List, nat_le, refl, arith}
use Rattle.std.specs.List.{sum_by, list_all}
use Rattle.std.proofs.lemmas.Bool.Decides.{nat_tests}
use Rattle.bng_automaton.specs.declared.event.Event.{Event}
use Rattle.bng_automaton.specs.declared.action.Action.{Action}
use Rattle.bng_automaton.specs.Table.{Transition, row, table}
use Rattle.bng_automaton.specs.Machine.{Machine}
use Rattle.bng_automaton.specs.Steps.{Steps}
use Rattle.bng_automaton.proofs.TableLaws.{passes}
use Rattle.bng_ppp.specs.Room.{sends, most_of}

few : Transition → Bool
few t = nat_le (sum_by sends t.actions) (most_of t.event)

all_few : list_all few table ≡ true
unfolding few table
all_few = refl

le_of : (a b : ℕ) → nat_le a b ≡ true → a ≤ b
le_of a b e = grind (arith, nat_tests)

-- a row sends no more frames than its event does in any state
pub few_sent : (old : Machine) (event : Event) (moment : ℕ) (actions : List Action) (new : Machine) → Steps old event moment actions new → sum_by sends actions ≤ most_of event
unfolding few
few_sent old event moment actions new s = le_of (sum_by sends actions) (most_of event) (passes few table (row old.state event actions new.state) all_few s.transition)

-- One event has one outcome.
use Rattle.std.proofs.Common.{◌≡◌, ℕ, Option, List, sym, ap, ◌∙◌}
use Rattle.bng_automaton.specs.declared.state.State.{State}
use Rattle.bng_automaton.specs.declared.event.Event.{Event}
use Rattle.bng_automaton.specs.declared.action.Action.{Action}
use Rattle.bng_automaton.specs.Machine.{Machine}
use Rattle.bng_automaton.specs.Counter.{counter_after}
use Rattle.bng_automaton.specs.Timer.{started_after}
use Rattle.bng_automaton.specs.Steps.{Steps}
use Rattle.bng_automaton.proofs.TableLaws.{one_row}

pub Steps-one : (old : Machine) (event : Event) (moment : ℕ) (a b : List Action) (n m : Machine) → Steps old event moment a n → Steps old event moment b m → (a ≡ b) × (n ≡ m)
Steps-one old event moment a b n m first second =
    let same = one_row old.state event a b n.state m.state first.transition second.transition in
    let counter : n.counter ≡ m.counter = first.counter ∙ ap (counter_after old) same.0 ∙ sym second.counter in
    let timer : n.started ≡ m.started =
    first.timer
    ∙ ap (λ (l : List Action). started_after old l n.state moment) same.0
    ∙ ap (λ (s : State). started_after old b s moment) same.1
    ∙ sym second.timer in
    let configure : n.max_configure ≡ m.max_configure = first.max_configure ∙ sym second.max_configure in
    let terminate : n.max_terminate ≡ m.max_terminate = first.max_terminate ∙ sym second.max_terminate in
    let failure : n.max_failure ≡ m.max_failure = first.max_failure ∙ sym second.max_failure in
    (same.0, equal n.state m.state n.counter m.counter n.started m.started n.max_configure m.max_configure n.max_terminate m.max_terminate n.max_failure m.max_failure same.1 counter timer configure terminate failure)
  where
    made : State → ℕ → Option ℕ → ℕ → ℕ → ℕ → Machine
    made s c t x y z = record { state = s; counter = c; started = t; max_configure = x; max_terminate = y; max_failure = z }

    equal : (s s' : State) (c c' : ℕ) (t t' : Option ℕ) (x x' y y' z z' : ℕ) → s ≡ s' → c ≡ c' → t ≡ t' → x ≡ x' → y ≡ y' → z ≡ z' → made s c t x y z ≡ made s' c' t' x' y' z'
    equal s s' c c' t t' x x' y y' z z' p q r u v w = cc

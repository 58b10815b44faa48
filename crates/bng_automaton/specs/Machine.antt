-- What a contract sees of an automaton.
use Rattle.std.specs.Prelude.{ℕ, Option}
use Rattle.bng_automaton.specs.declared.state.State.{State}

pub record Machine : Type 0 where
  pub state : State
  -- the restart counter, by RFC 1661 section 4.6
  pub counter : ℕ
  -- the moment at which the restart timer was started last, where it runs
  pub started : Option ℕ
  pub max_configure : ℕ
  pub max_terminate : ℕ
  pub max_failure : ℕ

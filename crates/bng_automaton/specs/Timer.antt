-- The restart timer, by RFC 1661 sections 4.1, 4.4 and 4.6. Moments are in milliseconds.
use Rattle.std.specs.Prelude.{ℕ, ◌+◌, ◌≤◌, Bool, true, false, List, Option, Some, None, IsSomeAnd, if◌then◌else◌}
use Rattle.std.specs.List.{list_any}
use Rattle.bng_automaton.specs.declared.automaton.TheConstants.{RESTART_TIMER}
use Rattle.bng_automaton.specs.declared.state.State.{State}
use Rattle.bng_automaton.specs.declared.state.State.TheVariants.{Initial, Starting, Closed, Stopped, Closing, Stopping, ReqSent, AckRcvd, AckSent, Opened}
use Rattle.bng_automaton.specs.declared.action.Action.{Action}
use Rattle.bng_automaton.specs.declared.action.Action.TheVariants.{Tlu, Tld, Tls, Tlf, Irc, Zrc, Scr, Sca, Scn, Str, Sta, Scj, Ser}
use Rattle.bng_automaton.specs.Machine.{Machine}

-- the states in which the timer runs
abbrev pub timer_runs : State → Bool
timer_runs Initial = false
timer_runs Starting = false
timer_runs Closed = false
timer_runs Stopped = false
timer_runs Closing = true
timer_runs Stopping = true
timer_runs ReqSent = true
timer_runs AckRcvd = true
timer_runs AckSent = true
timer_runs Opened = false

-- the actions that start it
abbrev pub starts_timer : Action → Bool
starts_timer Tlu = false
starts_timer Tld = false
starts_timer Tls = false
starts_timer Tlf = false
starts_timer Irc = false
starts_timer Zrc = true
starts_timer Scr = true
starts_timer Sca = false
starts_timer Scn = false
starts_timer Str = true
starts_timer Sta = false
starts_timer Scj = false
starts_timer Ser = false

-- when the timer was started last, after the actions of a cell that were done at the moment and led to the next state
abbrev pub started_after : Machine → List Action → State → ℕ → Option ℕ
started_after m cell next moment =
    if timer_runs next then (if list_any starts_timer cell then Some moment else m.started) else None

-- the timer runs, and has run its time
abbrev pub TimerIsOut : Machine → ℕ → Type 0
TimerIsOut m moment = IsSomeAnd m.started (λ t. t + RESTART_TIMER ≤ moment)

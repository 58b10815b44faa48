-- How many frames go out.
use Rattle.std.specs.Prelude.{ℕ}
use Rattle.bng_automaton.specs.declared.action.Action.{Action}
use Rattle.bng_automaton.specs.declared.action.Action.TheVariants.{Tlu, Tld, Tls, Tlf, Irc, Zrc, Scr, Sca, Scn, Str, Sta, Scj, Ser}
use Rattle.bng_automaton.specs.declared.event.Event.{Event}
use Rattle.bng_automaton.specs.declared.event.Event.TheVariants.{Up, Down, Open, Close, ToPlus, ToMinus, RcrPlus, RcrMinus, Rca, Rcn, Rtr, Rta, Ruc, RxjPlus, RxjMinus, Rxr}

-- the frames that an action sends
abbrev pub sends : Action → ℕ
sends Tlu = 0
sends Tld = 0
sends Tls = 0
sends Tlf = 0
sends Irc = 0
sends Zrc = 0
sends Scr = 1
sends Sca = 1
sends Scn = 1
sends Str = 1
sends Sta = 1
sends Scj = 1
sends Ser = 1

-- the most frames that the actions of an event send, whatever the state
abbrev pub most_of : Event → ℕ
most_of Up = 1
most_of Down = 0
most_of Open = 1
most_of Close = 1
most_of ToPlus = 1
most_of ToMinus = 0
most_of RcrPlus = 2
most_of RcrMinus = 2
most_of Rca = 1
most_of Rcn = 1
most_of Rtr = 1
most_of Rta = 1
most_of Ruc = 1
most_of RxjPlus = 0
most_of RxjMinus = 1
most_of Rxr = 1

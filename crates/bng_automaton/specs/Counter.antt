-- The restart counter, by RFC 1661 sections 4.4 and 4.6.
use Rattle.std.specs.Prelude.{ℕ, ◌-◌, Bool, true, false, List, fold, if◌then◌else◌}
use Rattle.std.specs.List.{list_any}
use Rattle.bng_automaton.specs.declared.action.Action.{Action}
use Rattle.bng_automaton.specs.declared.action.Action.TheVariants.{Tlu, Tld, Tls, Tlf, Irc, Zrc, Scr, Sca, Scn, Str, Sta, Scj, Ser}
use Rattle.bng_automaton.specs.Machine.{Machine}

abbrev pub is_str : Action → Bool
is_str Tlu = false
is_str Tld = false
is_str Tls = false
is_str Tlf = false
is_str Irc = false
is_str Zrc = false
is_str Scr = false
is_str Sca = false
is_str Scn = false
is_str Str = true
is_str Sta = false
is_str Scj = false
is_str Ser = false

-- What Initialize-Restart-Count sets: Max-Terminate where its cell sends a Terminate-Request, else Max-Configure.
abbrev pub restart_count : Machine → List Action → ℕ
restart_count m cell = if list_any is_str cell then m.max_terminate else m.max_configure

-- The counter after one action. Each Configure-Request and each Terminate-Request lowers it, where it is above 0.
abbrev pub counted : ℕ → ℕ → Action → ℕ
counted restart n Tlu = n
counted restart n Tld = n
counted restart n Tls = n
counted restart n Tlf = n
counted restart n Irc = restart
counted restart n Zrc = 0
counted restart n Scr = n - 1
counted restart n Sca = n
counted restart n Scn = n
counted restart n Str = n - 1
counted restart n Sta = n
counted restart n Scj = n
counted restart n Ser = n

-- the counter after the actions of a cell, one after the other
abbrev pub counter_after : Machine → List Action → ℕ
counter_after m cell = fold (counted (restart_count m cell)) m.counter cell

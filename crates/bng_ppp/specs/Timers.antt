-- The timers of a link, by RFC 1661 section 4.6.
use Rattle.std.specs.Prelude.{◌≡◌, ◌⊎◌, ℕ, ◌≤◌, ◌<◌}
use Rattle.bng_automaton.specs.Timer.{TimerIsOut}
use Rattle.bng_automaton.specs.declared.event.Event.TheVariants.{ToPlus, ToMinus}
use Rattle.bng_ppp.specs.Automaton.{by_timer, Moves, Rests}
use Rattle.bng_ppp.specs.Echo.{EchoIsDue, echoes}
use Rattle.bng_ppp.specs.LcpState.{LcpState}
use Rattle.bng_ppp.specs.LowerLayer.{Loses}
use Rattle.bng_ppp.specs.Said.{Said}

-- The restart timer counts first. Where three Echo-Requests in a row are unanswered and the next is due, the link is lost.
abbrev pub Reminds : ℕ → ℕ → LcpState → Said → LcpState → Type 0
Reminds echo now old says new =
    (TimerIsOut old.lcp now × (0 < old.lcp.counter) × Moves ToPlus (by_timer old.kept) echo now old says new)
    ⊎ ((TimerIsOut old.lcp now × (old.lcp.counter ≡ 0) × Moves ToMinus (by_timer old.kept) echo now old says new)
    ⊎ (((¬ (TimerIsOut old.lcp now)) × EchoIsDue old now × (3 ≤ old.kept.unanswered) × Loses echo now old says new)
    ⊎ (((¬ (TimerIsOut old.lcp now)) × EchoIsDue old now × (old.kept.unanswered < 3) × (says ≡ (echoes echo now old).said) × (new ≡ (echoes echo now old).link))
    ⊎ ((¬ (TimerIsOut old.lcp now)) × (¬ (EchoIsDue old now)) × Rests old says new))))

-- The timers of a whole link.
use Rattle.std.specs.Prelude.{ℕ, ◌≤◌, IsSomeAnd, ◌≡◌, ◌⊎◌, ◌+◌, ◌<◌, List, Some, None}
use Rattle.bng_automaton.specs.Timer.{TimerIsOut}
use Rattle.bng_automaton.specs.declared.event.Event.TheVariants.{ToPlus, ToMinus}
use Rattle.bng_ppp.specs.Authentication.{challenge_sent}
use Rattle.bng_ppp.specs.IpcpAutomaton.{ipcp_by_timer}
use Rattle.bng_ppp.specs.Layers.{Turn, LcpCloses, with_auth_until, IpcpMoves, lcp_told, LcpSteps}
use Rattle.bng_ppp.specs.LinkState.{LinkState}
use Rattle.bng_ppp.specs.declared.authentication.Authentication.{Authentication}
use Rattle.bng_ppp.specs.declared.authentication.Authentication.TheVariants as auth
use Rattle.bng_ppp.specs.declared.rules.LcpInput.TheVariants as input
use Rattle.bng_ppp.specs.declared.rules.LinkRules.{LinkRules}

abbrev pub AuthIsDue : LinkState → ℕ → Type 0
AuthIsDue s now = IsSomeAnd s.auth_due (λ t. t ≤ now)

-- The Challenge goes out again, the same one, ten times in all. Then, and where a peer's PAP was waited for, LCP does Close.
-- Before authentication has begun no timer of it runs.
abbrev pub AuthReminds : Authentication → LinkRules → ℕ → List ℕ → Turn → Turn → Type 0
AuthReminds auth.Idle r now random t after = ⊥
AuthReminds (auth.Pap q) r now random t after = LcpCloses r now random (with_auth_until t (auth.Pap q) None) after
AuthReminds (auth.Chap q sent) r now random t after =
    ((sent < 10) × (after ≡ record (with_auth_until t (auth.Chap q (sent + 1)) (Some (now + 3000))) { outs = challenge_sent r.name.items q t.outs }))
    ⊎ ((10 ≤ sent) × LcpCloses r now random (with_auth_until t (auth.Chap q sent) None) after)

-- The timers above LCP: authentication's, else IPCP's restart timer.
abbrev pub AboveReminds : LinkRules → ℕ → List ℕ → Turn → Turn → Type 0
AboveReminds r now random t after =
    (AuthIsDue t.link now × AuthReminds t.link.auth r now random t after)
    ⊎ (((¬ (AuthIsDue t.link now)) × TimerIsOut t.link.ipcp.machine now × (0 < t.link.ipcp.machine.counter) × IpcpMoves ToPlus (ipcp_by_timer t.link.ipcp.kept) now t after)
    ⊎ (((¬ (AuthIsDue t.link now)) × TimerIsOut t.link.ipcp.machine now × (t.link.ipcp.machine.counter ≡ 0) × IpcpMoves ToMinus (ipcp_by_timer t.link.ipcp.kept) now t after)
    ⊎ ((¬ (AuthIsDue t.link now)) × (¬ (TimerIsOut t.link.ipcp.machine now)) × (after ≡ t))))

-- LCP's timers count first, and then those above it
pub record LinkReminds (r : LinkRules) (now : ℕ) (random : List ℕ) (old : LinkState) (after : Turn) : Type 0 where
  pub lcp : Turn
  pub steps : LcpSteps r (lcp_told r input.Timer now random) now random old lcp
  pub above : AboveReminds r now random lcp after

-- Three Echo-Requests in a row were unanswered: Lost Carrier, but User Request where IPCP finishes at that moment as well.
abbrev pub ipcp_gives_up : LinkState → ℕ → Type 0
ipcp_gives_up s now = TimerIsOut s.ipcp.machine now × (s.ipcp.machine.counter ≡ 0)

abbrev pub IsLossCause : LinkState → ℕ → ℕ → Type 0
IsLossCause old now cause = (ipcp_gives_up old now × (cause ≡ 1)) ⊎ ((¬ (ipcp_gives_up old now)) × (cause ≡ 2))

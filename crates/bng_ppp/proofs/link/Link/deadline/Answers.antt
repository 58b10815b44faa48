use Rattle.std.proofs.Common.{◌↔◌, ◌≤◌, ◌⊎◌, ℕ, Option, sym, subst, rules}
use Rattle.std.specs.Prelude.{IsSomeAnd}
use Rattle.bng_automaton.specs.Timer.{TimerIsOut}
use Rattle.bng_ppp.specs.Echo.{EchoIsDue}
use Rattle.bng_ppp.specs.LinkTimers.{AuthIsDue}
use Rattle.bng_ppp.proofs.DueLaws.{one_is_due}
use Rattle.bng_ppp.proofs.link.Link.deadline.Goals as goal

pub returns-clause-answer : goal.returns-clause-answer
returns-clause-answer c = search rules

pub returns-clause-due : goal.returns-clause-due
returns-clause-due c = λ moment.
    let P : Option ℕ → Type 0 = λ o. IsSomeAnd o (λ t. t ≤ moment)
    ↔ (TimerIsOut c.args.self.now.lcp.lcp moment ⊎ (EchoIsDue c.args.self.now.lcp moment ⊎ (AuthIsDue c.args.self.now moment ⊎ TimerIsOut c.args.self.now.ipcp.machine moment))) in
    subst P (sym (returns-clause-answer c)) (one_is_due c.args.self.now.lcp.lcp.started c.args.self.now.lcp.kept.next_echo c.args.self.now.auth_due c.args.self.now.ipcp.machine.started moment)

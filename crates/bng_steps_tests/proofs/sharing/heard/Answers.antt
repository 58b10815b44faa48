use Rattle.std.proofs.Common.{◌≡◌, ◌∙◌, List, length, ap, arith}
use Rattle.bng_base.specs.declared.item.OutRecord.{OutRecord}
use Rattle.bng_sessions.specs.Sessions.{Sessions}
use Rattle.bng_steps.specs.State.{State}
use Rattle.bng_steps.proofs.Opened.{opened_placed, opened_tied}
use Rattle.bng_steps.specs.TermRows.{tenures_in}
use Rattle.bng_steps_tests.proofs.sharing.heard.Goals as goal

pub hear_core_plainly-fate-requires-clause-tied : goal.hear_core_plainly-fate-requires-clause-tied
hear_core_plainly-fate-requires-clause-tied c =
    opened_tied 0 0 c.args.circuits.now c.in_ok-served.served.sessions (ap (λ (s : State). s.sessions) c.in_ok-served.ensures.opened) c.requires.sessions (tenures_in c.in_ok-terms.terms.rows) c.in_ok-terms.ensures.terms

pub hear_core_plainly-fate-requires-clause-placed : goal.hear_core_plainly-fate-requires-clause-placed
hear_core_plainly-fate-requires-clause-placed c =
    opened_placed 0 0 c.args.circuits.now c.in_ok-served.served.sessions (ap (λ (s : State). s.sessions) c.in_ok-served.ensures.opened) c.requires.sessions c.in_ok-rules.rules
    (λ k d lt. let at = c.requires.ports k d lt in (omega (arith, at), omega (arith, at, c.in_ok-rules.ensures)))

pub hear_core_plainly-fate-requires-clause-room : goal.hear_core_plainly-fate-requires-clause-room
hear_core_plainly-fate-requires-clause-room c =
    let none : length c.reserve.new.self.items ≡ 0 = ap (λ (outs : List OutRecord). length outs) (c.in_ok-reserve.ensures.items ∙ c.new-outs.ensures) in
    omega (arith, none, c.in_ok-reserve.ensures.room)

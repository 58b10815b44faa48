use Rattle.std.proofs.Common.{[], sym, refl}
use Rattle.bng_steps.proofs.Earliest.{due_is, due_none}
use Rattle.bng_steps.proofs.served.Served.sessions_due.Goals as goal

pub returns-in_err-deadline : goal.returns-in_err-deadline
returns-in_err-deadline g c = rw (← c.self.view_is, c.from_residual.ensures) (sym (due_none (record { sessions = (g.S.Store.sessions c.self.inside.sessions); begun = c.self.inside.begun; question_count = c.self.inside.question_count; terms = []; news = []; passed = c.self.inside.passed.items; meters = c.self.inside.meters.items; tunnels = c.self.inside.tunnels }) c.in_err-deadline.ensures.none))

pub returns : goal.returns
returns g c = rw (← c.self.view_is) (sym (due_is (record { sessions = (g.S.Store.sessions c.self.inside.sessions); begun = c.self.inside.begun; question_count = c.self.inside.question_count; terms = []; news = []; passed = c.self.inside.passed.items; meters = c.self.inside.meters.items; tunnels = c.self.inside.tunnels }) c.in_ok-deadline.deadline c.in_ok-deadline.field-0-1.0 c.in_ok-deadline.ensures.first))

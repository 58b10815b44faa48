use Rattle.std.proofs.Common.{ℕ, Option, ap, ◌∙◌}
use Rattle.bng_lns.specs.Timed.{due_of as tunnels_due}
use Rattle.bng_ppp.specs.LcpRelation.{earliest}
use Rattle.bng_steps.specs.Due.{sessions_due}
use Rattle.bng_steps.specs.State.{State}
use Rattle.bng_steps.proofs.served.Served.due.Goals as goal

pub returns : goal.returns
returns g c =
    c.earlier.ensures
    ∙ ap (λ (o : Option ℕ). earliest o c.due.result) c.sessions_due.ensures
    ∙ ap (λ (o : Option ℕ). earliest (sessions_due c.args.self.now) o) (c.due.ensures ∙ ap (λ (s : State). tunnels_due s.tunnels) c.self.view_is)

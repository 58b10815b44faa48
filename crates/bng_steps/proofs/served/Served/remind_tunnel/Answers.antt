use Rattle.std.proofs.Common.{◌≡◌, ap, ◌∙◌}
use Rattle.bng_lns.specs.Timed.{reminded}
use Rattle.bng_steps.specs.State.{State, with_tunnels}
use Rattle.bng_steps.proofs.served.Served.remind_tunnel.Goals as goal

pub returns-clause-told : goal.returns-clause-told
returns-clause-told g c = c.remind.ensures.told ∙ ap (λ (s : State). (reminded c.args.now s.tunnels c.args.place).told) c.self.view_is

pub returns-clause-after : goal.returns-clause-after
returns-clause-after g c =
    let after : c.remind.new.self ≡ (reminded c.args.now c.args.self.now.tunnels c.args.place).after = c.remind.ensures.after ∙ ap (λ (s : State). (reminded c.args.now s.tunnels c.args.place).after) c.self.view_is in
    let was = c.self.view_is in
    λ i. with_tunnels (was i) (after i)

use Rattle.std.proofs.Common.{◌≡◌, Some, IsSome, sym, ap, subst, ◌∙◌}
use Rattle.bng_l2tp_tunnel.specs.TunnelState.{TunnelState}
use Rattle.bng_l2tp_wire.specs.View.{said, control_of}
use Rattle.bng_lns.specs.Exchange.{exchanged}
use Rattle.bng_lns.specs.Tunnels.{tunnel_at, with_step}
use Rattle.bng_steps.specs.State.{State, with_tunnels}
use Rattle.bng_steps.proofs.served.Served.answer_call.Goals as goal

pub answer-requires-clause-stands : goal.answer-requires-clause-stands
answer-requires-clause-stands g c = subst (λ (s : State). IsSome (tunnel_at s.tunnels c.args.number.0)) (sym c.self.view_is) c.requires.stands

pub returns-clause-said : goal.returns-clause-said
returns-clause-said g c = λ t e. c.answer.ensures.said t (ap (λ (s : State). tunnel_at s.tunnels c.args.number.0) c.self.view_is ∙ e)

pub returns-clause-after : goal.returns-clause-after
returns-clause-after g c = λ t e.
    let there : tunnel_at c.self.inside.tunnels c.args.number.0 ≡ Some t = ap (λ (s : State). tunnel_at s.tunnels c.args.number.0) c.self.view_is ∙ e in
    let step : TunnelState = (exchanged t (said c.args.heard) c.args.call.now (control_of c.args.message.now) c.args.now).after in
    let after : c.answer.new.self ≡ with_step c.args.now c.args.self.now.tunnels c.args.number.0 step =
    c.answer.ensures.after t there ∙ ap (λ (s : State). with_step c.args.now s.tunnels c.args.number.0 step) c.self.view_is in
    let was = c.self.view_is in
    λ i. with_tunnels (was i) (after i)

use Rattle.std.proofs.Common.{◌≡◌, Some, IsSome, ap, subst, sym, ◌∙◌}
use Rattle.bng_lns.specs.Exchange.{parted}
use Rattle.bng_lns.specs.Tunnels.{tunnel_at, with_step}
use Rattle.bng_steps.specs.State.{State, with_tunnels}
use Rattle.bng_steps.proofs.Tunnelling.{standing}
use Rattle.bng_steps.proofs.served.Served.hang_up.Goals as goal

pub hang_up-requires : goal.hang_up-requires
hang_up-requires g c =
    record { stands = subst (λ (s : State). IsSome (tunnel_at s.tunnels c.args.number.0)) (sym c.self.view_is) (sym c.has_tunnel.ensures ∙ c.if-not-has_tunnel.false) }

pub returns-clause-told : goal.returns-clause-told
returns-clause-told g c =
    let n = c.args.number.0 in
    let k = c.args.call.now in
    let (t, stands) = standing (tunnel_at c.args.self.now.tunnels n) (sym c.has_tunnel.ensures ∙ c.if-not-has_tunnel.false) in
    let there : tunnel_at c.self.inside.tunnels n ≡ Some t = ap (λ (s : State). tunnel_at s.tunnels n) c.self.view_is ∙ stands in
    let after : c.hang_up.new.self ≡ with_step c.args.now c.args.self.now.tunnels n (parted t k c.args.now).after =
    c.hang_up.ensures.after t there ∙ ap (λ (s : State). with_step c.args.now s.tunnels n (parted t k c.args.now).after) c.self.view_is in
    let was = c.self.view_is in
    (t, stands, c.hang_up.ensures.said t there, λ i. with_tunnels (was i) (after i))

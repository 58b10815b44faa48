use Rattle.std.proofs.Common.{◌≡◌, ℕ, cond, nat_lt, ap, ◌∙◌}
use Rattle.std.specs.Option.{option_copied}
use Rattle.std.specs.List.{position_or_len}
use Rattle.bng_l2tp_wire.specs.View.{control_of}
use Rattle.bng_l2tp_tunnel.specs.Steps.{stands, message_step}
use Rattle.bng_l2tp_tunnel.specs.TunnelState.{TunnelState}
use Rattle.bng_lns.specs.Places.{number_at, is_free}
use Rattle.bng_lns.specs.Tunnels.{TunnelsState, free_place, vacant, begun_with, made_by}
use Rattle.bng_lns.proofs.tunnels.Tunnels.begin.Goals as goal
use Rattle.bng_lns.proofs.tunnels.Tunnels.begin.Goals.{After-begun-tunnel}

at_free : (c : After-begun-tunnel) → c.free_place-at.result ≡ free_place c.args.came.now.moment c.args.self.now
at_free c =
    let now = c.args.came.now.moment in
    c.free_place-at.ensures ∙ ap (position_or_len (is_free now)) c.as_slice.ensures.value ∙ ap (free_place now) c.self.view_is

number_is : (c : After-begun-tunnel) → c.number_of.result.0 ≡ vacant c.args.came.now.moment c.args.self.now
number_is c =
    let k = free_place c.args.came.now.moment c.args.self.now in
    c.number_of.ensures ∙ ap (λ (n : ℕ). cond (nat_lt n 16) (number_at c.self.inside.shard n) 0) (at_free c)
    ∙ ap (λ (t : TunnelsState). cond (nat_lt k 16) (number_at t.shard k) 0) c.self.view_is

begun_is : (c : After-begun-tunnel) → c.begun-tunnel.result ≡ begun_with c.args.name.now.items (option_copied c.args.lac) c.args.came.now.from c.args.came.now.moment (vacant c.args.came.now.moment c.args.self.now)
begun_is c =
    c.begun-tunnel.ensures.state ∙ ap (begun_with c.args.name.now.items (option_copied c.args.lac) c.args.came.now.from c.args.came.now.moment) (number_is c)

pub make-requires-clause-at : goal.make-requires-clause-at
make-requires-clause-at c = at_free (goal.at.make-requires-clause-at c).After-begun-tunnel

pub make-requires-clause-number : goal.make-requires-clause-number
make-requires-clause-number c = ap (λ (s : TunnelState). s.number) (begun_is (goal.at.make-requires-clause-number c).After-begun-tunnel)

pub make-requires-clause-new : goal.make-requires-clause-new
make-requires-clause-new c = ap (λ (s : TunnelState). stands s.phase) c.begun-tunnel.ensures.state

pub returns-clause-answer : goal.returns-clause-answer
returns-clause-answer c =
    let came = c.args.came.now in
    c.make.ensures.answer
    ∙ ap (λ (s : TunnelState). (made_by c.args.self.now came.moment (message_step s (control_of c.args.message.now) came.random came.moment)).answer) (begun_is (goal.at.returns-clause-answer c).After-begun-tunnel)

pub returns-clause-after : goal.returns-clause-after
returns-clause-after c =
    let came = c.args.came.now in
    c.make.ensures.after
    ∙ ap (λ (s : TunnelState). (made_by c.args.self.now came.moment (message_step s (control_of c.args.message.now) came.random came.moment)).after) (begun_is (goal.at.returns-clause-after c).After-begun-tunnel)

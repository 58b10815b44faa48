use Rattle.std.proofs.Common.{◌≡◌, ℕ, List, Option, ap, ◌∙◌}
use Rattle.std.specs.Prelude.{unwrap_or}
use Rattle.bng_l2tp_call.specs.CallState.{CallState, fresh}
use Rattle.bng_l2tp_tunnel.specs.TunnelState.{TunnelState}
use Rattle.bng_steps.specs.declared.way.TunnelCall.{TunnelCall}
use Rattle.bng_lns.specs.Tunnels.{tunnel_at}
use Rattle.bng_steps.specs.State.{State}
use Rattle.bng_steps.proofs.Values.{same_some}
use Rattle.bng_steps.proofs.served.Served.new_call.Goals as goal

pub returns : goal.returns
returns g c = λ t stands.
    let k = c.args.session.0 in
    let same : c.in-Some.tunnel.now ≡ t = same_some c.in-Some.tunnel.now t (c.in-Some.ensures ∙ ap (λ (s : State). tunnel_at s.tunnels c.args.number.0) c.self.view_is ∙ stands) in
    let none : c.new-call.result ≡ fresh t.secret k = c.new-call.ensures.fresh ∙ ap (λ (o : Option (List ℕ)). fresh o k) (c.secret.ensures ∙ ap (λ (x : TunnelState). x.secret) same) in
    let far : c.unwrap_or-far.result ≡ unwrap_or t.peer_number 0 = c.unwrap_or-far.ensures ∙ ap (λ (o : Option ℕ). unwrap_or o 0) (c.peer_number.ensures ∙ ap (λ (x : TunnelState). x.peer_number) same) in
    ap (λ (n : ℕ). let called : TunnelCall = record { peer = c.args.peer; tunnel = c.args.number; far = n; call = c.new-call.result } in called) far
    ∙ ap (λ (b : CallState). let called : TunnelCall = record { peer = c.args.peer; tunnel = c.args.number; far = unwrap_or t.peer_number 0; call = b } in called) none

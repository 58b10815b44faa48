use Rattle.std.proofs.Common.{ap, ◌∙◌}
use Rattle.bng_l2tp_wire.specs.Messages.{control_text}
use Rattle.bng_l2tp_tunnel.specs.declared.acknowledging.Acknowledging.TheVariants.{Never}
use Rattle.bng_l2tp_tunnel.specs.declared.phase.TunnelPhase.TheVariants.{Cleared}
use Rattle.bng_l2tp_wire.specs.declared.result_code.ResultCode.{ResultCode}
use Rattle.bng_l2tp_wire.specs.View.{said}
use Rattle.bng_l2tp_tunnel.specs.TunnelState.{TunnelState}
use Rattle.bng_l2tp_tunnel.specs.Spelling.{stop_ccn, shut_down}
use Rattle.bng_l2tp_tunnel.proofs.Answering.{clears_said, clears_after}
use Rattle.bng_l2tp_tunnel.proofs.tunnel.Tunnel.shut_down.Goals as goal

pub returns-clause-said : goal.returns-clause-said
returns-clause-said c =
    let text = c.payload.ensures.octets ∙ c.stop_ccn-stop.ensures.text ∙ ap (λ (r : ResultCode). control_text (stop_ccn c.self.inside.number.0 r)) c.shut_down.ensures ∙ ap (λ (s : TunnelState). control_text (stop_ccn s.number shut_down)) c.self.view_is in
    clears_said Never c.args.self.now c.args.now c.payload.result.now (control_text (stop_ccn c.args.self.now.number shut_down)) (said c.queue-step.result) (said c.cleared.result) c.cleared.ensures c.queue-step.ensures.said text

pub returns-clause-after : goal.returns-clause-after
returns-clause-after c =
    let text = c.payload.ensures.octets ∙ c.stop_ccn-stop.ensures.text ∙ ap (λ (r : ResultCode). control_text (stop_ccn c.self.inside.number.0 r)) c.shut_down.ensures ∙ ap (λ (s : TunnelState). control_text (stop_ccn s.number shut_down)) c.self.view_is in
    clears_after Never c.args.self.now c.args.now c.payload.result.now (control_text (stop_ccn c.args.self.now.number shut_down)) c.queue-step.new.self _
    (ap (λ (x : TunnelState). record x { phase = Cleared }) c.self-2.view_is) c.queue-step.ensures.after text

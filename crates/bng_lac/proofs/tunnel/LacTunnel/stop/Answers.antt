use Rattle.std.proofs.Common.{ap, ◌∙◌}
use Rattle.bng_l2tp_wire.specs.Messages.{control_text}
use Rattle.bng_l2tp_tunnel.specs.declared.acknowledging.Acknowledging.TheVariants.{Never}
use Rattle.bng_l2tp_wire.specs.declared.result_code.ResultCode.{ResultCode}
use Rattle.bng_l2tp_wire.specs.View.{said}
use Rattle.bng_l2tp_tunnel.specs.Spelling.{stop_ccn, shut_down}
use Rattle.bng_lac.specs.LacState.{LacState}
use Rattle.bng_lac.specs.Steps.{stop_step}
use Rattle.bng_lac.proofs.Answering.{clears_said, clears_after}
use Rattle.bng_lac.proofs.tunnel.LacTunnel.stop.Goals as goal

pub returns-clause-said : goal.returns-clause-said
unfolding stop_step
returns-clause-said c =
    let text = c.payload.ensures.octets ∙ c.stop_ccn-stop.ensures.text ∙ ap (λ (r : ResultCode). control_text (stop_ccn c.self.inside.number.0 r)) c.shut_down.ensures ∙ ap (λ (s : LacState). control_text (stop_ccn s.number shut_down)) c.self.view_is in
    clears_said Never c.args.self.now c.args.now c.payload.result.now (control_text (stop_ccn c.args.self.now.number shut_down)) (said c.queue-step.result) (said c.cleared.result) c.cleared.ensures c.queue-step.ensures.said text

pub returns-clause-after : goal.returns-clause-after
unfolding stop_step
returns-clause-after c =
    let text = c.payload.ensures.octets ∙ c.stop_ccn-stop.ensures.text ∙ ap (λ (r : ResultCode). control_text (stop_ccn c.self.inside.number.0 r)) c.shut_down.ensures ∙ ap (λ (s : LacState). control_text (stop_ccn s.number shut_down)) c.self.view_is in
    clears_after Never c.args.self.now c.args.now c.payload.result.now (control_text (stop_ccn c.args.self.now.number shut_down)) c.queue-step.new.self c.forget.new.self c.forget.ensures c.queue-step.ensures.after text

use Rattle.std.proofs.Common.{◌≡◌, ◌∙◌, ap}
use Rattle.bng_l2tp_call.specs.CallState.{CallState}
use Rattle.bng_l2tp_wire.specs.View.{said, control_of}
use Rattle.bng_lns.specs.Tunnels.{with_step}
use Rattle.bng_steps.specs.declared.session.Session.{Session}
use Rattle.bng_steps.specs.declared.way.TunnelCall.{TunnelCall}
use Rattle.bng_steps.specs.declared.way.Way.TheVariants.{Call}
use Rattle.bng_steps.specs.Calls.{call_after, call_step}
use Rattle.bng_steps.specs.State.{with_tunnels}
use Rattle.bng_steps.proofs.calls.answer_for.Goals as goal

pub returns-clause-answered : goal.returns-clause-answered
returns-clause-answered g c = λ t k stands way.
    let s = c.args.served.now in
    let n = c.args.number.0 in
    let now = c.args.now in
    let heard = said c.args.heard in
    let m = control_of c.args.message.now in
    let was = c.in-Call.is in
    let its : c.in-Call.called ≡ k = cc in
    let same : c.in-Call.called.call ≡ k.call = ap (λ (q : TunnelCall). q.call) its in
    let (told, after) = c.answer_over.ensures.answered t stands in (
      told ∙ ap (λ (b : CallState). (call_step t heard b m now).said) same,
      after ∙ ap (λ (b : CallState). with_tunnels s (with_step now s.tunnels n (call_step t heard b m now).after)) same,
      ap (λ (q : TunnelCall). let y : Session = record c.args.session.now { way = Call q } in y) (c.answer_over.ensures.called ∙ ap (λ (q : TunnelCall). let b : TunnelCall = record q { call = call_after q.call m } in b) its),
    )

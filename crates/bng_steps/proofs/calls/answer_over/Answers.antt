use Rattle.std.proofs.Common.{ap}
use Rattle.bng_l2tp_call.specs.CallState.{CallState}
use Rattle.bng_steps.specs.declared.way.TunnelCall.{TunnelCall}
use Rattle.bng_steps.proofs.calls.answer_over.Goals as goal

pub returns-clause-answered : goal.returns-clause-answered
returns-clause-answered g c = λ t stands. (c.answer_call.ensures.said t stands, c.answer_call.ensures.after t stands)

pub returns-clause-called : goal.returns-clause-called
returns-clause-called g c = ap (λ (k : CallState). let called : TunnelCall = record c.args.called.now { call = k } in called) c.answer_call.ensures.call

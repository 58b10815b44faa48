use Rattle.std.proofs.Common.{rules}
use Rattle.bng_l2tp_wire.proofs.Exact.{why_not, handed_on}
use Rattle.bng_l2tp_wire.proofs.control.control_at.Goals as goal

pub returns-in_err-avps-clause-answer : goal.returns-in_err-avps-clause-answer
returns-in_err-avps-clause-answer c =
    handed_on c.args.bytes.now c.from_residual.result c.in_err-avps.field-0.0 c.from_residual.ensures.1
    (why_not c.in_err-avps.field-0.0 c.args.bytes.now (search rules) (search rules) (search rules) (search rules) (search rules))

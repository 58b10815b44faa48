use Rattle.std.proofs.Common.{rules}
use Rattle.bng_radius_wire.proofs.Exact.{why_not, handed_on}
use Rattle.bng_radius_wire.proofs.reading.packet_at.Goals as goal

pub returns-in_err-attributes-clause-answer : goal.returns-in_err-attributes-clause-answer
returns-in_err-attributes-clause-answer c =
    handed_on c.args.bytes.now c.from_residual.result c.in_err-attributes.field-0.0 c.from_residual.ensures.1
    (why_not c.in_err-attributes.field-0.0 c.args.bytes.now (search rules) (search rules) (search rules) (search rules))

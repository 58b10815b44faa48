use Rattle.bng_l2tp_wire.proofs.Exact.{only_control, outside_iff, too_many_iff}
use Rattle.bng_l2tp_wire.proofs.view.Control.read.Goals as goal

pub returns-clause-only : goal.returns-clause-only
returns-clause-only c = only_control c.args.bytes.now c.control_at.result c.control_at.ensures.answer

pub returns-clause-outside : goal.returns-clause-outside
returns-clause-outside c = outside_iff c.args.bytes.now c.control_at.result c.control_at.ensures.answer

pub returns-clause-too_many : goal.returns-clause-too_many
returns-clause-too_many c = too_many_iff c.args.bytes.now c.control_at.result c.control_at.ensures.answer c.control_at.ensures.few

use Rattle.bng_radius_wire.proofs.Exact.{only_answer, outside_iff, too_many_iff}
use Rattle.bng_radius_wire.proofs.reading.read.Goals as goal

pub returns-clause-only : goal.returns-clause-only
returns-clause-only c = only_answer c.args.bytes.now c.packet_at.result c.packet_at.ensures.answer

pub returns-clause-outside : goal.returns-clause-outside
returns-clause-outside c = outside_iff c.args.bytes.now c.packet_at.result c.packet_at.ensures.answer

pub returns-clause-too_many : goal.returns-clause-too_many
returns-clause-too_many c = too_many_iff c.args.bytes.now c.packet_at.result c.packet_at.ensures.answer c.packet_at.ensures.few

use Rattle.bng_pppoe_wire.proofs.Judging.{only_frame, too_many_iff}
use Rattle.bng_pppoe_wire.proofs.view.Pppoe.read.Goals as goal

pub returns-clause-only : goal.returns-clause-only
returns-clause-only c = only_frame c.args.bytes.now c.frame_at.result c.frame_at.ensures

pub returns-clause-too_many : goal.returns-clause-too_many
returns-clause-too_many c = too_many_iff c.args.bytes.now c.frame_at.result c.frame_at.ensures

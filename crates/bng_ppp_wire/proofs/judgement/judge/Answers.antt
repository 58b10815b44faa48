use Rattle.bng_ppp_wire.proofs.JudgementLaws.{ack_iff}
use Rattle.bng_ppp_wire.proofs.judgement.judge.Goals as goal

pub returns-clause-ack : goal.returns-clause-ack
returns-clause-ack c = ack_iff c.args.rows.now c.args.no_more_naks c.args.request.now c.first_class.result c.first_class.ensures

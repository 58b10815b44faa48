use Rattle.std.proofs.Common.{rules}
use Rattle.bng_ppp_wire.specs.View.{options_of}
use Rattle.bng_ipcp.specs.Judgement.{rows_of}
use Rattle.bng_ppp.proofs.RejectLaws.{spellable}
use Rattle.bng_ppp.proofs.ipcp.Ipcp.judge.Goals as goal

pub answer-requires-clause-fits : goal.answer-requires-clause-fits
answer-requires-clause-fits c = spellable (rows_of c.rules-rules.result) c.rules-rules.result.no_more_naks (options_of c.in-Ok.found.items) c.args.packet.now.body.now c.judge-judged.result (search rules) (search rules) (search rules)

use Rattle.bng_rad_client.proofs.Lanes.{answers_at}
use Rattle.bng_rad_client.proofs.client.Client.reply.Goals as goal

pub returns-in-Auth-clause-answer : goal.returns-in-Auth-clause-answer
returns-in-Auth-clause-answer c = answers_at _ c.args.self.now c.args.lane _ c.in-Auth.is c.self.view_is c.args.from _ c.args.bytes.now c.reply.result c.as_slice.ensures.value c.reply.ensures.answer

pub returns-in-Acct-clause-answer : goal.returns-in-Acct-clause-answer
returns-in-Acct-clause-answer c = answers_at _ c.args.self.now c.args.lane _ c.in-Acct.is c.self.view_is c.args.from _ c.args.bytes.now c.reply-in-Acct.result c.as_slice-in-Acct.ensures.value c.reply-in-Acct.ensures.answer

use Rattle.bng_lns.proofs.Payloads.{only_sent}
use Rattle.bng_lns.proofs.exchange.push_sent.Goals as goal

pub returns-in-Some : goal.returns-in-Some
returns-in-Some c =
    only_sent c.args.outs.now.items c.push.new.self.items c.args.sent.now.items c.pop.new.self.items c.in-Some.frame c.requires.one c.in-Some.ensures.items c.push.ensures.items

use Rattle.std.proofs.Common.{arith}
use Rattle.bng_lns.proofs.Payloads.{length-payloads}
use Rattle.bng_lns.proofs.exchange.answer_over.Goals as goal

pub push_sent-requires-clause-one : goal.push_sent-requires-clause-one
push_sent-requires-clause-one c = omega (arith, length-payloads c.send-sent.result.outs.items, c.send-sent.ensures.one c.requires.tunnel)

pub returns-clause-sound : goal.returns-clause-sound
returns-clause-sound c = (c.send-sent.ensures.sound c.requires.tunnel c.requires.text.spelled).tunnel

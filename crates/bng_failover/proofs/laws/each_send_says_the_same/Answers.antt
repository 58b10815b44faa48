use Rattle.bng_failover.proofs.Saying.{asked_says, sent_says}
use Rattle.bng_failover.proofs.laws.each_send_says_the_same.Goals as goal

pub returns-clause-asked : goal.returns-clause-asked
returns-clause-asked c = λ old new at owner request secret now peer frame h. asked_says old new at owner request secret now peer frame h

pub returns-clause-sent : goal.returns-clause-sent
returns-clause-sent c = λ lane old new secret tries now owner peer frame h. sent_says lane old new secret tries now owner peer frame h

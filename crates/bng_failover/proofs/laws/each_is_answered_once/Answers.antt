use Rattle.bng_failover.proofs.Once.{each_once, at_most_once}
use Rattle.bng_failover.proofs.laws.each_is_answered_once.Goals as goal

pub returns-clause-once : goal.returns-clause-once
returns-clause-once c = λ rules opening last calls lane test opened chain. each_once test rules opening last calls lane opened chain

pub returns-clause-most : goal.returns-clause-most
returns-clause-most c = λ rules opening last calls lane test opened chain. at_most_once test rules opening last calls lane opened chain

use Rattle.bng_failover.proofs.Words.{each_says}
use Rattle.bng_failover.proofs.laws.all_sends_say_what_was_asked.Goals as goal

pub returns : goal.returns
returns c = λ rules opening last calls lane opened chain at id r there. each_says rules opening last calls lane opened chain at id r there

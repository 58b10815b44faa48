use Rattle.bng_failover.proofs.Ends.{in_turn, timed_out, not_out}
use Rattle.bng_failover.proofs.Ways.{due_of}
use Rattle.bng_failover.proofs.laws.each_server_is_sent_its_tries.Goals as goal

pub returns-clause-in_hand : goal.returns-clause-in_hand
returns-clause-in_hand c = λ rules opening last calls some byte opened chain at id r there. in_turn rules opening last calls some byte opened chain at id r there

pub returns-clause-timed_out : goal.returns-clause-timed_out
returns-clause-timed_out c = λ rules opening last calls some byte opened chain left now owner g. timed_out rules opening last calls some byte opened chain left now owner g

pub returns-clause-none : goal.returns-clause-none
returns-clause-none c = λ rules opening last calls some byte opened chain now at id r none small there e. not_out rules opening last calls some byte opened chain now at id r none small there e

pub returns-clause-whose : goal.returns-clause-whose
returns-clause-whose c = λ old new now timeouts frame result h. due_of old new now timeouts frame result h

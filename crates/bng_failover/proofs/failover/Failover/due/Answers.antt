use Rattle.std.proofs.Common.{List, ap, subst}
use Rattle.bng_failover.specs.declared.server.Server.{Server}
use Rattle.bng_failover.specs.Servers.{Keeps}
use Rattle.bng_failover.specs.State.{State}
use Rattle.bng_failover.proofs.failover.Failover.due.Goals as goal

pub returns-in-Some-send-clause-auth : goal.returns-in-Some-send-clause-auth
returns-in-Some-send-clause-auth c = subst (λ (xs : List Server). Keeps xs c.send.new.self) (ap (λ (s : State). s.auth) c.self.view_is) c.send.ensures.owners

pub returns-clause-acct : goal.returns-clause-acct
returns-clause-acct c = subst (λ (xs : List Server). Keeps xs c.send-2.new.self) (ap (λ (s : State). s.acct) c.self.view_is) c.send-2.ensures.owners

use Rattle.std.proofs.Common.{◌≡◌, ◌≢◌, ℕ, sym, ap, subst, arith}
use Rattle.bng_base.specs.declared.address.Peer.{Peer}
use Rattle.bng_failover.specs.State.{NoneTwice}
use Rattle.bng_failover.proofs.Twice.{two_once}
use Rattle.bng_radius_tests.specs.declared.failover.TheConstants.{FIRST, SECOND}
use Rattle.bng_radius_tests.proofs.failover.opened.Goals as goal

-- they differ in the last octet of their addresses
differ : FIRST ≢ SECOND
differ e = absurd (omega (arith, ap (λ (p : Peer). p.ip.0) e))

pub open-requires-clause-auth_once : goal.open-requires-clause-auth_once
open-requires-clause-auth_once c = subst NoneTwice (sym c.both.ensures) (two_once FIRST SECOND differ)

pub open-requires-clause-acct_once : goal.open-requires-clause-acct_once
open-requires-clause-acct_once c = subst NoneTwice (sym c.both-2.ensures) (two_once FIRST SECOND differ)

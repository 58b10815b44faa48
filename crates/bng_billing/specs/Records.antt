-- Records that are formed.
use Rattle.std.specs.Prelude.{◌≡◌, ℕ}
use Rattle.bng_acct.specs.declared.facts.StatusType.{StatusType}
use Rattle.bng_acct.specs.declared.facts.TermFacts.{TermFacts}
use Rattle.bng_acct.specs.declared.facts.Moment.{Moment}
use Rattle.bng_acct.specs.Spool.{Forms}
use Rattle.bng_billing.specs.State.{BillingState}

-- a record of this kind, these facts and this moment is open from then on under this number, and no request is touched
pub record IsFormedBy (old : BillingState) (status : StatusType) (facts : TermFacts) (moment : Moment) (n : ℕ) (new : BillingState) : Type 0 where
  pub formed : Forms old.spool new.spool status facts moment n
  pub others : new ≡ record old { spool = new.spool }

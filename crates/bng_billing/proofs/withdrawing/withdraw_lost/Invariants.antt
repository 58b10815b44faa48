use Rattle.bng_billing.specs.Stopping.{WithdrawsBelow}
use Rattle.bng_billing.proofs.withdrawing.withdraw_lost.Given as goal

abbrev pub invariant-loop-i : goal.invariant-loop-i
invariant-loop-i l = WithdrawsBelow l.i l.spool l.fn.client l.client l.fn.sent l.sent

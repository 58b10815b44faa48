use Rattle.std.proofs.Common.{◌≡◌, subst, arith}
use Rattle.bng_billing.specs.Stopping.{WithdrawsBelow}
use Rattle.bng_billing.proofs.Stopping.{none_below, one_more}
use Rattle.bng_billing.proofs.withdrawing.withdraw_lost.Goals as goal

pub loop-i-init : goal.loop-i-init
loop-i-init c = none_below c.args.spool.now c.args.client.now c.args.sent.now

pub loop-i-preserved : goal.loop-i-preserved
loop-i-preserved c =
    one_more c.loop-i.i c.args.spool.now c.args.client.now c.loop-i.client c.withdraw.new.client c.args.sent.now c.loop-i.sent c.withdraw.new.sent c.loop-i.invariant c.withdraw.ensures

pub returns : goal.returns
returns c =
    let all : c.loop-i.i ≡ 256 = omega (arith, c.loop-i-test.false, c.loop-i.auto.i-end) in
    subst (λ k. WithdrawsBelow k c.args.spool.now c.args.client.now c.loop-i.client c.args.sent.now c.loop-i.sent) all c.loop-i.invariant

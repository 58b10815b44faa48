use Rattle.std.proofs.Common.{◌≡◌, false, arith}
use Rattle.bng_forward.proofs.Metering.{forwarded_down}
use Rattle.bng_forward.proofs.packet.to_term.Goals as goal

pub returns-clause-fate : goal.returns-clause-fate
returns-clause-fate c = λ holders bytes is held.
    forwarded_down holders c.args.term.now c.args.now c.args.header bytes is held (cc) (omega (arith, c.if-header-lt2.false))
    (λ long. let long' : c.takes.result ≡ false = c.takes.ensures.long.1 long in let taken = c.if-not-takes.false in absurd (cc))
    (λ red. let red' : c.passes.result ≡ false = c.passes.ensures.red.1 red in let passed = c.if-not-passes.false in absurd (cc))

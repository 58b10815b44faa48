use Rattle.std.proofs.Common.{refl, arith}
use Rattle.bng_spell.proofs.many.U32Line.read_line.Goals as goal

pub returns-in_err-number-clause-none : goal.returns-in_err-number-clause-none
returns-in_err-number-clause-none c = rw c.from_residual.ensures (λ n rest f e.
    c.in_err-number.ensures.none (record { 0 = record { 0 = n } }) rest ((omega (arith, f), omega (arith, f)), refl) e)

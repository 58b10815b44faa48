use Rattle.std.proofs.Common.{refl, arith}
use Rattle.bng_spell.proofs.FieldReading.{no_claimed, no_held, no_exhausted}
use Rattle.bng_spell.proofs.fields.ClaimPiece.read.Goals as goal

pub returns-in_err-address-clause-none : goal.returns-in_err-address-clause-none
returns-in_err-address-clause-none c = rw c.from_residual.ensures (no_claimed c.args.whole.now c.args.at c.in-Some-literal.at c.in-Some-literal.ensures.found
    (λ a rest f e. c.in_err-address.ensures.none (record { 0 = a }) rest (f, refl) e))

pub returns-in_err-address-2-clause-none : goal.returns-in_err-address-2-clause-none
returns-in_err-address-2-clause-none c = rw c.from_residual-in_err-address-2.ensures (no_held c.args.whole.now c.args.at c.in-Some-literal-2.at c.in-Some-literal-2.ensures.found
    (λ a rest f e. c.in_err-address-2.ensures.none (record { 0 = a }) rest (f, refl) e))

pub returns-in_err-pool-clause-none : goal.returns-in_err-pool-clause-none
returns-in_err-pool-clause-none c = rw c.from_residual-in_err-pool.ensures (no_exhausted c.args.whole.now c.args.at c.in_ok-at.at c.in_ok-at.ensures.found
    (λ n rest f e. c.in_err-pool.ensures.none (record { 0 = record { 0 = n } }) rest ((omega (arith, f), omega (arith, f)), refl) e))

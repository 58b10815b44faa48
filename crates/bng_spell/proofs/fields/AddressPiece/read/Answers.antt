use Rattle.std.proofs.Common.{refl, arith}
use Rattle.bng_spell.proofs.FieldReading.{no_address}
use Rattle.bng_spell.proofs.fields.AddressPiece.read.Goals as goal

pub returns-in_err-fields-clause-none : goal.returns-in_err-fields-clause-none
returns-in_err-fields-clause-none g c = rw c.from_residual.ensures (λ a rest f e.
    no_address g.row.STOP c.args.whole.now c.args.at
    (λ p q r s more fp fq fr fs h.
    c.in_err-fields.ensures.none
    (record { 0 = record { 0 = p } }, (record { 0 = record { 0 = q } }, (record { 0 = record { 0 = r } }, record { 0 = record { 0 = s } }))) more
    (((omega (arith, fp), omega (arith, fp)), refl), (((omega (arith, fq), omega (arith, fq)), refl), (((omega (arith, fr), omega (arith, fr)), refl), ((omega (arith, fs), omega (arith, fs)), f.1)))) h)
    a.0 rest f.0 e)

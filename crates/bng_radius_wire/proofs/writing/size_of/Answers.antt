use Rattle.std.proofs.Common.{ap, arith, length, take, get_or, length-append}
use Rattle.bng_radius_wire.specs.Attributes.{text, field, fields}
use Rattle.bng_radius_wire.specs.Grammar.{attributes_text}
use Rattle.bng_radius_wire.proofs.Steps.{blank, fits_at, text_more}
use Rattle.bng_radius_wire.proofs.writing.size_of.Goals as goal

pub loop-attribute-preserved : goal.loop-attribute-preserved
loop-attribute-preserved c =
    let all = c.args.attributes.now in
    let i = c.loop-attribute.attribute-index in
    let fits = fits_at all i blank c.loop-attribute-test.true c.requires.fit in
    record {
      size = omega (arith, c.loop-attribute.invariant.size, ap length (text_more all i blank c.loop-attribute-test.true), length-append (attributes_text (fields (take i all))) (text (field (get_or all i blank))));
      small = omega (arith, fits);
    }

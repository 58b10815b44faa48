use Rattle.std.proofs.Common.{ap, arith, length, take, get_or, length-append}
use Rattle.bng_l2tp_wire.specs.Avps.{avp_text, avps_text}
use Rattle.bng_l2tp_wire.specs.View.{avp_of, avps_of}
use Rattle.bng_l2tp_wire.proofs.AvpSteps.{blank, fits_at, text_more}
use Rattle.bng_l2tp_wire.proofs.listing.size_of.Goals as goal

pub loop-avp-preserved : goal.loop-avp-preserved
loop-avp-preserved c =
    let all = c.args.avps.now in
    let i = c.loop-avp.avp-index in
    let fits = fits_at all i blank c.loop-avp-test.true c.requires.fit in
    record {
      size = omega (arith, c.loop-avp.invariant.size, ap length (text_more all i blank c.loop-avp-test.true), length-append (avps_text (avps_of (take i all))) (avp_text (avp_of (get_or all i blank))));
      small = omega (arith, c.loop-avp.invariant.small, fits.size);
    }

use Rattle.std.proofs.Common.{ℕ, List, ◌++◌, sym, ap, ◌∙◌, arith, length, take, get_or, length-append, append_assoc}
use Rattle.bng_l2tp_wire.specs.Avps.{avp_text, avps_text}
use Rattle.bng_l2tp_wire.specs.View.{avp_of, avps_of}
use Rattle.bng_l2tp_wire.proofs.AvpSteps.{blank, fits_at, text_more, room_for}
use Rattle.bng_l2tp_wire.proofs.listing.put_all.Goals as goal

pub put-requires-clause-fits : goal.put-requires-clause-fits
put-requires-clause-fits c = fits_at c.args.avps.now c.loop-avp.avp-index blank c.loop-avp-test.true c.requires.fit

pub put-requires-clause-room : goal.put-requires-clause-room
put-requires-clause-room c =
    let all = c.args.avps.now in
    let i = c.loop-avp.avp-index in
    omega (arith, c.requires.room, room_for all i blank c.loop-avp-test.true, ap length c.loop-avp.invariant.payload, c.loop-avp.invariant.headroom, length-append c.args.into.now.payload (avps_text (avps_of (take i all))))

pub loop-avp-preserved : goal.loop-avp-preserved
loop-avp-preserved c =
    let all = c.args.avps.now in
    let i = c.loop-avp.avp-index in
    let old = c.args.into.now.payload in
    let so_far = avps_text (avps_of (take i all)) in
    record {
      payload = c.put.ensures.payload
          ∙ ap (λ (p : List ℕ). p ++ avp_text (avp_of (get_or all i blank))) c.loop-avp.invariant.payload
          ∙ append_assoc old so_far (avp_text (avp_of (get_or all i blank)))
          ∙ ap (λ (t : List ℕ). old ++ t) (sym (text_more all i blank c.loop-avp-test.true));
      headroom = c.put.ensures.headroom ∙ c.loop-avp.invariant.headroom;
    }

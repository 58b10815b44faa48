use Rattle.std.proofs.Common.{◌∷◌, ◌++◌, [], sym, ap, ◌∙◌}
use Rattle.bng_meter.specs.Bucket.{filled, colour_of, without, taken, colours}
use Rattle.bng_meter.proofs.Offers.{after-append, colours-append}
use Rattle.bng_meter.proofs.meter.Meter.take.Goals as goal

pub returns-clause-history : goal.returns-clause-history
returns-clause-history c b offers at = c.spend.ensures.buckets ∙ (ap (λ z. without z c.args.octets) c.fill.ensures.filled
    ∙ (ap (λ z. taken z (c.args.now, c.args.octets)) at ∙ sym (after-append b offers (c.args.now, c.args.octets))))

pub returns-clause-told : goal.returns-clause-told
returns-clause-told c b offers at = let same = c.spend.ensures.colour ∙ (ap (λ z. colour_of z c.args.octets) c.fill.ensures.filled ∙ ap (λ z. colour_of (filled z c.args.now) c.args.octets) at) in
    colours-append b offers (c.args.now, c.args.octets) ∙ ap (λ z. colours b offers ++ z ∷ []) (sym same)

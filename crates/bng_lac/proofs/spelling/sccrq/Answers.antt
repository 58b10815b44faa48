use Rattle.std.proofs.Common.{rules, ◌≡◌, List, length, ap, ◌∙◌, arith}
use Rattle.bng_l2tp_wire.specs.Avps.{L2tpAvp, avps_text}
use Rattle.bng_l2tp_wire.specs.Messages.{control_text}
use Rattle.bng_l2tp_wire.specs.View.{avps_of, octets_of}
use Rattle.bng_l2tp_wire.specs.Spelling.{unsent}
use Rattle.bng_lac.specs.Spelling.{sccrq}
use Rattle.bng_lac.proofs.Sizes.{sccrq_size}
use Rattle.bng_lac.proofs.spelling.sccrq.Goals as goal

pub spelled-requires-clause-short : goal.spelled-requires-clause-short
spelled-requires-clause-short c =
    let same : avps_of c.push_challenge.new.avps.items ≡ (sccrq c.args.name.now c.args.number (octets_of c.args.secret.now) c.args.challenge.now).avps = search rules in
    omega (arith, ap (λ (avps : List L2tpAvp). length (avps_text avps)) same, sccrq_size c.args.name.now c.args.number (octets_of c.args.secret.now) c.args.challenge.now c.requires c.told-challenge)

pub returns-clause-text : goal.returns-clause-text
returns-clause-text c =
    let same : avps_of c.push_challenge.new.avps.items ≡ (sccrq c.args.name.now c.args.number (octets_of c.args.secret.now) c.args.challenge.now).avps = search rules in
    c.spelled.ensures.text ∙ ap (λ (avps : List L2tpAvp). control_text (unsent 0 avps)) same

pub returns-clause-size : goal.returns-clause-size
returns-clause-size c =
    let same : avps_of c.push_challenge.new.avps.items ≡ (sccrq c.args.name.now c.args.number (octets_of c.args.secret.now) c.args.challenge.now).avps = search rules in
    omega (arith, c.spelled.ensures.size, ap (λ (avps : List L2tpAvp). length (avps_text avps)) same, sccrq_size c.args.name.now c.args.number (octets_of c.args.secret.now) c.args.challenge.now c.requires c.told-challenge)

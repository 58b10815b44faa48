use Rattle.std.proofs.Common.{rules, ◌≡◌, List, length, ap, ◌∙◌, arith}
use Rattle.bng_l2tp_wire.specs.Avps.{L2tpAvp, avps_text}
use Rattle.bng_l2tp_wire.specs.Messages.{control_text}
use Rattle.bng_l2tp_wire.specs.View.{avps_of, octets_of}
use Rattle.bng_l2tp_tunnel.specs.Spelling.{sccrp}
use Rattle.bng_l2tp_wire.specs.Spelling.{unsent}
use Rattle.bng_l2tp_tunnel.proofs.Sizes.{sccrp_size}
use Rattle.bng_l2tp_tunnel.proofs.spelling.sccrp.Goals as goal

pub spelled-requires-clause-short : goal.spelled-requires-clause-short
spelled-requires-clause-short c =
    let same : avps_of c.push_response.new.avps.items ≡ (sccrp c.args.name.now c.args.number (octets_of c.args.secret.now) c.args.challenge.now (octets_of c.args.asked.now)).avps = search rules in
    omega (arith, ap (λ (avps : List L2tpAvp). length (avps_text avps)) same, sccrp_size c.args.name.now c.args.number (octets_of c.args.secret.now) c.args.challenge.now (octets_of c.args.asked.now) c.requires c.told-challenge)

pub returns-clause-text : goal.returns-clause-text
returns-clause-text c =
    let same : avps_of c.push_response.new.avps.items ≡ (sccrp c.args.name.now c.args.number (octets_of c.args.secret.now) c.args.challenge.now (octets_of c.args.asked.now)).avps = search rules in
    c.spelled.ensures.text ∙ ap (λ (avps : List L2tpAvp). control_text (unsent 0 avps)) same

pub returns-clause-size : goal.returns-clause-size
returns-clause-size c =
    let same : avps_of c.push_response.new.avps.items ≡ (sccrp c.args.name.now c.args.number (octets_of c.args.secret.now) c.args.challenge.now (octets_of c.args.asked.now)).avps = search rules in
    omega (arith, c.spelled.ensures.size, ap (λ (avps : List L2tpAvp). length (avps_text avps)) same, sccrp_size c.args.name.now c.args.number (octets_of c.args.secret.now) c.args.challenge.now (octets_of c.args.asked.now) c.requires c.told-challenge)

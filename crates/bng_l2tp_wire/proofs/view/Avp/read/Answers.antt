use Rattle.std.proofs.Common.{◌≡◌}
use Rattle.bng_l2tp_wire.specs.Avps.{L2tpAvp, IsAvp}
use Rattle.bng_l2tp_wire.specs.declared.view.Avp.{Avp}
use Rattle.bng_l2tp_wire.specs.View.{avp_of}
use Rattle.bng_l2tp_wire.proofs.AvpLaws.{one_avp}
use Rattle.bng_l2tp_wire.proofs.Exactly.{exactly_outside, only_found}
use Rattle.bng_l2tp_wire.proofs.view.Avp.read.Goals as goal

pub returns-clause-only : goal.returns-clause-only
returns-clause-only c = λ a is.
    let bytes = c.args.bytes.now in
    only_found (λ (v : Avp). IsAvp (avp_of v) bytes) (λ (v : Avp). avp_of v ≡ a) ((b : L2tpAvp) → IsAvp b bytes → ⊥) c.avp_at.result (λ v h. one_avp (avp_of v) a bytes h is) (λ none. none a is)
    c.avp_at.ensures.found c.avp_at.ensures.outside c.avp_at.ensures.never

pub returns-clause-outside : goal.returns-clause-outside
returns-clause-outside c =
    let bytes = c.args.bytes.now in
    exactly_outside (λ (v : Avp). IsAvp (avp_of v) bytes) ((a : L2tpAvp) → IsAvp a bytes → ⊥) c.avp_at.result (λ v h none. none (avp_of v) h)
    c.avp_at.ensures.found c.avp_at.ensures.outside c.avp_at.ensures.never

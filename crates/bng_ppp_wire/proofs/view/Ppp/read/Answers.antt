use Rattle.bng_base.specs.PppGrammar.{PppFrame, IsPpp}
use Rattle.bng_ppp_wire.specs.declared.view.Ppp.{Ppp}
use Rattle.bng_ppp_wire.specs.View.{frame_of}
use Rattle.bng_ppp_wire.proofs.Exactly.{exactly_outside}
use Rattle.bng_ppp_wire.proofs.view.Ppp.read.Goals as goal

pub returns-clause-outside : goal.returns-clause-outside
returns-clause-outside c =
    let bytes = c.args.bytes.now in
    exactly_outside (λ (v : Ppp). IsPpp (frame_of v) bytes) ((p : PppFrame) → IsPpp p bytes → ⊥) c.frame_at.result (λ v h none. none (frame_of v) h)
    c.frame_at.ensures.found c.frame_at.ensures.outside c.frame_at.ensures.never

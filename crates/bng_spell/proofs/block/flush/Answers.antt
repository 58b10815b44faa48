use Rattle.std.proofs.Common.{List, ℕ, [], take, refl, sym, subst, ◌∙◌, append-nil}
use Rattle.bng_base.specs.Told.{Grows}
use Rattle.bng_spell.proofs.Spellings.{adds_broken}
use Rattle.bng_spell.proofs.block.flush.Goals as goal

pub returns-in-Failed-clause-adds : goal.returns-in-Failed-clause-adds
returns-in-Failed-clause-adds g c =
    let a = g.O.Sink.told c.args.out.now in
    let b = g.O.Sink.told c.write.new.self in
    let p = c.args.block.now in
    let w = c.in-Failed.ensures.bytes in
    adds_broken a b p c.fail.new.self [] w.0 (sym c.has_failed.ensures ∙ c.if-has_failed.false) c.fail.ensures.failed
    (subst (λ (t : List ℕ). Grows a.bytes b.bytes (take w.0 t)) (c.as_slice.ensures ∙ sym (append-nil p.octets)) w.2) c.in-Failed.ensures.cause.later
    (c.in-Failed.ensures.cause.cause refl)

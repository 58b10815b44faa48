use Rattle.std.proofs.Common.{List, ℕ, ◌++◌, take, refl, sym, subst, ◌∙◌}
use Rattle.bng_base.specs.Told.{Grows}
use Rattle.bng_spell.proofs.Spellings.{adds_written, adds_broken}
use Rattle.bng_spell.proofs.block.write_through.Goals as goal

pub returns-in-Ok : goal.returns-in-Ok
returns-in-Ok g c =
    let a = g.O.Sink.told c.args.out.now in
    let b = g.O.Sink.told c.write.new.self in
    let p = c.args.block.now in
    let going = sym c.has_failed.ensures ∙ c.if-has_failed.false in
    adds_written a b p p c.args.text.now going going c.requires (subst (λ (x : List ℕ). Grows a.bytes b.bytes (x ++ c.args.text.now)) (sym c.requires) c.in-Ok.ensures.bytes) c.in-Ok.ensures.cause.later

pub returns-in-Failed : goal.returns-in-Failed
returns-in-Failed g c =
    let a = g.O.Sink.told c.args.out.now in
    let b = g.O.Sink.told c.write.new.self in
    let p = c.args.block.now in
    let w = c.in-Failed.ensures.bytes in
    adds_broken a b p c.fail.new.self c.args.text.now w.0 (sym c.has_failed.ensures ∙ c.if-has_failed.false) c.fail.ensures.failed
    (subst (λ (x : List ℕ). Grows a.bytes b.bytes (take w.0 (x ++ c.args.text.now))) (sym c.requires) w.2) c.in-Failed.ensures.cause.later
    (c.in-Failed.ensures.cause.cause refl)

use Rattle.std.proofs.Common.{◌∙◌, Bool, ap, sym}
use Rattle.std.specs.Prelude.{if◌then◌else◌}
use Rattle.bng_steps.specs.Cutting.{cut_off}
use Rattle.bng_steps.specs.TermRows.{whole}
use Rattle.bng_steps.proofs.SumsKept.{keeps_same}
use Rattle.bng_steps.proofs.cutting.cut_if.Goals as goal

pub returns-then-not-is_last-clause-cut : goal.returns-then-not-is_last-clause-cut
returns-then-not-is_last-clause-cut g c =
    let s = whole c.args.served.now c.args.terms.now in
    sym (ap (λ (b : Bool). if b then cut_off c.args.tunnel.0 s else s) (sym c.is_last.ensures ∙ c.if-not-is_last.true))

pub returns-then-not-is_last-clause-sums : goal.returns-then-not-is_last-clause-sums
returns-then-not-is_last-clause-sums g c = keeps_same c.args.terms.now

pub returns-clause-cut : goal.returns-clause-cut
returns-clause-cut g c =
    let s = whole c.args.served.now c.args.terms.now in
    c.cut_off.ensures.cut ∙ sym (ap (λ (b : Bool). if b then cut_off c.args.tunnel.0 s else s) (sym c.is_last.ensures ∙ c.if-not-is_last.false))

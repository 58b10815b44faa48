use Rattle.std.proofs.Common.{sym, ap, ◌∙◌}
use Rattle.bng_term.specs.Lifetimes.{reported}
use Rattle.bng_term.proofs.Looks.{after-report}
use Rattle.bng_term.proofs.lifetime.Lifetime.report.Goals as goal

pub returns-clause-history : goal.returns-clause-history
returns-clause-history c life lease events at =
    ap (λ t. reported t c.args.now) (c.self.view_is ∙ at) ∙ sym (after-report life lease c.args.now events)

use Rattle.std.proofs.Common.{sym, ap, ◌∙◌}
use Rattle.bng_term.specs.Lifetimes.{changed}
use Rattle.bng_term.proofs.Looks.{after-change}
use Rattle.bng_term.proofs.lifetime.Lifetime.change.Goals as goal

pub returns-clause-history : goal.returns-clause-history
returns-clause-history c life lease events at =
    ap (λ t. changed t c.args.limits) (c.self.view_is ∙ at) ∙ sym (after-change life lease c.args.limits events)

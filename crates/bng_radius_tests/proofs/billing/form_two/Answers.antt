use Rattle.std.proofs.Common.{◌≡◌, ap, ◌∙◌}
use Rattle.bng_acct.specs.declared.facts.StatusType.TheVariants.{Start, Stop}
use Rattle.bng_acct.specs.Spool.{open_of}
use Rattle.bng_radius_tests.proofs.billing.form_two.Goals as goal

pub form-stop-requires-clause-once : goal.form-stop-requires-clause-once
form-stop-requires-clause-once g c =
    let t = c.facts-term.result.term in
    c.form-start.ensures t Stop (λ same (e : Stop ≡ Start). absurd cc) ∙ ap (open_of t Stop) c.requires

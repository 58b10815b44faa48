use Rattle.std.proofs.Common.{◌≡◌, ap, ◌∙◌}
use Rattle.bng_acct.specs.declared.facts.StatusType.TheVariants.{Start, Interim, Stop}
use Rattle.bng_acct.specs.Spool.{open_of}
use Rattle.bng_radius_tests.proofs.billing.form_three.Goals as goal

pub form-interim-requires-clause-once : goal.form-interim-requires-clause-once
form-interim-requires-clause-once g c =
    let t = c.facts-term.result.term in
    c.form-start.ensures t Interim (λ same (e : Interim ≡ Start). absurd cc) ∙ ap (open_of t Interim) c.requires

pub form-stop-requires-clause-once : goal.form-stop-requires-clause-once
form-stop-requires-clause-once g c =
    let t = c.facts-term.result.term in
    c.form-interim.ensures t Stop (λ same (e : Stop ≡ Interim). absurd cc)
    ∙ c.form-start.ensures t Stop (λ same (e : Stop ≡ Start). absurd cc)
    ∙ ap (open_of t Stop) c.requires

use Rattle.std.proofs.Common.{◌≡◌, ap, ◌∙◌, arith}
use Rattle.bng_base.specs.declared.circuit.TermId.{TermId}
use Rattle.bng_acct.specs.declared.facts.StatusType.TheVariants.{Start}
use Rattle.bng_acct.specs.Spool.{open_of}
use Rattle.bng_radius_tests.proofs.billing.form_starts.Goals as goal

pub loop-n-init : goal.loop-n-init
loop-n-init g c = λ t past. ap (open_of t Start) c.requires

pub loop-n-preserved : goal.loop-n-preserved
loop-n-preserved g c = λ t past.
    c.form.ensures t Start (λ e s. absurd (omega (arith, past, ap (λ (u : TermId). u.serial) e ∙ c.facts.ensures.term)))
    ∙ c.loop-n.invariant t (omega (arith, past))

pub form-requires : goal.form-requires
form-requires g c = record { classes = c.facts.ensures.classes; once = c.loop-n.invariant c.facts.result.term (omega (arith, c.facts.ensures.term)) }

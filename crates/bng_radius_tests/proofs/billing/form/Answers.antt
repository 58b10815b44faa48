use Rattle.std.proofs.Common.{sym, ◌∙◌}
use Rattle.bng_acct.specs.declared.facts.StatusType.TheVariants.{Start, Interim, Stop}
use Rattle.bng_acct.proofs.Marks.{forms_marks}
use Rattle.bng_radius_tests.proofs.billing.form.Goals as goal

pub returns-in-Start : goal.returns-in-Start
returns-in-Start g c =
    let marks = forms_marks c.args.billing.now.spool.held c.start.new.self.spool.held c.args.facts.now.term Start c.start.result.0 c.start.ensures.formed.holds in
    λ t s apart. marks.misses t s (λ e same. apart e (same ∙ sym c.in-Start.is))

pub returns-in-Interim : goal.returns-in-Interim
returns-in-Interim g c =
    let marks = forms_marks c.args.billing.now.spool.held c.interim.new.self.spool.held c.args.facts.now.term Interim c.interim.result.0 c.interim.ensures.formed.holds in
    λ t s apart. marks.misses t s (λ e same. apart e (same ∙ sym c.in-Interim.is))

pub returns-in-Stop : goal.returns-in-Stop
returns-in-Stop g c =
    let marks = forms_marks c.args.billing.now.spool.held c.stop.new.self.spool.held c.args.facts.now.term Stop c.stop.result.0 c.stop.ensures.formed.holds in
    λ t s apart. marks.misses t s (λ e same. apart e (same ∙ sym c.in-Stop.is))

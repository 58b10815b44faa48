use Rattle.std.proofs.Common.{◌≡◌, ℕ, List, ◌++◌, length, ap, subst, ◌∙◌}
use Rattle.bng_acct.specs.Spool.{unacked_stops}
use Rattle.bng_desk.specs.Model.{Desk}
use Rattle.bng_desk.specs.Report.{stop_lines}
use Rattle.bng_desk.proofs.desk.Desk.unanswered.Goals as goal

pub returns-in-Ok-extend_from_slice-clause-appended : goal.returns-in-Ok-extend_from_slice-clause-appended
returns-in-Ok-extend_from_slice-clause-appended c =
    let out = c.args.out.now.items in
    subst (λ (d : Desk). (c.extend_from_slice.new.self.items ≡ out ++ stop_lines d.billing.spool.rules.wall (unacked_stops d.billing.spool)) × (c.unacked_stops.result ≡ length (unacked_stops d.billing.spool))) c.self.view_is (
      c.in-Ok-extend_from_slice.ensures.items ∙ ap (λ (octets : List ℕ). out ++ octets) (c.as_slice.ensures.value ∙ c.in-Ok.ensures),
      c.unacked_stops.ensures,
    )

use Rattle.std.proofs.Common.{◌≡◌, Some, ap, ◌∙◌}
use Rattle.bng_rad_client.specs.declared.pending.Pending.{Pending}
use Rattle.bng_rad_client.proofs.sends.give_up.Goals as goal

pub returns-clause-some : goal.returns-clause-some
returns-clause-some c =
    let oldest = c.in_ok-due.ensures in
    let same : Some c.in-Some.request ≡ Some oldest.request = c.in-Some.ensures.request ∙ oldest.is in
    let one : c.in-Some.request ≡ oldest.request = cc in
    record {
      due = c.in_ok-due.due;
      oldest = oldest;
      owner_is = ap (λ (r : Pending). r.owner) one;
      places = c.take.ensures.places;
      last = c.take.ensures.last;
    }

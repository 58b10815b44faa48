use Rattle.std.proofs.Common.{rules, ◌≡◌, Option, List, None, set, subst, sym, ap, ◌∙◌}
use Rattle.bng_rad_client.specs.declared.pending.Pending.{Pending}
use Rattle.bng_rad_client.specs.Table.{request_of}
use Rattle.bng_rad_client.specs.Requests.{IsKept}
use Rattle.bng_rad_client.proofs.Places.{left_none}
use Rattle.bng_rad_client.proofs.requests.Requests.take.Goals as goal

pub invariant_of-self : goal.invariant_of-self
invariant_of-self c =
    let places = c.self.inside.places.items in
    let free : request_of places c.from.result ≡ None = search rules in
    subst (λ (ps : List (Option Pending)). IsKept ps c.self.inside.first c.self.inside.out)
    (sym (ap (set places c.from.result) c.take.ensures.after ∙ left_none places c.from.result free)) c.self.invariant

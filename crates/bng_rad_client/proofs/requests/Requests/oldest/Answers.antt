use Rattle.std.proofs.Common.{subst, sym}
use Rattle.bng_rad_client.specs.declared.due.Sought.{Sought}
use Rattle.bng_rad_client.specs.declared.due.Sought.TheVariants.{Any}
use Rattle.bng_rad_client.specs.Table.{Table}
use Rattle.bng_rad_client.specs.Due.{is_sought, IsOldestOrNone}
use Rattle.bng_rad_client.proofs.requests.Requests.oldest.Goals as goal

pub returns-in-Any-default : goal.returns-in-Any-default
returns-in-Any-default c =
    subst (λ (s : Sought). IsOldestOrNone (is_sought s c.args.now) c.args.self.now.places 256 c.self.inside.first) (sym c.in-Any-default.is-0)
    (subst (λ (t : Table). IsOldestOrNone (is_sought Any 0) t.places 256 c.self.inside.first) c.self.view_is c.self.invariant.oldest)

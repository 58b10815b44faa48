use Rattle.std.proofs.Common.{[], ◌∷◌, refl, subst}
use Rattle.bng_steps.specs.Protocol.{key_of}
use Rattle.bng_desk.specs.Taking.{Accounts, BooksStarts}
use Rattle.bng_desk.proofs.Booking.{starts_one}
use Rattle.bng_desk.proofs.accounts.Accounts.start.Goals as goal

pub returns : goal.returns
returns c terms says =
    let inside = c.self.inside in
    let k = key_of c.args.term in
    let was : Accounts = record { lines = inside.lines.items; stopped = inside.stopped; billing = inside.billing; reports = inside.reports.items } in
    let now : Accounts = record { lines = inside.lines.items; stopped = inside.stopped; billing = c.start-number.new.self; reports = inside.reports.items } in
    subst (λ (a : Accounts). BooksStarts terms c.args.moment c.args.wall (k ∷ []) a now) c.self.view_is
    (starts_one terms c.args.moment c.args.wall c.start-number.result.0 k _ _ was now (record { term = refl; circuit = refl; address = refl; says = says; carried = c.empty.ensures }) refl c.start-number.ensures refl refl refl)

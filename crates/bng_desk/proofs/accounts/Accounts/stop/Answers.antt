use Rattle.std.proofs.Common.{[], ◌∷◌, refl, subst}
use Rattle.bng_steps.specs.Protocol.{stop_of}
use Rattle.bng_desk.specs.Taking.{Accounts, BooksStops}
use Rattle.bng_desk.proofs.Booking.{books_one}
use Rattle.bng_desk.proofs.accounts.Accounts.stop.Goals as goal

pub returns : goal.returns
returns c terms says =
    let inside = c.self.inside in
    let s = stop_of c.args.ended in
    let was : Accounts = record { lines = inside.lines.items; stopped = inside.stopped; billing = inside.billing; reports = inside.reports.items } in
    let now : Accounts = record { lines = c.add_carried.new.lines.items; stopped = c.with_stop-self-inside.result; billing = c.stop-number.new.self; reports = inside.reports.items } in
    subst (λ (a : Accounts). BooksStops terms c.args.moment c.args.wall (s ∷ []) a now) c.self.view_is
    (books_one terms c.args.moment c.args.wall c.stop-number.result.0 s _ _ was now (record { term = refl; circuit = refl; address = refl; says = says; carried = refl }) refl c.stop-number.ensures c.add_carried.ensures c.with_stop-self-inside.ensures refl)

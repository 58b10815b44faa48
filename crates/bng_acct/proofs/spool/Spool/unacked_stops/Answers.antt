use Rattle.std.proofs.Common.{length, ap, sym, ◌∙◌}
use Rattle.bng_acct.specs.Spool.{State, unacked_stops}
use Rattle.bng_acct.proofs.Listing.{stops_listed}
use Rattle.bng_acct.proofs.spool.Spool.unacked_stops.Goals as goal

pub returns : goal.returns
returns c =
    c.self.invariant.stops_are ∙ sym (stops_listed c.self.inside.queue.sheets c.self.inside.roster.held c.self.invariant.agree) ∙ ap (λ (s : State). length (unacked_stops s)) c.self.view_is

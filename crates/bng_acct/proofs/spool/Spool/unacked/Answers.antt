use Rattle.std.proofs.Common.{ℕ, Option, ap, sym, ◌∙◌}
use Rattle.std.specs.Prelude.{slice_get, option_and_then}
use Rattle.bng_acct.specs.Spool.{State, unacked_stops, facts_at}
use Rattle.bng_acct.proofs.Listing.{stop_listed}
use Rattle.bng_acct.proofs.spool.Spool.unacked.Goals as goal

pub returns-in-Some : goal.returns-in-Some
returns-in-Some c =
    let held = c.self.inside.roster.held in
    let sheets = c.self.inside.queue.sheets in
    let at = c.in-Some.ensures in
    c.facts_of.ensures ∙ ap (λ (o : Option ℕ). option_and_then (facts_at sheets) o) at ∙ sym (stop_listed sheets held c.self.invariant.agree c.args.at) ∙ ap (λ (s : State). slice_get (unacked_stops s) c.args.at) c.self.view_is

pub returns-in-None : goal.returns-in-None
returns-in-None c =
    let held = c.self.inside.roster.held in
    let sheets = c.self.inside.queue.sheets in
    let at = c.in-None.ensures in
    ap (λ (o : Option ℕ). option_and_then (facts_at sheets) o) at ∙ sym (stop_listed sheets held c.self.invariant.agree c.args.at) ∙ ap (λ (s : State). slice_get (unacked_stops s) c.args.at) c.self.view_is

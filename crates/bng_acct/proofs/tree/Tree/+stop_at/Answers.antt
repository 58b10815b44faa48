use Rattle.std.proofs.Common.{◌-◌, List, sym, ap, ◌∙◌, arith}
use Rattle.std.specs.Prelude.{slice_get, filter_map}
use Rattle.bng_acct.specs.declared.held.Held.{Held}
use Rattle.bng_acct.proofs.Forks.{at_fork}
use Rattle.bng_acct.proofs.StopPlaces.{stop_of, place_left, place_here, place_right, place_past}
use Rattle.bng_acct.proofs.tree.Tree.+stop_at.Goals as goal

pub returns-then-at-earlier : goal.returns-then-at-earlier
returns-then-at-earlier t c =
    let f = at_fork c.self.view_is c.self.invariant c.in-Fork.is in
    let earlier = rw c.deref.ensures at c.stops-earlier.ensures in
    let place = place_left c.in-Fork.before.value.held c.in-Fork.here c.in-Fork.after.value.held c.args.at (omega (arith, earlier, c.if-at-earlier.true)) in
    rw c.deref-then-at-earlier.ensures at c.stop_at.ensures ∙ sym (ap (λ (hs : List Held). slice_get (filter_map stop_of hs) c.args.at) f.held ∙ place)

pub returns-then-at-earlier-2 : goal.returns-then-at-earlier-2
returns-then-at-earlier-2 t c =
    let f = at_fork c.self.view_is c.self.invariant c.in-Fork.is in
    let earlier = rw c.deref.ensures at c.stops-earlier.ensures in
    let place = place_here c.in-Fork.before.value.held c.in-Fork.here c.in-Fork.after.value.held c.args.at c.in-Some.number c.in-Some.is (omega (arith, earlier, c.if-at-earlier-2.true)) in
    sym (ap (λ (hs : List Held). slice_get (filter_map stop_of hs) c.args.at) f.held ∙ place)

pub returns-else-at-earlier-2 : goal.returns-else-at-earlier-2
returns-else-at-earlier-2 t c =
    let f = at_fork c.self.view_is c.self.invariant c.in-Fork.is in
    let earlier = rw c.deref.ensures at c.stops-earlier.ensures in
    let place = place_right c.in-Fork.before.value.held c.in-Fork.here c.in-Fork.after.value.held c.args.at c.in-Some.number (c.args.at - c.stops-earlier.result - 1) c.in-Some.is (grind (arith, earlier, c.if-at-earlier.false, c.if-at-earlier-2.false)) in
    rw c.deref-else-at-earlier-2.ensures at c.stop_at-else-at-earlier-2.ensures ∙ sym (ap (λ (hs : List Held). slice_get (filter_map stop_of hs) c.args.at) f.held ∙ place)

pub returns-in-None : goal.returns-in-None
returns-in-None t c =
    let f = at_fork c.self.view_is c.self.invariant c.in-Fork.is in
    let earlier = rw c.deref.ensures at c.stops-earlier.ensures in
    let place = place_past c.in-Fork.before.value.held c.in-Fork.here c.in-Fork.after.value.held c.args.at (c.args.at - c.stops-earlier.result) c.in-None.is (omega (arith, earlier, c.if-at-earlier.false)) in
    rw c.deref-in-None.ensures at c.stop_at-in-None.ensures ∙ sym (ap (λ (hs : List Held). slice_get (filter_map stop_of hs) c.args.at) f.held ∙ place)

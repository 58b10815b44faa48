use Rattle.std.proofs.Common.{◌≡◌, Some, Option, sym, ap, ◌∙◌}
use Rattle.std.specs.Prelude.{position}
use Rattle.bng_l2tp_wire.specs.View.{control_of}
use Rattle.bng_lns.specs.declared.place.TunnelPlace.{TunnelPlace}
use Rattle.bng_lns.specs.Places.{is_named}
use Rattle.bng_lns.specs.Tunnels.{TunnelsState, heard_by}
use Rattle.bng_lns.proofs.Finding.{found_at, found_within, found_passes, none_found}
use Rattle.bng_lns.proofs.Hearing.{no_tunnel_taken}
use Rattle.bng_lns.proofs.Numbered.{named_stands}
use Rattle.bng_lns.proofs.tunnels.Tunnels.hear_named.Goals as goal
use Rattle.bng_lns.proofs.tunnels.Tunnels.hear_named.Goals.{After-hear_at}

-- where the tunnel stands
at_place : (c : After-hear_at) → position (is_named c.args.came.now.from c.args.message.now.tunnel) c.args.self.now.places ≡ Some c.in-Some.at
at_place c =
    let test = is_named c.args.came.now.from c.args.message.now.tunnel in
    ap (λ (t : TunnelsState). position test t.places) (sym c.self.view_is) ∙ ap (position test) (sym c.as_slice.ensures.value) ∙ sym c.in-Some.ensures

pub hear_at-requires-clause-within : goal.hear_at-requires-clause-within
hear_at-requires-clause-within c =
    let test = is_named c.args.came.now.from c.args.message.now.tunnel in
    found_within test c.args.self.now.places c.in-Some.at (ap (λ (t : TunnelsState). position test t.places) (sym c.self.view_is) ∙ ap (position test) (sym c.as_slice.ensures.value) ∙ sym c.in-Some.ensures)

pub hear_at-requires-clause-stands : goal.hear_at-requires-clause-stands
hear_at-requires-clause-stands c = λ p e.
    let test = is_named c.args.came.now.from c.args.message.now.tunnel in
    let at = ap (λ (t : TunnelsState). position test t.places) (sym c.self.view_is) ∙ ap (position test) (sym c.as_slice.ensures.value) ∙ sym c.in-Some.ensures in
    named_stands c.args.came.now.from c.args.message.now.tunnel p (found_passes test c.args.self.now.places c.in-Some.at p at e)

pub returns-in-Some-clause-answer : goal.returns-in-Some-clause-answer
returns-in-Some-clause-answer c =
    let found = found_at (is_named c.args.came.now.from c.args.message.now.tunnel) c.args.self.now.places c.in-Some.at (at_place (goal.at.returns-in-Some-clause-answer c).After-hear_at) in
    c.hear_at.ensures.answer ∙ ap (λ (o : Option TunnelPlace). (heard_by c.args.self.now c.args.came.now (control_of c.args.message.now) o).answer) (sym found)

pub returns-in-Some-clause-after : goal.returns-in-Some-clause-after
returns-in-Some-clause-after c =
    let found = found_at (is_named c.args.came.now.from c.args.message.now.tunnel) c.args.self.now.places c.in-Some.at (at_place (goal.at.returns-in-Some-clause-after c).After-hear_at) in
    c.hear_at.ensures.after ∙ ap (λ (o : Option TunnelPlace). (heard_by c.args.self.now c.args.came.now (control_of c.args.message.now) o).after) (sym found)

pub returns-in-None-clause-answer : goal.returns-in-None-clause-answer
returns-in-None-clause-answer c =
    let test = is_named c.args.came.now.from c.args.message.now.tunnel in
    let none = none_found test c.args.self.now.places (ap (λ (t : TunnelsState). position test t.places) (sym c.self.view_is) ∙ ap (position test) (sym c.as_slice.ensures.value) ∙ sym c.in-None.ensures) in
    ap (λ (o : Option TunnelPlace). (heard_by c.args.self.now c.args.came.now (control_of c.args.message.now) o).answer) (sym none)

pub returns-in-None-clause-after : goal.returns-in-None-clause-after
returns-in-None-clause-after c =
    let test = is_named c.args.came.now.from c.args.message.now.tunnel in
    let none = none_found test c.args.self.now.places (ap (λ (t : TunnelsState). position test t.places) (sym c.self.view_is) ∙ ap (position test) (sym c.as_slice.ensures.value) ∙ sym c.in-None.ensures) in
    ap (λ (o : Option TunnelPlace). (heard_by c.args.self.now c.args.came.now (control_of c.args.message.now) o).after) (sym none)

pub returns-in-None-clause-taken : goal.returns-in-None-clause-taken
returns-in-None-clause-taken c = no_tunnel_taken c.args.self.now

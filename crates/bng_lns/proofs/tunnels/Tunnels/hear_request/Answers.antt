use Rattle.std.proofs.Common.{◌≡◌, ℕ, Option, sym, ap, ◌∙◌}
use Rattle.std.specs.Prelude.{position}
use Rattle.std.specs.Option.{option_copied}
use Rattle.bng_l2tp_wire.specs.View.{control_of}
use Rattle.bng_lns.specs.Places.{is_again}
use Rattle.bng_lns.specs.Tunnels.{TunnelsState, Outcome}
use Rattle.bng_lns.proofs.Finding.{found_within, found_passes}
use Rattle.bng_lns.proofs.Hearing.{requested_again, requested_new}
use Rattle.bng_lns.proofs.Numbered.{again_stands}
use Rattle.bng_lns.proofs.tunnels.Tunnels.hear_request.Goals as goal
use Rattle.bng_lns.proofs.tunnels.Tunnels.hear_request.Goals.{After-again_place}

-- where a place is looked for
looked : (c : After-again_place) → position (is_again c.args.came.now.from c.assigned_by-id.result) c.args.self.now.places ≡ c.again_place.result
looked c =
    let test = is_again c.args.came.now.from c.assigned_by-id.result in
    ap (λ (t : TunnelsState). position test t.places) (sym c.self.view_is) ∙ ap (position test) (sym c.as_slice.ensures.value) ∙ sym c.again_place.ensures

pub hear_at-requires-clause-within : goal.hear_at-requires-clause-within
hear_at-requires-clause-within c =
    let d = (goal.at.hear_at-requires-clause-within c).After-again_place in
    found_within (is_again c.args.came.now.from c.assigned_by-id.result) c.args.self.now.places c.in-Some.at (looked d ∙ c.in-Some.is)

pub hear_at-requires-clause-stands : goal.hear_at-requires-clause-stands
hear_at-requires-clause-stands c = λ p e.
    let d = (goal.at.hear_at-requires-clause-stands c).After-again_place in
    let test = is_again c.args.came.now.from c.assigned_by-id.result in
    again_stands c.args.came.now.from c.assigned_by-id.result p (found_passes test c.args.self.now.places c.in-Some.at p (looked d ∙ c.in-Some.is) e)

pub returns-in-Some-clause-answer : goal.returns-in-Some-clause-answer
returns-in-Some-clause-answer c =
    let d = (goal.at.returns-in-Some-clause-answer c).After-again_place in
    let at = ap (λ (id : Option ℕ). position (is_again c.args.came.now.from id) c.args.self.now.places) (sym c.assigned_by-id.ensures) ∙ looked d ∙ c.in-Some.is in
    c.hear_at.ensures.answer
    ∙ ap (λ (o : Outcome). o.answer) (requested_again c.args.name.now.items (option_copied c.args.lac) c.args.self.now c.args.came.now (control_of c.args.message.now) c.in-Some.at at)

pub returns-in-Some-clause-after : goal.returns-in-Some-clause-after
returns-in-Some-clause-after c =
    let d = (goal.at.returns-in-Some-clause-after c).After-again_place in
    let at = ap (λ (id : Option ℕ). position (is_again c.args.came.now.from id) c.args.self.now.places) (sym c.assigned_by-id.ensures) ∙ looked d ∙ c.in-Some.is in
    c.hear_at.ensures.after
    ∙ ap (λ (o : Outcome). o.after) (requested_again c.args.name.now.items (option_copied c.args.lac) c.args.self.now c.args.came.now (control_of c.args.message.now) c.in-Some.at at)

pub returns-in-None-clause-answer : goal.returns-in-None-clause-answer
returns-in-None-clause-answer c =
    let d = (goal.at.returns-in-None-clause-answer c).After-again_place in
    let none = ap (λ (id : Option ℕ). position (is_again c.args.came.now.from id) c.args.self.now.places) (sym c.assigned_by-id.ensures) ∙ looked d ∙ c.in-None.is in
    c.begin.ensures.answer
    ∙ ap (λ (o : Outcome). o.answer) (requested_new c.args.name.now.items (option_copied c.args.lac) c.args.self.now c.args.came.now (control_of c.args.message.now) none)

pub returns-in-None-clause-after : goal.returns-in-None-clause-after
returns-in-None-clause-after c =
    let d = (goal.at.returns-in-None-clause-after c).After-again_place in
    let none = ap (λ (id : Option ℕ). position (is_again c.args.came.now.from id) c.args.self.now.places) (sym c.assigned_by-id.ensures) ∙ looked d ∙ c.in-None.is in
    c.begin.ensures.after
    ∙ ap (λ (o : Outcome). o.after) (requested_new c.args.name.now.items (option_copied c.args.lac) c.args.self.now c.args.came.now (control_of c.args.message.now) none)

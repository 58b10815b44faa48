use Rattle.std.proofs.Common.{◌≡◌, None, subst}
use Rattle.bng_rad_client.specs.declared.due.Sought.TheVariants.{Endless}
use Rattle.bng_rad_client.specs.Due.{is_sought, OneBelow}
use Rattle.bng_lane.specs.Due.{GivesUp, NoneToResend, due_count}
use Rattle.bng_lane.specs.State.{LaneState, places_of}
use Rattle.bng_lane.proofs.Clients.{none_again, none_due, none_too_often, one_due}
use Rattle.bng_lane.proofs.questions.Questions.is_due.Goals as goal

pub returns-clause-again : goal.returns-clause-again
returns-clause-again c = λ early.
    let before : LaneState = record { client = c.self.inside.client; nas = c.self.inside.nas; sent = c.self.inside.sent } in
    subst (λ (l : LaneState). NoneToResend l c.args.now) c.self.view_is (none_again before c.args.now (c.is_due.ensures.no early).0)

pub returns-clause-done : goal.returns-clause-done
returns-clause-done c = λ early.
    let before : LaneState = record { client = c.self.inside.client; nas = c.self.inside.nas; sent = c.self.inside.sent } in
    subst (λ (l : LaneState). due_count l c.args.now ≡ 0) c.self.view_is
    (none_due before c.args.now c.self.invariant.size (none_again before c.args.now (c.is_due.ensures.no early).0))

pub returns-clause-given_up : goal.returns-clause-given_up
returns-clause-given_up c = λ early.
    let before : LaneState = record { client = c.self.inside.client; nas = c.self.inside.nas; sent = c.self.inside.sent } in
    subst (λ (l : LaneState). GivesUp l c.args.now None l) c.self.view_is (none_too_often before c.args.now (c.is_due.ensures.no early).0)

pub returns-clause-due : goal.returns-clause-due
returns-clause-due c = λ late.
    subst (λ (l : LaneState). OneBelow (is_sought Endless c.args.now) (places_of l) 256) c.self.view_is
    (one_due c.self.inside.client c.args.now c.self.invariant (c.is_due.ensures.yes late))

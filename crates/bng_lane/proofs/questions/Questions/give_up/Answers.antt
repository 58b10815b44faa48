use Rattle.std.proofs.Common.{Option, Some, true, sym, ap, subst, ◌∙◌}
use Rattle.bng_rad_client.specs.DueRequests.{IsDue}
use Rattle.bng_verdict.specs.declared.question.QuestionNo.{QuestionNo}
use Rattle.bng_lane.specs.State.{LaneState}
use Rattle.bng_lane.specs.Due.{GivesUp}
use Rattle.bng_lane.proofs.Clients.{timed_out, none_given_up}
use Rattle.bng_lane.proofs.questions.Questions.give_up.Goals as goal
use Rattle.bng_lane.proofs.questions.Questions.give_up.Goals.{in-Some-TimedOut, in-None}

pub returns : goal.returns
returns c =
    let before : LaneState = record { client = c.self.inside.client; nas = c.self.inside.nas; sent = c.self.inside.sent } in
    let after : LaneState = record before { client = c.due.new.self } in
    subst (λ (l : LaneState). GivesUp l c.args.now c.match-due.result after) c.self.view_is
    (elim c.match-due.branch [
      | in-Some-TimedOut w ↦
          let told = subst (IsDue c.self.inside.client c.due.new.self c.args.now true) (w.in-Some-TimedOut.is ∙ ap Some w.in-Some-TimedOut.field-0-is) c.due.ensures.due in
          timed_out before c.due.new.self
          (record { table = told.1; auth_server = c.due.ensures.auth_server; acct_server = c.due.ensures.acct_server; secret = c.due.ensures.secret; tries = c.due.ensures.tries })
          c.args.now w.in-Some-TimedOut.owner c.match-due.result c.self.invariant.questions told.0 (w.result-is ∙ w.question_of.ensures)
      | in-None w ↦
          subst (λ (q : Option QuestionNo). GivesUp before c.args.now q after) (sym w.result-is)
          (none_given_up before c.due.new.self c.args.now w.in-None.ensures.due w.in-None.ensures.kept)
    ])

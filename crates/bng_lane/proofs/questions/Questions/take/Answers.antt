use Rattle.std.proofs.Common.{◌≡◌, Option, true, sym, ap, subst, ◌∙◌}
use Rattle.std.specs.Prelude.{slice_index}
use Rattle.bng_verdict.specs.declared.question.QuestionNo.{QuestionNo}
use Rattle.bng_lane.specs.State.{LaneState, flag_of}
use Rattle.bng_lane.specs.Replies.{Takes}
use Rattle.bng_lane.proofs.Clients.{matched, none_answered}
use Rattle.bng_lane.proofs.questions.Questions.take.Goals as goal
use Rattle.bng_lane.proofs.questions.Questions.take.Goals.{in-Matched, in-Ignored}

pub returns : goal.returns
returns c =
    let before : LaneState = record { client = c.self.inside.client; nas = c.self.inside.nas; sent = c.self.inside.sent } in
    let after : LaneState = record before { client = c.reply.new.self } in
    let octets = c.args.octets.now in
    subst (λ (l : LaneState). Takes l c.args.from octets c.match-reply.result after) c.self.view_is
    (elim c.match-reply.branch [
      | in-Matched w ↦
          let sent : flag_of before (slice_index octets 1) ≡ true = ap (flag_of before) (sym c.from.ensures) ∙ c.if-not-self-from.false in
          matched before c.reply.new.self c.reply.ensures.others c.args.from octets w.in-Matched.owner c.match-reply.result c.self.invariant.questions sent w.in-Matched.ensures.answer w.in-Matched.ensures.matched
          c.reply.ensures.last (w.result-is ∙ w.question_of.ensures)
      | in-Ignored w ↦
          subst (λ (q : Option QuestionNo). Takes before c.args.from octets q after) (sym w.result-is)
          (none_answered before c.reply.new.self c.args.from octets w.in-Ignored.field-0 w.in-Ignored.ensures.answer w.in-Ignored.ensures.ignored)
    ])

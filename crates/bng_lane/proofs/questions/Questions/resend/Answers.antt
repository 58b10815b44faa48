use Rattle.std.proofs.Common.{◌≡◌, Option, Some, false, ℕ, ◌+◌, sym, ap, subst, ◌∙◌}
use Rattle.std.specs.Prelude.{IfSome, IfNone, OnSome}
use Rattle.bng_base.specs.Packet.{Packet as Bytes}
use Rattle.bng_rad_client.specs.DueRequests.{IsDue}
use Rattle.bng_lane.specs.Invariant.{IsLane}
use Rattle.bng_lane.specs.State.{LaneState}
use Rattle.bng_lane.specs.Due.{IsResentBy, due_count}
use Rattle.bng_lane.proofs.Clients.{resent_auth, resent_lane, resends, fewer_due, none_due}
use Rattle.bng_lane.proofs.questions.Questions.resend.Goals as goal
use Rattle.bng_lane.proofs.questions.Questions.resend.Goals.{in-Some-Resend, in-None}

pub invariant_of-self : goal.invariant_of-self
invariant_of-self c = elim c.match-due.branch [
  | in-Some-Resend w ↦
      let told = subst (IsDue c.self.inside.client c.due.new.self c.args.now false) (w.in-Some-Resend.is ∙ ap Some w.in-Some-Resend.field-0-is) c.due.ensures.due in
      let sent = resent_auth c.self.inside.client c.due.new.self c.args.now w.in-Some-Resend.field-0-0 w.in-Some-Resend.id w.in-Some-Resend.frame c.self.invariant told in
      resent_lane c.self.inside.client c.due.new.self c.args.now w.in-Some-Resend.id w.in-Some-Resend.frame c.self.invariant sent
  | in-None w ↦ subst IsLane (sym w.in-None.ensures.kept) c.self.invariant
]

pub returns-clause-again : goal.returns-clause-again
returns-clause-again c =
    let before : LaneState = record { client = c.self.inside.client; nas = c.self.inside.nas; sent = c.self.inside.sent } in
    let after : LaneState = record before { client = c.due.new.self } in
    let told = λ (l : LaneState) (r : Option (ℕ × Bytes)). IfSome r (λ x. IsResentBy l c.args.now x.0 x.1.payload after) in
    subst (λ (l : LaneState). told l c.match-due.result) c.self.view_is
    (elim c.match-due.branch [
      | in-Some-Resend w ↦
          let told_due = subst (IsDue c.self.inside.client c.due.new.self c.args.now false) (w.in-Some-Resend.is ∙ ap Some w.in-Some-Resend.field-0-is) c.due.ensures.due in
          let sent = resent_auth c.self.inside.client c.due.new.self c.args.now w.in-Some-Resend.field-0-0 w.in-Some-Resend.id w.in-Some-Resend.frame c.self.invariant told_due in
          subst (told before) (sym w.result-is)
          (resends before c.due.new.self c.args.now w.in-Some-Resend.id w.in-Some-Resend.frame
          (record { table = sent.others; auth_server = c.due.ensures.auth_server; acct_server = c.due.ensures.acct_server; secret = c.due.ensures.secret; tries = c.due.ensures.tries }) sent)
      | in-None w ↦ subst (told before) (sym w.result-is) tt
    ])

pub returns-clause-fewer : goal.returns-clause-fewer
returns-clause-fewer c =
    let before : LaneState = record { client = c.self.inside.client; nas = c.self.inside.nas; sent = c.self.inside.sent } in
    let after : LaneState = record before { client = c.due.new.self } in
    let told = λ (l : LaneState) (r : Option (ℕ × Bytes)). OnSome r (due_count after c.args.now + 1 ≡ due_count l c.args.now) in
    subst (λ (l : LaneState). told l c.match-due.result) c.self.view_is
    (elim c.match-due.branch [
      | in-Some-Resend w ↦
          let told_due = subst (IsDue c.self.inside.client c.due.new.self c.args.now false) (w.in-Some-Resend.is ∙ ap Some w.in-Some-Resend.field-0-is) c.due.ensures.due in
          let sent = resent_auth c.self.inside.client c.due.new.self c.args.now w.in-Some-Resend.field-0-0 w.in-Some-Resend.id w.in-Some-Resend.frame c.self.invariant told_due in
          subst (told before) (sym w.result-is)
          (fewer_due before c.due.new.self c.args.now w.in-Some-Resend.id w.in-Some-Resend.frame
          (record { table = sent.others; auth_server = c.due.ensures.auth_server; acct_server = c.due.ensures.acct_server; secret = c.due.ensures.secret; tries = c.due.ensures.tries }) sent)
      | in-None w ↦ subst (told before) (sym w.result-is) tt
    ])

pub returns-clause-done : goal.returns-clause-done
returns-clause-done c =
    let before : LaneState = record { client = c.self.inside.client; nas = c.self.inside.nas; sent = c.self.inside.sent } in
    let told = λ (l : LaneState) (r : Option (ℕ × Bytes)). IfNone r (due_count l c.args.now ≡ 0) in
    subst (λ (l : LaneState). told l c.match-due.result) c.self.view_is
    (elim c.match-due.branch [
      | in-Some-Resend w ↦ subst (told before) (sym w.result-is) tt
      | in-None w ↦ subst (told before) (sym w.result-is) (none_due before c.args.now c.self.invariant.size w.in-None.ensures.due.0)
    ])

use Rattle.std.proofs.Common.{◌<◌, ℕ, sym, subst, ◌∙◌, arith}
use Rattle.bng_l2tp_wire.specs.View.{control_of, said}
use Rattle.bng_l2tp_tunnel.specs.Steps.{message_step}
use Rattle.bng_lns.specs.Places.{number_at, is_free, place_of, IsPlace}
use Rattle.bng_lns.specs.Tunnels.{free_place}
use Rattle.bng_lns.proofs.Finding.{position_or_len-le-length}
use Rattle.bng_lns.proofs.Hearing.{made_answer, made_after, unmade_answer, unmade_after, made_place, made_taken, nothing_handed, sent_spelled}
use Rattle.bng_lns.proofs.tunnels.Tunnels.make.Goals as goal
use Rattle.bng_lns.proofs.tunnels.Tunnels.make.Goals.{After-number-number}

pub returns-then-not-is_standing-clause-answer : goal.returns-then-not-is_standing-clause-answer
returns-then-not-is_standing-clause-answer c =
    let came = c.args.came.now in
    unmade_answer c.args.self.now came.moment (message_step c.args.tunnel (control_of c.args.message.now) came.random came.moment) c.on_message-step.new.self c.on_message-step.ensures.after (said c.on_message-step.result)
    (sym c.is_standing.ensures ∙ c.if-not-is_standing.true) c.on_message-step.ensures.said

pub returns-then-not-is_standing-clause-after : goal.returns-then-not-is_standing-clause-after
returns-then-not-is_standing-clause-after c =
    let came = c.args.came.now in
    unmade_after c.args.self.now came.moment (message_step c.args.tunnel (control_of c.args.message.now) came.random came.moment) c.on_message-step.new.self c.on_message-step.ensures.after
    (sym c.is_standing.ensures ∙ c.if-not-is_standing.true)

pub returns-then-not-is_standing-clause-taken : goal.returns-then-not-is_standing-clause-taken
returns-then-not-is_standing-clause-taken c =
    made_taken c.args.self.now 0 (said c.on_message-step.result) (sent_spelled _ _ _ (c.on_message-step.ensures.sound c.requires.sound).outs) c.on_message-step.ensures.few
    (c.on_message-step.ensures.call ∙ nothing_handed c.args.tunnel (control_of c.args.message.now) c.requires.new)

-- the place that the tunnel takes
taken_place : (c : After-number-number) → (free_place c.args.came.now.moment c.args.self.now < 16) × IsPlace (number_at c.args.self.now.shard (free_place c.args.came.now.moment c.args.self.now)) (place_of c.args.came.now.moment c.on_message-step.new.self)
taken_place c =
    made_place c.args.self.now c.args.came.now.moment c.args.tunnel c.on_message-step.new.self c.on_message-step.ensures.lasting c.requires.number (c.on_message-step.ensures.sound c.requires.sound).tunnel
    (sym c.is_standing.ensures ∙ c.if-not-is_standing.false)

pub put-requires-clause-within : goal.put-requires-clause-within
put-requires-clause-within c = omega (arith, (taken_place (goal.at.put-requires-clause-within c).After-number-number).0, c.requires.at)

pub put-requires-clause-next : goal.put-requires-clause-next
put-requires-clause-next c = omega (arith, c.requires.at, position_or_len-le-length (is_free c.args.came.now.moment) c.args.self.now.places)

pub put-requires-clause-place : goal.put-requires-clause-place
put-requires-clause-place c =
    let came = c.args.came.now in
    subst (λ (k : ℕ). IsPlace (number_at c.args.self.now.shard k) (place_of came.moment c.on_message-step.new.self)) (sym c.requires.at) (taken_place (goal.at.put-requires-clause-place c).After-number-number).1

pub returns-clause-answer : goal.returns-clause-answer
returns-clause-answer c =
    let came = c.args.came.now in
    made_answer c.args.self.now came.moment (message_step c.args.tunnel (control_of c.args.message.now) came.random came.moment) c.on_message-step.new.self c.on_message-step.ensures.after c.number-number.result.0 (said c.on_message-step.result)
    (sym c.is_standing.ensures ∙ c.if-not-is_standing.false) c.number-number.ensures c.on_message-step.ensures.said

pub returns-clause-after : goal.returns-clause-after
returns-clause-after c =
    let came = c.args.came.now in
    made_after c.args.self.now came.moment (message_step c.args.tunnel (control_of c.args.message.now) came.random came.moment) c.on_message-step.new.self c.on_message-step.ensures.after c.args.at c.put.new.self
    (sym c.is_standing.ensures ∙ c.if-not-is_standing.false) c.requires.at c.put.ensures

pub returns-clause-taken : goal.returns-clause-taken
returns-clause-taken c =
    made_taken c.put.new.self c.number-number.result.0 (said c.on_message-step.result) (sent_spelled _ _ _ (c.on_message-step.ensures.sound c.requires.sound).outs) c.on_message-step.ensures.few
    (c.on_message-step.ensures.call ∙ nothing_handed c.args.tunnel (control_of c.args.message.now) c.requires.new)

use Rattle.std.proofs.Common.{length}
use Rattle.bng_steps.specs.Questions.{waiting}
use Rattle.bng_desk.specs.Intake.{AsksSome}
use Rattle.bng_desk.proofs.requests.ask_waiting.Given as goal

-- what was asked so far
abbrev pub invariant-loop-handed : goal.invariant-loop-handed
invariant-loop-handed g l =
    let told = g.P.Plant.told in
    AsksSome l.now l.shard.number l.shard.state.slots (told l.fn.plant) (told l.plant) l.fn.lane l.lane l.fn.handed l.handed l.fn.draws l.draws

-- how many questions still wait
abbrev pub decreases-loop-handed : goal.decreases-loop-handed
decreases-loop-handed g l = length (waiting l.shard.state.slots l.handed)

use Rattle.std.proofs.Common.{◌+◌, ◌*◌, ap, sym, subst, arith}
use Rattle.bng_steps.specs.Serving.{AreOfShard, AreOwn}
use Rattle.bng_steps.specs.State.{State}
use Rattle.bng_steps.proofs.Owing.{first_is}
use Rattle.bng_steps.proofs.served.Served.survey.Goals as goal

pub returns-then-at-now : goal.returns-then-at-now
returns-then-at-now g c =
    let number = c.shard.ensures.number in
    let same = ap (λ (s : State). s.sessions.shard) c.self.view_is in
    let own = subst (λ (s : State). AreOwn s.sessions) c.self.view_is c.self.invariant.own in
    let of_shard = subst (λ (s : State). AreOfShard s.sessions) c.self.view_is c.self.invariant.of_shard in
    first_is c.args.self.now c.args.reports.now.last c.args.now c.loop-n.until c.loop-n.n c.in-Some.at (c.shard.result * 1024 + 1) own of_shard (omega (arith, number, same))
    (sym c.in-Some.ensures.moment) c.if-at-now.true c.in-Some.ensures.spaced c.loop-n.invariant.later

use Rattle.bng_desk.proofs.RequestLaws.{Asked}
use Rattle.bng_desk.proofs.requests.send_requests.Given as goal

-- the shards so far were asked
abbrev pub invariant-loop-place : goal.invariant-loop-place
invariant-loop-place g l =
    let told = g.P.Plant.told in
    Asked l.now l.place l.shards (told l.initial.plant) (told l.plant) l.initial.lane l.lane l.initial.handed l.handed l.initial.draws l.draws

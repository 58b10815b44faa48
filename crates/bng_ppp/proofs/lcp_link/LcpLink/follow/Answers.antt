use Rattle.std.proofs.Common.{ap, arith, rules}
use Rattle.std.specs.List.{sum_by}
use Rattle.bng_ppp.specs.Room.{sends}
use Rattle.bng_ppp.proofs.RoomLaws.{few_sent}
use Rattle.bng_ppp.proofs.lcp_link.LcpLink.follow.Goals as goal

pub perform-requires-clause-room : goal.perform-requires-clause-room
perform-requires-clause-room c =
    let sent = few_sent _ _ _ _ _ c.step-actions.ensures.steps in
    omega (arith, sent, ap (sum_by sends) c.as_slice.ensures.value, c.requires.room)

pub returns-clause-few : goal.returns-clause-few
returns-clause-few c =
    let sent = few_sent _ _ _ _ _ c.step-actions.ensures.steps in
    omega (arith, sent, ap (sum_by sends) c.as_slice.ensures.value, c.perform.ensures.few)

pub returns-clause-follows : goal.returns-clause-follows
returns-clause-follows c = record { actions = c.step-actions.result.items; machine = c.step-actions.new.self; steps = search rules; done = search rules }

use Rattle.bng_lane.proofs.Clients.{opened_lane}
use Rattle.bng_lane.proofs.questions.Questions.open.Goals as goal

pub invariant_of-result : goal.invariant_of-result
invariant_of-result c = opened_lane c.in-Ok.client _ _ _ _ c.in-Ok.ensures

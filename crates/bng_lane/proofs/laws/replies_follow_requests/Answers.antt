use Rattle.bng_lane.proofs.Replying.{replies_of}
use Rattle.bng_lane.proofs.laws.replies_follow_requests.Goals as goal

pub returns : goal.returns
returns c = replies_of

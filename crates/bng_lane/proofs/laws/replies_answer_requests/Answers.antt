use Rattle.bng_lane.proofs.Answering.{reply_for}
use Rattle.bng_lane.proofs.laws.replies_answer_requests.Goals as goal

pub returns : goal.returns
returns c = reply_for

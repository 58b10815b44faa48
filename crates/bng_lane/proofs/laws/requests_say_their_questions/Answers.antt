use Rattle.bng_lane.proofs.Answering.{says_question}
use Rattle.bng_lane.proofs.laws.requests_say_their_questions.Goals as goal

pub returns : goal.returns
returns c = says_question

-- What holds of the client of a lane.
use Rattle.std.specs.Prelude.{◌≡◌, ◌≢◌, ℕ, List, Option, Some, None, length}
use Rattle.bng_rad_client.specs.declared.pending.Pending.{Pending}
use Rattle.bng_rad_client.specs.declared.rules.Owner.{Owner}
use Rattle.bng_rad_client.specs.declared.rules.Owner.TheVariants.{Ask, Record}
use Rattle.bng_rad_client.specs.Table.{request_of}
use Rattle.bng_rad_client.specs.State.{State, empty}
use Rattle.bng_verdict.specs.declared.question.QuestionNo.{QuestionNo}

-- the number of the question whose request this is
abbrev pub question_of : Owner → Option QuestionNo
question_of (Ask session ask) = Some (record { session = session; ask = ask })
question_of (Record number) = None

-- each request that is out is of a question
abbrev pub AreQuestions : List (Option Pending) → Type 0
AreQuestions places = (id : ℕ) (r : Pending) → request_of places id ≡ Some r → question_of r.owner ≢ None

-- 256 identifiers, whose requests are of questions, and no accounting request
pub record IsLane (c : State) : Type 0 where
  pub size : length c.auth.places ≡ 256
  pub questions : AreQuestions c.auth.places
  pub acct : c.acct ≡ empty

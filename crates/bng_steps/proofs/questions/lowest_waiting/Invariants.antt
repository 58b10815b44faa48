use Rattle.std.proofs.Common.{take}
use Rattle.bng_steps.specs.Questions.{IsLowestWaiting}
use Rattle.bng_steps.proofs.questions.lowest_waiting.Given as goal

abbrev pub invariant-loop-number : goal.invariant-loop-number
invariant-loop-number g l = IsLowestWaiting (g.S.Store.sessions l.sessions) l.handed (take l.number-index l.asking) l.lowest

use Rattle.bng_steps_tests.specs.Plain.{IsBest}
use Rattle.bng_steps_tests.proofs.plain.PlainStore.earliest.Given as goal

abbrev pub invariant-loop-n : goal.invariant-loop-n
invariant-loop-n l = IsBest l.self l.n l.best

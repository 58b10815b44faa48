use Rattle.std.proofs.Common.{inl, inr}
use Rattle.bng_gate.proofs.exercise.exercise.Goals as goal

pub returns-in-Ok-print : goal.returns-in-Ok-print
returns-in-Ok-print g c = inl (c.in-Ok.desk, c.in-Ok.ensures.played, inl (c.in-Ok-print.ensures.printed, c.conclude.ensures))

pub returns : goal.returns
returns g c = inl (c.in-Ok.desk, c.in-Ok.ensures.played, inr (c.in-Err-print.refusal, c.in-Err-print.ensures.refused, c.refuse-in-Err-print.ensures))

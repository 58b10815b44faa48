use Rattle.std.proofs.Common.{[], ◌∷◌}
use Rattle.bng_engine.proofs.Walks.{Walked}
use Rattle.bng_steps.specs.Protocol.{stop_of}
use Rattle.bng_desk.proofs.Lines.{IsAfter}
use Rattle.bng_desk.proofs.accounts.add_carried.Given as goal

abbrev pub invariant-loop-line : goal.invariant-loop-line
invariant-loop-line l = Walked (IsAfter (stop_of l.ended ∷ [])) l.initial.line-items l.line-items l.line-index

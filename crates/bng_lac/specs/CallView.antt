-- What a call tells, without where it lies in memory.
use Rattle.std.specs.Prelude.{option_map}
use Rattle.bng_base.specs.Packet.{Packet}
use Rattle.bng_lac.specs.declared.outcome.CallOutcome.{CallOutcome}
use Rattle.bng_lac.specs.CallSteps.{CallStep}

abbrev pub call_step_of : CallOutcome → CallStep
call_step_of t = record { answer = option_map (λ (f : Packet). f.payload) t.answer; after = t.after; opened = t.opened; ended = t.ended }

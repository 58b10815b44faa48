-- What a trace tells that keeps nothing.
use Rattle.std.specs.Prelude.{None}
use Rattle.bng_base.specs.Told.{TraceTold}
use Rattle.bng_plant.specs.declared.no_trace.NoTrace.{NoTrace}

abbrev pub tells_nothing : NoTrace → TraceTold
tells_nothing _ = record { rounds = None; faults = 0 }

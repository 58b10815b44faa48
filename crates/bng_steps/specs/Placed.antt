-- The ways of sessions are at access ports that are there.
use Rattle.std.specs.Prelude.{◌≡◌, ℕ, Some}
use Rattle.bng_base.specs.declared.settings.AccessPort.{AccessPort}
use Rattle.bng_steps.specs.declared.rules.Rules.{Rules}
use Rattle.bng_steps.specs.declared.session.Session.{Session}
use Rattle.bng_steps.specs.declared.way.Way.{Way}
use Rattle.bng_steps.specs.declared.way.Way.TheVariants.{Port, Call}
use Rattle.bng_steps.specs.State.{port_at}
use Rattle.bng_sessions.specs.Sessions.{Sessions, value_at}

-- a way at an access port is at one that is there
abbrev pub IsPlaced : Rules → Way → Type 0
IsPlaced r (Port number mac) = (port : AccessPort) × (port_at r.access number ≡ Some port)
IsPlaced r (Call c) = Unit {0}

-- so is that of each session
abbrev pub ArePlaced : Rules → Sessions Session → Type 0
ArePlaced r sessions = (n : ℕ) (x : Session) → value_at sessions n ≡ Some x → IsPlaced r x.way

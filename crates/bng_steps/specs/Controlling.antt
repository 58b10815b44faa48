-- What a frame without an IPv4 packet is to do.
use Rattle.std.specs.Prelude.{◌≡◌, ◌&&◌, Option, Some, None, IsTrue, IsFalse}
use Rattle.bng_steps.specs.declared.frames.Reception.{Reception}
use Rattle.bng_steps.specs.declared.frames.Reception.TheVariants.{Unknown, Ignored, Heard}
use Rattle.bng_steps.specs.declared.session.Session.{Session}
use Rattle.bng_steps.specs.State.{is_connected, lives_in}

-- of the session that it names
abbrev pub IsReception : Option Session → Reception → Type 0
IsReception None c = c ≡ Unknown
IsReception (Some x) Unknown = ⊥
IsReception (Some x) Ignored = IsFalse (lives_in x.service)
IsReception (Some x) Heard = IsTrue (lives_in x.service)

-- of the call that it is for
abbrev pub IsControlOver : Option Session → Reception → Type 0
IsControlOver None c = c ≡ Unknown
IsControlOver (Some x) Unknown = ⊥
IsControlOver (Some x) Ignored = IsFalse (lives_in x.service && is_connected x.way)
IsControlOver (Some x) Heard = IsTrue (lives_in x.service && is_connected x.way)

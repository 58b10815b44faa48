-- What a look for Interims that are due finds.
use Rattle.std.specs.Prelude.{ℕ, ◌≡◌, ◌≢◌, ◌+◌, ◌<◌, ◌≤◌, true, false, List, Option, Some, IfSome}
use Rattle.bng_base.specs.declared.address.SessionNo.{SessionNo}
use Rattle.bng_sessions.specs.Sessions.{value_at}
use Rattle.bng_steps.specs.declared.served.Survey.{Survey}
use Rattle.bng_steps.specs.declared.served.Survey.TheVariants.{Owes, None as Nothing}
use Rattle.bng_steps.specs.declared.session.Lease.{Lease}
use Rattle.bng_steps.specs.declared.session.Session.{Session}
use Rattle.bng_steps.specs.Interims.{interim_at, interim_in, owes}
use Rattle.bng_steps.specs.Passing.{place_in}
use Rattle.bng_steps.specs.State.{State}

-- once an Interim of a live term is taken, the next one is due a minute later at the earliest (RFC 2869 section 5.16)
abbrev pub AreSpaced : Option Lease → Type 0
AreSpaced lease = (now : ℕ) → IfSome (interim_in now lease) (λ at. now + 60000 ≤ at)

-- The session with this number owes an Interim, and none with a lower number does. Once it is taken the session owes none for a minute.
-- Each other session has a place of its own.
pub record IsFirstOwing (s : State) (last : List ℕ) (now : ℕ) (number : SessionNo) : Type 0 where
  pub session : Session
  pub found : value_at s.sessions number.0 ≡ Some session
  pub own : session.number ≡ number
  pub due : owes last now session ≡ true
  pub first : (m : ℕ) (x : Session) → m < number.0 → value_at s.sessions m ≡ Some x → owes last now x ≡ false
  pub spaced : AreSpaced session.lease
  pub apart : (m : ℕ) (x : Session) → m ≢ number.0 → value_at s.sessions m ≡ Some x → place_in x.number ≢ place_in number

-- No Interim is due, nor any before that moment, which is at most a minute away.
pub record NoneOwes (s : State) (last : List ℕ) (now until : ℕ) : Type 0 where
  pub soon : until ≤ now + 60000
  pub later : (n : ℕ) (x : Session) → value_at s.sessions n ≡ Some x → IfSome (interim_at last x) (λ at. (now < at) × (until ≤ at))

abbrev pub IsSurveyed : State → List ℕ → ℕ → Survey → Type 0
IsSurveyed s last now (Owes number) = IsFirstOwing s last now number
IsSurveyed s last now (Nothing until) = NoneOwes s last now until

-- What a shard keeps of its sessions, beside them.
use Rattle.std.specs.Prelude.{◌≡◌, is_some, not, ℕ, ◌<◌, ◌^◌, ◌&&◌, Bool, false, true, List, Option, Some, IsSome, length}
use Rattle.std.specs.List.{All}
use Rattle.bng_base.specs.declared.address.Ip4.{Ip4}
use Rattle.bng_base.specs.declared.address.SessionNo.{SessionNo}
use Rattle.bng_sessions.specs.Sessions.{Sessions, IsNumberOf, read_at, value_at}
use Rattle.bng_ppp.specs.Phases.{KeepsPhases}
use Rattle.bng_steps.specs.declared.meters.Meters.{Meters}
use Rattle.bng_steps.specs.declared.session.Lease.{Lease}
use Rattle.bng_steps.specs.declared.session.Service.{Service}
use Rattle.bng_steps.specs.declared.session.Service.TheVariants.{Provisioned, Linked}
use Rattle.bng_steps.specs.declared.session.Session.{Session}
use Rattle.bng_steps.specs.Listing.{AreListed, passing_in}
use Rattle.bng_steps.specs.Questions.{open_of}
use Rattle.bng_steps.specs.Indexed.{address_of}
use Rattle.bng_steps.specs.State.{is_port, leaves}

-- each session has the number under which it stands
abbrev pub AreOwn : Sessions Session → Type 0
AreOwn sessions = (n : ℕ) (x : Session) → value_at sessions n ≡ Some x → x.number.0 ≡ n

-- each used number is the shard's
abbrev pub AreOfShard : Sessions Session → Type 0
AreOfShard sessions = (n : ℕ) → IsSome (value_at sessions n) → IsNumberOf sessions.shard n

-- no two sessions have the same address
abbrev pub AreApart : Sessions Session → Type 0
AreApart sessions = (m n : ℕ) (a : Ip4) → read_at address_of sessions m ≡ Some a → read_at address_of sessions n ≡ Some a → m ≡ n

-- the numbers of the sessions that have ended
abbrev pub AreLeaving : Sessions Session → List SessionNo → Type 0
AreLeaving sessions numbers = AreListed leaves sessions numbers

-- the session has an open question
abbrev pub asks : Session → Bool
asks x = is_some (open_of x)

-- the numbers of those that have one
abbrev pub AreAsking : Sessions Session → List SessionNo → Type 0
AreAsking sessions numbers = AreListed asks sessions numbers

-- the session is young: discovery made it, so that it is at an access port, it has not ended, and its LCP was never Opened
abbrev pub is_young_in : Service → Bool
is_young_in (Provisioned l) = false
is_young_in (Linked m) = not m.ended && not m.link.lcp.kept.was_opened

abbrev pub is_young : Session → Bool
is_young x = is_port x.way && is_young_in x.service

-- the numbers of the young ones
abbrev pub AreYoung : Sessions Session → List SessionNo → Type 0
AreYoung sessions numbers = AreListed is_young sessions numbers

-- A link keeps its phases (RFC 1661 section 3.2), and a session with a lease has a link on which a term is live. A provisioned circuit has
-- no link.
abbrev pub KeepsLease : Service → Option Lease → Type 0
KeepsLease (Provisioned over) lease = Unit {0}
KeepsLease (Linked m) lease = KeepsPhases m.link × (IsSome lease → m.link.live ≡ true)

abbrev pub AreLeased : Sessions Session → Type 0
AreLeased sessions = (n : ℕ) (x : Session) → value_at sessions n ≡ Some x → KeepsLease x.service x.lease

-- The numbers of the sessions that have ended, of those that have an open question, and of the young ones, for which there is room. And
-- of each number a moment, in milliseconds, and meters.
pub record Keeps (unique : Bool) (sessions : Sessions Session) (the_leaving : List SessionNo) (room_of_leaving : ℕ) (the_asking : List SessionNo) (room_of_asking : ℕ) (the_young : List SessionNo) (room_of_young : ℕ) (the_passed : List ℕ) (the_meters : List Meters) : Type 0 where
  pub own : AreOwn sessions
  pub of_shard : AreOfShard sessions
  pub apart : unique ≡ true → AreApart sessions
  pub leased : AreLeased sessions
  pub leaving : AreLeaving sessions the_leaving
  pub counted : passing_in leaves sessions ≡ length the_leaving
  pub room : 1022 < room_of_leaving
  pub asking : AreAsking sessions the_asking
  pub asking_counted : passing_in asks sessions ≡ length the_asking
  pub asking_room : 1022 < room_of_asking
  pub young : AreYoung sessions the_young
  pub young_counted : passing_in is_young sessions ≡ length the_young
  pub young_room : 1022 < room_of_young
  pub passed : length the_passed ≡ 1024
  pub passed_low : All (λ moment. moment < 2 ^ 60) the_passed
  pub metered : length the_meters ≡ 1024

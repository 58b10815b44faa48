-- When packets of sessions passed, and when a session's term is over.
use Rattle.std.specs.Prelude.{ℕ, max, ◌%◌, List, Option, Some, None, slice_index_or, slice_set}
use Rattle.bng_base.specs.declared.address.SessionNo.{SessionNo}
use Rattle.bng_term.specs.Lifetimes.{cause_of, seen}
use Rattle.bng_steps.specs.declared.meters.Meters.{Meters}
use Rattle.bng_steps.specs.declared.session.Lease.{Lease}
use Rattle.bng_steps.specs.declared.session.Session.{Session}
use Rattle.bng_steps.specs.State.{State}

-- where a session number stands in the list of a shard
abbrev pub place_in : SessionNo → ℕ
place_in n = n.0 % 1024

-- the moment, in milliseconds, at which a packet of the session with this number passed last
abbrev pub passed_at : List ℕ → SessionNo → ℕ
passed_at passed n = slice_index_or passed (place_in n) 0

-- a packet of that session passed at this moment, and left it these meters
abbrev pub with_passed : State → SessionNo → ℕ → Meters → State
with_passed s n moment ms = record s { passed = slice_set s.passed (place_in n) moment; meters = slice_set s.meters (place_in n) ms }

-- the moment of a term's last packet, or of its lease where none passed since; that of its session is this one
abbrev pub last_passed : ℕ → Lease → ℕ
last_passed at l = max l.life.began at

-- The cause with which a live term is over at this moment, where one of its timeouts is over: Idle Timeout, else Session Timeout (RFC 2866
-- section 5.10).
abbrev pub cause_at : ℕ → Option Lease → ℕ → Option ℕ
cause_at at None now = None
cause_at at (Some l) now = cause_of l.life.limits l.life.began (last_passed at l) now

-- the term goes on, and it is known when its last packet passed
abbrev pub looked_on : ℕ → Option Lease → Option Lease
looked_on at None = None
looked_on at (Some l) = Some (record l { life = seen l.life (last_passed at l) })

-- so does that of a session, if it has one
abbrev pub looked : ℕ → Session → Session
looked at x = record x { lease = looked_on at x.lease }

-- a session that has no term any longer
abbrev pub lapsed : Session → Session
lapsed x = record x { lease = None }

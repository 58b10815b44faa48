-- Interims (RFC 2869 section 5.16): which live terms owe one, and which were taken.
use Rattle.std.specs.Prelude.{ℕ, ◌≡◌, ◌≤◌, ◌==◌, max, Bool, false, true, nat_le, List, [], ◌∷◌, Option, Some, None, IfSome, filter, filter_map, find, replicate, slice_index_or, slice_set, if◌then◌else◌}
use Rattle.std.specs.Option.{option_map_or, option_and_then}
use Rattle.bng_base.specs.declared.address.SessionNo.{SessionNo}
use Rattle.bng_engine.specs.Views.{Row, ShardView}
use Rattle.bng_sessions.specs.Listed.{values}
use Rattle.bng_sessions.specs.Sessions.{value_at}
use Rattle.bng_term.specs.Lifetimes.{interim_of, reported}
use Rattle.bng_steps.specs.declared.session.Lease.{Lease}
use Rattle.bng_steps.specs.declared.session.Session.{Session}
use Rattle.bng_steps.specs.declared.term.ReportedTerm.{ReportedTerm}
use Rattle.bng_steps.specs.Passing.{place_in}
use Rattle.bng_steps.specs.Protocol.{ShardState, key_of}
use Rattle.bng_steps.specs.State.{State}

-- By session number the moment, in milliseconds, at which its last Interim was taken, 0 before the first; and a moment before which none
-- is due.
pub record Reports : Type 0 where
  pub last : List ℕ
  pub next : ℕ

-- none was taken, and one may be due at any moment
abbrev pub no_reports : Reports
no_reports = record { last = replicate 1024 0; next = 0 }

-- the moment at which the last Interim of the session with this number was taken
abbrev pub reported_at : List ℕ → SessionNo → ℕ
reported_at last n = slice_index_or last (place_in n) 0

-- an Interim of that session is taken at this moment
abbrev pub with_report : List ℕ → ℕ → SessionNo → List ℕ
with_report last now n = slice_set last (place_in n) now

-- The moment from which on an Interim of a live term is due, if its Access-Accept had an Acct-Interim-Interval: so many seconds after its
-- last one, or after its lease where there was none since. The last one of its session was at this moment.
abbrev pub interim_in : ℕ → Option Lease → Option ℕ
interim_in at None = None
interim_in at (Some l) = interim_of (reported l.life (max l.life.began at))

abbrev pub interim_at : List ℕ → Session → Option ℕ
interim_at last x = interim_in (reported_at last x.number) x.lease

-- it is due
abbrev pub owes : List ℕ → ℕ → Session → Bool
owes last now x = option_map_or (λ at. nat_le at now) (interim_at last x) false

-- At each of these moments one asks whether the session owes an Interim, and takes it where it does: the moments of those that are taken.
abbrev pub taken : List ℕ → Session → List ℕ → List ℕ
taken last x [] = []
taken last x (m ∷ ms) = if owes last m x then m ∷ taken (with_report last m x.number) x ms else taken last x ms

-- what is kept of the live term of a session: its key, and what it carried so far
abbrev pub row_in : List Row → Session → Option Row
row_in rows x = option_and_then (λ (l : Lease). find (λ (r : Row). r.key.term.serial == l.serial) rows) x.lease

-- the live terms whose Interims are due, by rising session number
abbrev pub owed : {E : Type 0} → ShardView ShardState E → List ℕ → ℕ → List Row
owed v last now = filter_map (row_in v.rows) (filter (owes last now) (values v.state.slots.sessions))

-- no Interim is due before the moment that is kept for that
abbrev pub AwaitsInterims : State → Reports → Type 0
AwaitsInterims s r = (n : ℕ) (x : Session) → value_at s.sessions n ≡ Some x → IfSome (interim_at r.last x) (λ at. r.next ≤ at)

abbrev pub are_none : {X : Type 0} → List X → Bool
are_none [] = true
are_none (x ∷ xs) = false

-- what is told of a term
abbrev pub row_told : ReportedTerm → Row
row_told t = record { key = key_of t.term; carried = t.carried }

-- How long a term lasts, and when its Interims are due.
use Rattle.std.specs.Prelude.{ℕ, ◌+◌, ◌*◌, ◌≤◌, Bool, ◌&&◌, nat_lt, nat_le, min, max, if◌then◌else◌, Option, Some, None}
use Rattle.std.specs.Option.{ForSome, option_map}
use Rattle.bng_term.specs.declared.limits.Limits.{Limits}

-- a term's limits, the moment of its lease, that up to which it knows of packets, and that of its last Interim (of the lease
-- where there was none), in milliseconds
pub record Life : Type 0 where
  pub limits : Limits
  pub began : ℕ
  pub idle_from : ℕ
  pub last_report : ℕ

-- The Acct-Interim-Interval, if there is one, is at least 60 seconds. (RFC 2869 section 5.16)
abbrev pub HasAllowedInterval : Limits → Type 0
HasAllowedInterval limits = ForSome limits.interim (λ seconds. 60 ≤ seconds)

-- a term at its lease
abbrev pub leased : Limits → ℕ → Life
leased limits now = record { limits = limits; began = now; idle_from = now; last_report = now }

-- the moment so many seconds after one
abbrev pub seconds_after : ℕ → ℕ → ℕ
seconds_after seconds since = since + seconds * 1000

-- a timeout of so many seconds is set, which 0 is not, and they have passed since that moment
abbrev pub is_over : ℕ → ℕ → ℕ → Bool
is_over seconds since now = nat_lt 0 seconds && nat_le (seconds_after seconds since) now

-- The value of Acct-Terminate-Cause with which a term ends: 4, Idle Timeout, "the maximum number of consecutive seconds of idle
-- connection" (RFC 2865 section 5.28), else 5, Session Timeout, "the maximum number of seconds of service" (section 5.27).
-- It is of a term that began at that moment, whose last packet passed at that moment, and of now.
abbrev pub cause_of : Limits → ℕ → ℕ → ℕ → Option ℕ
cause_of limits began passed now =
    if is_over limits.idle_timeout passed now then Some 4
    else (if is_over limits.session_timeout began now then Some 5 else None)

-- the first moment at which a timeout is over
abbrev pub over_at : ℕ → ℕ → Option ℕ
over_at seconds since = if nat_lt 0 seconds then Some (seconds_after seconds since) else None

-- the earliest of two moments that may be there
abbrev pub earliest : Option ℕ → Option ℕ → Option ℕ
earliest None b = b
earliest (Some a) None = Some a
earliest (Some a) (Some b) = Some (min a b)

-- the first moment at which a term has to be looked at, as far as it knows
abbrev pub deadline_of : Life → Option ℕ
deadline_of t = earliest (over_at t.limits.idle_timeout t.idle_from) (over_at t.limits.session_timeout t.began)

-- a term that goes on knows of packets up to this moment
abbrev pub seen : Life → ℕ → Life
seen t passed = record t { idle_from = max t.idle_from passed }

-- the moment from which on an Interim is due (RFC 2869 section 5.16)
abbrev pub interim_of : Life → Option ℕ
interim_of t = option_map (λ seconds. seconds_after seconds t.last_report) t.limits.interim

-- an Interim is taken
abbrev pub reported : Life → ℕ → Life
reported t now = record t { last_report = now }

-- the limits change, as by a CoA-Request: what they count from stays
abbrev pub changed : Life → Limits → Life
changed t limits = record t { limits = limits }

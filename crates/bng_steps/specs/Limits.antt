-- How long a term may last.
use Rattle.std.specs.Prelude.{None}
use Rattle.bng_grant.specs.Grants.{Gift}
use Rattle.bng_term.specs.declared.limits.Limits.{Limits}

-- for ever, and without Interims
abbrev pub no_limits : Limits
no_limits = record { session_timeout = 0; idle_timeout = 0; interim = None }

-- as an Access-Accept says that gives this: Session-Timeout and Idle-Timeout (RFC 2865 sections 5.27 and 5.28), Acct-Interim-Interval (RFC
-- 2869 section 5.16)
abbrev pub limits_of : Gift → Limits
limits_of g = record { session_timeout = g.session_timeout; idle_timeout = g.idle_timeout; interim = g.interim }

-- How a link's counters and timers go on, by RFC 1661 section 4.6.
use Rattle.std.specs.Prelude.{ℕ, ◌+◌, nat_lt, if◌then◌else◌, ◌*◌, ◌==◌, Option, Some, None}

-- one Configure-Nak more without a Configure-Ack between: after the fifth (Max-Failure, RFC 1661 section 4.6) none is counted
abbrev pub more_naks : ℕ → ℕ
more_naks naks = if nat_lt naks 5 then naks + 1 else naks

-- the moment of the next Echo-Request, where they go out every so many seconds
abbrev pub echo_after : ℕ → ℕ → Option ℕ
echo_after echo now = if echo == 0 then None else Some (now + 1000 * echo)

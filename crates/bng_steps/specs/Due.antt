-- The earliest deadline of a shard.
use Rattle.std.specs.Prelude.{ℕ, None, fold, Option}
use Rattle.bng_lns.specs.Timed.{due_of as tunnels_due}
use Rattle.bng_ppp.specs.LcpRelation.{earliest}
use Rattle.bng_sessions.specs.Listed.{values}
use Rattle.bng_steps.specs.State.{State}
use Rattle.bng_steps.specs.Timers.{deadline_of}

-- that of its sessions, if one has a deadline
abbrev pub sessions_due : State → Option ℕ
sessions_due s = fold (λ a x. earliest a (deadline_of x)) None (values s.sessions)

-- that of its sessions and its tunnels, if one of them has a deadline
abbrev pub due_of : State → Option ℕ
due_of s = earliest (sessions_due s) (tunnels_due s.tunnels)

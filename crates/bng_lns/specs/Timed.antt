-- What a tunnel does by itself: its timers, and its end at the gateway's stop (RFC 2661 sections 5.5, 5.8 and 6.4). Moments are in milliseconds.
use Rattle.std.specs.Prelude.{ℕ, nat_lt, if◌then◌else◌, slice_get, Option, Some, None}
use Rattle.bng_base.specs.declared.address.Peer.{Peer}
use Rattle.bng_l2tp_reliable.specs.Timers.{never}
use Rattle.bng_l2tp_tunnel.specs.Steps.{Step, stands, due_step, stop_step}
use Rattle.bng_l2tp_tunnel.specs.TunnelState.{TunnelState}
use Rattle.bng_l2tp_wire.specs.View.{Said, said}
use Rattle.bng_lns.specs.declared.place.TunnelPlace.{TunnelPlace}
use Rattle.bng_lns.specs.declared.outcome.TunnelOutcome.{TunnelOutcome}
use Rattle.bng_lns.specs.Places.{earliest, is_due}
use Rattle.bng_lns.specs.Tunnels.{TunnelsState, with_step}

-- a tunnel's number, its peer, and what it says
pub record Telling : Type 0 where
  pub number : ℕ
  pub peer : Peer
  pub said : Said

abbrev pub telling_of : TunnelOutcome → Telling
telling_of t = record { number = t.number.0; peer = t.peer; said = said t.step }

pub record Timed : Type 0 where
  pub told : Option Telling
  pub after : TunnelsState

abbrev pub untold : TunnelsState → Timed
untold t = record { told = None; after = t }

abbrev pub told_by : ℕ → TunnelsState → TunnelState → Step → Timed
told_by now t tunnel step =
    record { told = Some (record { number = tunnel.number; peer = tunnel.peer; said = step.said }); after = with_step now t tunnel.number step.after }

abbrev pub reminded_in : ℕ → TunnelsState → Option TunnelPlace → Timed
reminded_in now t None = untold t
reminded_in now t (Some p) = if is_due now p then told_by now t p.tunnel (due_step p.tunnel now) else untold t

-- the tunnel at a place does what its timers ask for, where they ask for something
abbrev pub reminded : ℕ → TunnelsState → ℕ → Timed
reminded now t k = reminded_in now t (slice_get t.places k)

abbrev pub stopped_in : ℕ → TunnelsState → Option TunnelPlace → Timed
stopped_in now t None = untold t
stopped_in now t (Some p) = if stands p.tunnel.phase then told_by now t p.tunnel (stop_step p.tunnel now) else untold t

-- the tunnel at a place tells its peer that the gateway shuts down, where it stands
abbrev pub stopped : ℕ → TunnelsState → ℕ → Timed
stopped now t k = stopped_in now t (slice_get t.places k)

-- the first moment at which a tunnel is due
abbrev pub due_of : TunnelsState → Option ℕ
due_of t = if nat_lt (earliest t.places) never then Some (earliest t.places) else None

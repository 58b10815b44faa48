-- What the tunnels of a shard tell by themselves, one after another (RFC 2661).
use Rattle.std.specs.Prelude.{◌≡◌, ℕ, zero, suc, ◌+◌, List, [], ◌++◌, Option, Some, None}
use Rattle.std.specs.List.{AllByRecursion}
use Rattle.bng_base.specs.declared.item.At.{At}
use Rattle.bng_base.specs.declared.item.OutRecord.{OutRecord}
use Rattle.bng_l2tp_tunnel.specs.Sound.{IsSpelled}
use Rattle.bng_lns.specs.Timed.{Telling, Timed}
use Rattle.bng_lns.specs.Tunnels.{TunnelsState}
use Rattle.bng_steps.specs.Deed.{tunnel_outs}

-- how many tunnels a shard has at most
abbrev pub tunnels_most : ℕ
tunnels_most = 16

-- what a tunnel tells are control messages to its peer
abbrev pub TellsIts : At → Option Telling → List OutRecord → Type 0
TellsIts a None outs = outs ≡ []
TellsIts a (Some t) outs = AllByRecursion IsSpelled t.said.outs × (outs ≡ tunnel_outs a t.peer t.said.outs)

-- one tunnel told what it had to tell
pub record Tells (a : At) (timed : Timed) (outs : List OutRecord) (t : TunnelsState) : Type 0 where
  pub tells : TellsIts a timed.told outs
  pub after : t ≡ timed.after

-- The tunnels at so many places, from this one on, do this one after another, at this moment.
abbrev pub TellInTurn : (ℕ → TunnelsState → ℕ → Timed) → ℕ → ℕ → At → ℕ → TunnelsState → List OutRecord → TunnelsState → Type 0
TellInTurn act zero k a now t outs t' = (outs ≡ []) × (t' ≡ t)
TellInTurn act (suc n) k a now t outs t' =
    (first : List OutRecord) × (next : TunnelsState) × Tells a (act now t k) first next
    × (rest : List OutRecord) × TellInTurn act n (k + 1) a now next rest t' × (outs ≡ first ++ rest)

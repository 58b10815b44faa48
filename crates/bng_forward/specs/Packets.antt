-- The packets at the front of octets, and the packet that is sent on.
use Rattle.std.specs.Prelude.{◌≡◌, ℕ, ◌-◌, ◌≤◌, true, List, Option, None, Some, Result, Ok, Err, length, take}
use Rattle.bng_base.specs.declared.fate.DropCause.{DropCause}
use Rattle.bng_base.specs.declared.fate.Fate.{Fate}
use Rattle.bng_base.specs.declared.fate.Fate.TheVariants.{Forwarded, Dropped}
use Rattle.bng_base.specs.declared.ipv4.Ipv4.{Ipv4}
use Rattle.bng_base.specs.Ipv4Grammar.{IsIpv4}
use Rattle.bng_base.specs.Lowering.{lowered}
use Rattle.bng_forward.specs.declared.view.TermView.{TermView}
use Rattle.bng_forward.specs.Meters.{IsRed}

-- the octets begin with an IPv4 packet of which this holds
abbrev pub HasPacket : (Ipv4 → Type 0) → List ℕ → Type 0
HasPacket Holds octets = (v : Ipv4) × IsIpv4 v octets × Holds v

-- the octets begin with no IPv4 packet
abbrev pub HasNoPacket : List ℕ → Type 0
HasNoPacket octets = (v : Ipv4) → ¬ (IsIpv4 v octets)

-- What forwarding makes of a packet that says v: the TTL is one lower, the header checksum is computed again, and the
-- octets past its total length are gone.
pub record IsPassedOn (v : Ipv4) (before after : List ℕ) : Type 0 where
  pub was : IsIpv4 v before
  pub octets : after ≡ take v.total (lowered before)
  pub is : IsIpv4 (record v { ttl = v.ttl - 1 }) after
  pub whole : length after ≡ v.total

-- A packet that says v may pass to the core at this moment: its circuit has a session with an open term, whose lease is
-- its source and whose input meter does not mark it Red.
pub record MayPassUp (found : Option (Option TermView)) (now : ℕ) (v : Ipv4) : Type 0 where
  pub view : TermView
  pub term : found ≡ Some (Some view)
  pub opened : view.opened ≡ true
  pub alive : 2 ≤ v.ttl
  pub source : v.src ≡ view.lease
  pub metered : ¬ (IsRed view.input now v.total)

-- A packet that says v may pass at this moment to the term that holds its destination, which is open, takes packets of
-- that length, and whose output meter does not mark it Red.
pub record MayPassDown (holder : Option TermView) (now : ℕ) (v : Ipv4) : Type 0 where
  pub view : TermView
  pub term : holder ≡ Some view
  pub opened : view.opened ≡ true
  pub alive : 2 ≤ v.ttl
  pub fits : v.total ≤ view.mru
  pub metered : ¬ (IsRed view.output now v.total)

-- the fate of a packet that passes, or is dropped for this
abbrev pub fate_of : Result Ipv4 DropCause → Fate
fate_of (Ok v) = Forwarded
fate_of (Err cause) = Dropped cause

-- the fate of a packet with this obstacle, or none
abbrev pub fate_with : Option DropCause → Fate
fate_with None = Forwarded
fate_with (Some cause) = Dropped cause

-- What the types of this crate have, as lists.
use Rattle.std.specs.Prelude.{ℕ, List}
use Rattle.bng_vlan.specs.declared.map.VlanMap.{VlanMap}
use Rattle.bng_vlan.specs.declared.backlog.Backlog.{Backlog}
use Rattle.bng_vlan.specs.Map.{Trunks}
use Rattle.bng_vlan.specs.Waiting.{Waiting}

abbrev pub trunks_in : VlanMap → Trunks
trunks_in m = record { peers = m.trunks.items; entries = m.entries.items }

-- the map that a backlog is for, and the frames that wait in it
abbrev pub map_of : Backlog → Trunks
map_of b = record { peers = b.peers.items; entries = b.entries.items }

abbrev pub waiting_of : Backlog → Waiting
waiting_of b = record { frames = b.queues.items; strays = b.strays }

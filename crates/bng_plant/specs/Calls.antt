-- What the calls of the outside add to what it tells.
use Rattle.std.specs.Prelude.{◌≡◌, ◌≤◌, ℕ, List, [], ◌∷◌, Option, length, take, nat_le, if◌then◌else◌}
use Rattle.bng_base.specs.declared.address.Peer.{Peer}
use Rattle.bng_base.specs.declared.outside.Role.{Role}
use Rattle.bng_base.specs.declared.outside.Role.TheVariants.{Access, Core, Tunnel, Auth, Acct, Coa, Control}
use Rattle.bng_base.specs.declared.outside.Datagram.{Datagram}
use Rattle.bng_base.specs.declared.outside.Bind.{Bind}
use Rattle.bng_base.specs.declared.outside.Received.{Received}
use Rattle.bng_base.specs.declared.outside.Received.TheVariants.{Got, Empty, Failed}
use Rattle.bng_base.specs.Packet.{Packet}
use Rattle.bng_base.specs.declared.round.RoundRecord.{RoundRecord}
use Rattle.bng_plant.specs.declared.answers.Bound.{Bound}
use Rattle.bng_plant.specs.declared.answers.Bound.TheVariants.{Ok as BoundOk, Failed as BoundFailed}
use Rattle.bng_plant.specs.declared.answers.Sending.{Sending}
use Rattle.bng_plant.specs.declared.answers.Sending.TheVariants.{Sent, Failed as SendingFailed}
use Rattle.bng_plant.specs.declared.answers.Seeded.{Seeded}
use Rattle.bng_plant.specs.declared.answers.Seeded.TheVariants.{Seed, Failed as SeededFailed}
use Rattle.bng_plant.specs.declared.answers.Noted.{Noted}
use Rattle.bng_plant.specs.declared.answers.Noted.TheVariants.{Ok as NotedOk, Failed as NotedFailed}
use Rattle.bng_plant.specs.declared.answers.Wrote.{Wrote}
use Rattle.bng_plant.specs.declared.answers.Wrote.TheVariants.{Ok as WroteOk, Failed as WroteFailed}
use Rattle.bng_base.specs.Told.{FileRead, Grows}

-- the most octets that a role sends: a trunk's ports have two VLAN tags more
abbrev pub send_most : Role → ℕ
send_most (Access n) = if nat_le 240 n then 4168 else 4160
send_most Core = 4160
send_most Tunnel = 4160
send_most Auth = 4160
send_most Acct = 4160
send_most Coa = 4160
send_most Control = 4160

-- a frame that a receive filled has all its headroom
abbrev pub IsFilled : Received → Packet → Type 0
IsFilled (Got from cut) frame = frame.headroom ≡ 64
IsFilled Empty frame = Unit {0}
IsFilled Failed frame = Unit {0}

-- what a bind adds
abbrev pub binds : Role → Peer → Bound → List Bind
binds role local BoundOk = record { role = role; local = local } ∷ []
binds role local BoundFailed = []

-- what a send adds
abbrev pub sends : Role → Peer → List ℕ → Sending → List Datagram
sends role to bytes Sent = record { role = role; peer = to; octets = bytes } ∷ []
sends role to bytes SendingFailed = []

-- what a seed adds
abbrev pub seeds : Seeded → List (List ℕ)
seeds (Seed octets) = octets ∷ []
seeds SeededFailed = []

-- what a read of a file of this name adds that answered this text
abbrev pub reads : List ℕ → List ℕ → List FileRead
reads name text = record { name = name; text = text } ∷ []

-- what a note adds
abbrev pub notes : RoundRecord → Noted → List RoundRecord
notes round NotedOk = round ∷ []
notes round NotedFailed = []

-- what a write adds: all, or where it failed a front
abbrev pub writes : Option (List ℕ) → Option (List ℕ) → List ℕ → Wrote → Type 0
writes old new text WroteOk = Grows old new text
writes old new text WroteFailed = (n : ℕ) × (n ≤ length text) × Grows old new (take n text)

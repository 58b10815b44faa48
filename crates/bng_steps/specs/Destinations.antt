-- Where an item leads by its octets and the rules.
use Rattle.std.specs.Prelude.{◌≡◌, ◌≢◌, ◌⊎◌, ℕ, ◌+◌, ◌/◌, ◌%◌, ◌<◌, ◌≤◌, sum}
use Rattle.bng_base.specs.declared.address.Mac.{Mac}
use Rattle.bng_base.specs.declared.address.Peer.{Peer}
use Rattle.bng_base.specs.declared.fate.DropCause.TheVariants.{Malformed, NoSession}
use Rattle.bng_base.specs.declared.fate.Fate.TheVariants.{Consumed, Dropped}
use Rattle.bng_base.specs.declared.ipv4.Ipv4.{Ipv4}
use Rattle.bng_base.specs.declared.item.Item.{Item}
use Rattle.bng_base.specs.declared.item.ItemKind.{ItemKind}
use Rattle.bng_base.specs.declared.item.ItemKind.TheVariants.{Access, Core, Tunnel, Verdict, Change, Tick, End}
use Rattle.bng_base.specs.FateOf.{arrival_of}
use Rattle.bng_base.specs.PppoeGrammar.{PppoeFrame}
use Rattle.bng_coa.specs.Admission.{IsRequestIn}
use Rattle.bng_coa.specs.declared.lead.Lead.{Lead}
use Rattle.bng_coa.specs.declared.lead.Lead.TheVariants.{Session, Address, Nowhere}
use Rattle.bng_coa.specs.Leads.{lead_of}
use Rattle.bng_forward.specs.Fates.{IsFrame, NamesSession, IsCorePacket}
use Rattle.bng_l2tp_wire.specs.Messages.{ControlMessage, DataMessage}
use Rattle.bng_l2tp_wire.specs.View.{control_of, data_of}
use Rattle.bng_lns.specs.Datagrams.{IsControlIn, IsDataIn, IsNeither}
use Rattle.bng_lns.specs.declared.datagram.TunnelDatagram.{TunnelDatagram}
use Rattle.bng_lns.specs.declared.datagram.TunnelDatagram.TheVariants.{Control, Data}
use Rattle.bng_radius_wire.specs.Grammar.{Packet}
use Rattle.bng_steps.specs.declared.rules.Rules.{Rules}
use Rattle.bng_steps.specs.declared.destination.Destination.{Destination}
use Rattle.bng_steps.specs.declared.destination.Destination.TheVariants.{Loose, Stands, Holder}

-- the sum of a MAC's octets
abbrev pub fold_of : Mac → ℕ
fold_of mac = sum mac.0

-- the sum of the octets of an address, and of a port
abbrev pub fold_of_peer : Peer → ℕ
fold_of_peer p = p.ip.0 / 16777216 + p.ip.0 / 65536 % 256 + p.ip.0 / 256 % 256 + p.ip.0 % 256 + p.port

-- a session number or a tunnel number names a shard that is there, and an index of 1 to 1,022
pub record NamesShard (r : Rules) (number : ℕ) : Type 0 where
  pub shard : number / 1024 < r.shards
  pub low : 1 ≤ number % 1024
  pub high : number % 1024 ≤ 1022

-- A frame that names a session is for the shard of that number; another one for the shard of its SOURCE_ADDR.
abbrev pub IsForFrame : Rules → PppoeFrame → Destination → Type 0
IsForFrame r p leads =
    (NamesSession p × NamesShard r p.session × (leads ≡ Stands (p.session / 1024)))
    ⊎ ((NamesSession p × (¬ (NamesShard r p.session)) × (leads ≡ Loose (Dropped NoSession)))
    ⊎ ((¬ (NamesSession p)) × (leads ≡ Stands (fold_of p.src % r.shards))))

abbrev pub IsForTarget : Rules → ℕ → Destination → Type 0
IsForTarget r target leads = ((target < r.shards) × (leads ≡ Stands target)) ⊎ ((r.shards ≤ target) × (leads ≡ Loose Consumed))

-- A verdict is for the shard of its session's number.
abbrev pub IsForSession : Rules → ℕ → Destination → Type 0
IsForSession r session leads =
    (NamesShard r session × (leads ≡ Stands (session / 1024))) ⊎ ((¬ (NamesShard r session)) × (leads ≡ Loose Consumed))

-- A message of a tunnel is for the shard of the tunnel's number, and a PPP frame of a call for that of its session's.
abbrev pub IsForNumber : Rules → ℕ → Destination → Type 0
IsForNumber r number leads =
    (NamesShard r number × (leads ≡ Stands (number / 1024))) ⊎ ((¬ (NamesShard r number)) × (leads ≡ Loose (Dropped NoSession)))

-- One without a Tunnel ID is for the shard of its sender.
abbrev pub IsForMessage : Rules → Peer → ControlMessage → Destination → Type 0
IsForMessage r from m leads =
    ((m.tunnel ≡ 0) × (leads ≡ Stands (fold_of_peer from % r.shards))) ⊎ ((m.tunnel ≢ 0) × IsForNumber r m.tunnel leads)

-- one of the two, as it was read
abbrev pub IsForRead : Rules → Peer → TunnelDatagram → Destination → Type 0
IsForRead r from (Control m) leads = IsForMessage r from (control_of m) leads
IsForRead r from (Data m) leads = IsForNumber r (data_of m).session leads

abbrev pub IsForDatagram : Rules → Item → Destination → Type 0
IsForDatagram r item leads =
    (IsNeither item.cut item.frame.payload × (leads ≡ Loose (Dropped Malformed)))
    ⊎ (((m : ControlMessage) × IsControlIn item.cut item.frame.payload m × IsForMessage r item.from m leads)
    ⊎ ((m : DataMessage) × IsDataIn item.cut item.frame.payload m × IsForNumber r m.session leads))

-- A request is for the shard of the session number that it names, and one that names an address for the shard that holds it.
abbrev pub IsForNumbered : Rules → ℕ → Destination → Type 0
IsForNumbered r number leads = ((number / 1024 < r.shards) × (leads ≡ Stands (number / 1024))) ⊎ ((r.shards ≤ number / 1024) × (leads ≡ Loose Consumed))

abbrev pub IsForLead : Rules → Lead → Destination → Type 0
IsForLead r (Session number) leads = IsForNumbered r number leads
IsForLead r (Address address) leads = leads ≡ Holder address Consumed
IsForLead r Nowhere leads = leads ≡ Loose Consumed

abbrev pub IsForRequest : Rules → Item → Destination → Type 0
IsForRequest r item leads =
    (((p : Packet) → ¬ (IsRequestIn p item.frame.payload)) × (leads ≡ Loose Consumed))
    ⊎ ((p : Packet) × IsRequestIn p item.frame.payload × IsForLead r (lead_of p) leads)

-- By the kind of the item. What is outside its grammar is loose, and so is what leads to no shard.
abbrev pub IsForKind : ItemKind → Rules → Item → Destination → Type 0
IsForKind (Access number) r item leads =
    (((p : PppoeFrame) → ¬ (IsFrame r.access number (arrival_of item) p)) × (leads ≡ Loose (Dropped Malformed)))
    ⊎ ((p : PppoeFrame) × IsFrame r.access number (arrival_of item) p × IsForFrame r p leads)
IsForKind Core r item leads =
    (((v : Ipv4) → ¬ (IsCorePacket r.core_peer (arrival_of item) v)) × (leads ≡ Loose (Dropped Malformed)))
    ⊎ ((v : Ipv4) × IsCorePacket r.core_peer (arrival_of item) v × (leads ≡ Holder v.dst (Dropped NoSession)))
IsForKind Tunnel r item leads = IsForDatagram r item leads
IsForKind Verdict r item leads = IsForSession r item.target leads
IsForKind Change r item leads = IsForRequest r item leads
IsForKind Tick r item leads = IsForTarget r item.target leads
IsForKind End r item leads = IsForTarget r item.target leads

-- where an item leads, by its octets and the rules alone
abbrev pub IsDestination : Rules → Item → Destination → Type 0
IsDestination r item leads = IsForKind item.kind r item leads

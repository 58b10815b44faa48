-- Which worker's seat an item is for.
use Rattle.std.specs.Prelude.{◌≡◌, ◌⊎◌, ℕ, ◌+◌, ◌/◌, ◌%◌, List, length, nat_lt, slice_index, if◌then◌else◌}
use Rattle.bng_base.specs.declared.address.Ip4.{Ip4}
use Rattle.bng_base.specs.declared.item.Item.{Item}
use Rattle.bng_base.specs.declared.item.ItemKind.{ItemKind}
use Rattle.bng_base.specs.declared.item.ItemKind.TheVariants.{Access, Core, Tunnel, Verdict, Change, Tick, End}
use Rattle.bng_coa.specs.Admission.{IsRequestIn}
use Rattle.bng_coa.specs.declared.lead.Lead.{Lead}
use Rattle.bng_coa.specs.declared.lead.Lead.TheVariants.{Session, Address, Nowhere}
use Rattle.bng_coa.specs.Leads.{lead_of}
use Rattle.bng_radius_wire.specs.Grammar.{Packet}
use Rattle.bng_steps.specs.Destinations.{fold_of_peer}

-- the sum of the octets of an address
abbrev pub fold_of_address : Ip4 → ℕ
fold_of_address a = a.0 / 16777216 + a.0 / 65536 % 256 + a.0 / 256 % 256 + a.0 % 256

-- the sum of the octets 7 to 12 of what came, the SOURCE_ADDR of a frame (RFC 2516 section 4); 0 where it is too short
abbrev pub source_sum : List ℕ → ℕ
source_sum octets = if nat_lt (length octets) 12 then 0 else slice_index octets 6 + slice_index octets 7 + slice_index octets 8 + slice_index octets 9 + slice_index octets 10 + slice_index octets 11

-- the sum of its octets 17 to 20, the destination of a packet (RFC 791 section 3.1); 0 where it is too short
abbrev pub destination_sum : List ℕ → ℕ
destination_sum octets = if nat_lt (length octets) 20 then 0 else slice_index octets 16 + slice_index octets 17 + slice_index octets 18 + slice_index octets 19

abbrev pub counted_from_lead : Lead → ℕ
counted_from_lead (Session number) = number
counted_from_lead (Address address) = fold_of_address address
counted_from_lead Nowhere = 0

-- a request for a change counts by the session number that it names, or by the address; one that leads nowhere by 0
abbrev pub IsCountedFromRequest : List ℕ → ℕ → Type 0
IsCountedFromRequest octets n =
    (((p : Packet) → ¬ (IsRequestIn p octets)) × (n ≡ 0))
    ⊎ ((p : Packet) × IsRequestIn p octets × (n ≡ counted_from_lead (lead_of p)))

-- what the seat of an item of this kind is counted from
abbrev pub IsCountedFrom : ItemKind → Item → ℕ → Type 0
IsCountedFrom (Access number) item n = n ≡ source_sum item.frame.payload
IsCountedFrom Core item n = n ≡ destination_sum item.frame.payload
IsCountedFrom Tunnel item n = n ≡ fold_of_peer item.from
IsCountedFrom Verdict item n = n ≡ item.target
IsCountedFrom Change item n = IsCountedFromRequest item.frame.payload n
IsCountedFrom Tick item n = n ≡ item.target
IsCountedFrom End item n = n ≡ item.target

-- the seat of an item, of so many workers: one seat alone is it
pub record IsSeat (workers : ℕ) (item : Item) (seat : ℕ) : Type 0 where
  pub number : ℕ
  pub counted : IsCountedFrom item.kind item number
  pub seat_is : seat ≡ number % workers

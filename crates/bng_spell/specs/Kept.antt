-- What a text of a trace keeps whole.
use Rattle.std.specs.Prelude.{◌≡◌, ◌<◌, ◌≤◌, ◌⊎◌, ◌^◌, ℕ, List, [], ◌∷◌, None, length}
use Rattle.std.specs.List.{AllByRecursion}
use Rattle.bng_base.specs.declared.address.Ip4.{Ip4}
use Rattle.bng_base.specs.declared.address.Peer.{Peer}
use Rattle.bng_base.specs.declared.outside.Role.{Role}
use Rattle.bng_base.specs.declared.outside.Role.TheVariants.{Access, Core, Tunnel, Auth, Acct, Coa, Control}
use Rattle.bng_base.specs.declared.item.ItemKind.{ItemKind}
use Rattle.bng_base.specs.declared.item.ItemKind.TheVariants.{Access as OfAccess, Core as OfCore, Tunnel as OfTunnel, Verdict, Change, Tick, End}
use Rattle.bng_base.specs.declared.item.Item.{Item}
use Rattle.bng_base.specs.declared.item.Entry.{Entry}
use Rattle.bng_base.specs.declared.item.Loose.{Loose}
use Rattle.bng_base.specs.declared.item.OutRecord.{OutRecord}
use Rattle.bng_base.specs.declared.item.Claim.{Claim}
use Rattle.bng_base.specs.declared.item.Claim.TheVariants.{NoClaim, Claimed, Held, Exhausted}
use Rattle.bng_base.specs.declared.round.RoundRecord.{RoundRecord}
use Rattle.bng_base.specs.Packet.{Packet}
use Rattle.bng_spell.specs.Texts.{OpeningView}

abbrev pub AreOctets : List ℕ → Type 0
AreOctets bytes = AllByRecursion (λ (b : ℕ). b < 256) bytes

abbrev pub IsAddress : Ip4 → Type 0
IsAddress a = a.0 < 2 ^ 32

pub record IsPeer (p : Peer) : Type 0 where
  pub ip : IsAddress p.ip
  pub port : p.port < 2 ^ 16

abbrev pub IsKind : ItemKind → Type 0
IsKind (OfAccess n) = n < 256
IsKind OfCore = Unit {0}
IsKind OfTunnel = Unit {0}
IsKind Verdict = Unit {0}
IsKind Change = Unit {0}
IsKind Tick = Unit {0}
IsKind End = Unit {0}

abbrev pub IsRole : Role → Type 0
IsRole (Access n) = n < 256
IsRole Core = Unit {0}
IsRole Tunnel = Unit {0}
IsRole Auth = Unit {0}
IsRole Acct = Unit {0}
IsRole Coa = Unit {0}
IsRole Control = Unit {0}

abbrev pub IsClaim : Claim → Type 0
IsClaim NoClaim = Unit {0}
IsClaim (Claimed a) = IsAddress a
IsClaim (Held a) = IsAddress a
IsClaim (Exhausted n) = n < 256

-- a frame as it was set: its octets, at most 4,096, and its whole headroom
pub record IsSet (f : Packet) : Type 0 where
  pub octets : AreOctets f.payload
  pub most : length f.payload ≤ 4096
  pub headroom : f.headroom ≡ 64

pub record IsItem (i : Item) : Type 0 where
  pub kind : IsKind i.kind
  pub from : IsPeer i.from
  pub target : i.target < 2 ^ 16
  pub ask : i.ask < 2 ^ 64
  pub random : AreOctets i.random
  pub sixteen : length i.random ≡ 16
  pub frame : IsSet i.frame

-- an entry of a round at this moment
pub record IsEntry (moment : ℕ) (e : Entry) : Type 0 where
  pub seat : e.seat < 2 ^ 16
  pub place : e.place < 2 ^ 16
  pub at : e.moment ≡ moment
  pub item : IsItem e.item
  pub claim : IsClaim e.claim

pub record IsLoose (l : Loose) : Type 0 where
  pub seat : l.seat < 2 ^ 16
  pub place : l.place < 2 ^ 16
  pub item : IsItem l.item

-- an out, of which nothing is said whose packet it carries
pub record IsOut (o : OutRecord) : Type 0 where
  pub shard : o.shard < 2 ^ 16
  pub seat : o.seat < 2 ^ 16
  pub place : o.place < 2 ^ 16
  pub role : IsRole o.role
  pub to : IsPeer o.to
  pub octets : AreOctets o.frame
  pub most : length o.frame ≤ 4160
  pub uncharged : o.charge ≡ None

-- the first stands before the second, by seat and then by place, or at the same place
abbrev pub NotAfter : Loose → Loose → Type 0
NotAfter l m = (l.seat < m.seat) ⊎ ((l.seat ≡ m.seat) × (l.place ≤ m.place))

-- loose items by seat and place: each stands before the next
abbrev pub AreInOrder : List Loose → Type 0
AreInOrder [] = Unit {0}
AreInOrder (l ∷ []) = Unit {0}
AreInOrder (l ∷ m ∷ loose) = NotAfter l m × AreInOrder (m ∷ loose)

-- A round that its text gives back: its numbers are in their ranges, it has as many journals as allowances, its entries stand at
-- its moment, and its loose items by seat and place.
pub record IsKept (r : RoundRecord) : Type 0 where
  pub number : r.number < 2 ^ 64
  pub moment : r.moment < 2 ^ 64
  pub wall : r.wall < 2 ^ 64
  pub allowances : AllByRecursion (λ (n : ℕ). n < 2 ^ 32) r.allowances
  pub shards : length r.allowances < 2 ^ 64
  pub journals : length r.journals ≡ length r.allowances
  pub entries : AllByRecursion (λ (journal : List Entry). AllByRecursion (IsEntry r.moment) journal) r.journals
  pub loose : AllByRecursion IsLoose r.loose
  pub order : AreInOrder r.loose
  pub refused : AllByRecursion IsItem r.refused
  pub outs : AllByRecursion IsOut r.outs

-- an opening that its text gives back
pub record IsKeptOpening (o : OpeningView) : Type 0 where
  pub now : o.now < 2 ^ 64
  pub wall : o.wall < 2 ^ 64
  pub seed : AreOctets o.seed
  pub thirty_two : length o.seed ≡ 32
  pub configuration : AreOctets o.configuration

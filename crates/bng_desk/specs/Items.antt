-- The items of a turn: the datagrams that were taken, and what is due.
use Rattle.std.specs.Prelude.{ℕ, ◌+◌, ◌==◌, Bool, true, false, nat_le, List, [], ◌∷◌, ◌++◌, Option, Some, None, map, filter, if◌then◌else◌}
use Rattle.std.specs.List.{flat_map, range_with_len}
use Rattle.bng_base.specs.declared.address.Peer.{Peer}
use Rattle.bng_base.specs.declared.item.Claim.TheVariants.{NoClaim}
use Rattle.bng_base.specs.declared.item.Entry.{Entry}
use Rattle.bng_base.specs.declared.item.Item.{Item}
use Rattle.bng_base.specs.declared.item.ItemKind.{ItemKind}
use Rattle.bng_base.specs.declared.item.ItemKind.TheVariants as kind
use Rattle.bng_base.specs.declared.item.Loose.{Loose}
use Rattle.bng_base.specs.declared.outside.Role.{Role}
use Rattle.bng_base.specs.declared.outside.Role.TheVariants.{Access, Core, Tunnel, Auth, Acct, Coa, Control}
use Rattle.bng_base.specs.FateOf.{Arrival}
use Rattle.bng_engine.specs.Views.{ShardView}
use Rattle.bng_steps.specs.declared.whose.Whose.{Whose}
use Rattle.bng_steps.specs.declared.whose.Whose.TheVariants.{Loose as IsLoose, Stands}
use Rattle.bng_steps.specs.Protocol.{ShardState, deadline_of, entry_of}
use Rattle.bng_desk.specs.declared.reading.ReadEnd.{ReadEnd}
use Rattle.bng_desk.specs.Random.{draw}

-- what was taken from a role, and how its reading ended
pub record DataReading : Type 0 where
  pub role : Role
  pub arrivals : List Arrival
  pub ended : ReadEnd

-- the kind of the items of a role
abbrev pub kind_of : Role → ItemKind
kind_of (Access number) = kind.Access number
kind_of Core = kind.Core
kind_of Tunnel = kind.Tunnel
kind_of Auth = kind.Verdict
kind_of Acct = kind.Verdict
kind_of Coa = kind.Change
kind_of Control = kind.Change

-- a datagram as an item, before its random octets are drawn
abbrev pub arrived : Role → Arrival → Item
arrived role a = record {
  kind = kind_of role;
  from = a.from;
  frame = record { payload = a.octets; headroom = 64 };
  cut = a.cut;
  random = [];
  target = 0;
  ask = 0;
}

abbrev pub nobody : Peer
nobody = record { ip = record { 0 = 0 }; port = 0 }

-- an item of this kind for a shard; its frame is empty
abbrev pub for_shard : ItemKind → ℕ → Item
for_shard k shard = record {
  kind = k;
  from = nobody;
  frame = record { payload = []; headroom = 64 };
  cut = false;
  random = [];
  target = shard;
  ask = 0;
}

abbrev pub is_reached : Option ℕ → ℕ → Bool
is_reached None moment = false
is_reached (Some deadline) moment = nat_le deadline moment

-- a deadline of the shard is due
abbrev pub is_due : ℕ → ShardView ShardState Entry → Bool
is_due moment v = is_reached (deadline_of v.state) moment

-- one Tick for each shard that has a due deadline, in the order of their numbers
abbrev pub ticks_of : ℕ → List (ShardView ShardState Entry) → List Item
ticks_of moment shards = map (λ v. for_shard kind.Tick v.number) (filter (is_due moment) shards)

-- one End for each shard
abbrev pub ends_of : ℕ → List Item
ends_of shards = map (for_shard kind.End) (range_with_len 0 shards)

-- each item draws sixteen octets, from this number on
abbrev pub drawn_from : List ℕ → ℕ → List Item → List Item
drawn_from seed n [] = []
drawn_from seed n (i ∷ is) = record i { random = draw seed n } ∷ drawn_from seed (n + 1) is

-- the items of what was taken, in the order taken
abbrev pub taken_items : List DataReading → List Item
taken_items readings = flat_map (λ r. map (arrived r.role) r.arrivals) readings

-- the item came from the outside
abbrev pub is_from_outside : ItemKind → Bool
is_from_outside (kind.Access number) = true
is_from_outside kind.Core = true
is_from_outside kind.Tunnel = true
is_from_outside kind.Verdict = false
is_from_outside kind.Change = false
is_from_outside kind.Tick = false
is_from_outside kind.End = false

-- the item stands first in the next round where its own could not be opened
abbrev pub stays : ItemKind → Bool
stays (kind.Access number) = false
stays kind.Core = false
stays kind.Tunnel = false
stays kind.Verdict = true
stays kind.Change = true
stays kind.Tick = false
stays kind.End = true

-- the item is a verdict
abbrev pub is_verdict_kind : ItemKind → Bool
is_verdict_kind (kind.Access number) = false
is_verdict_kind kind.Core = false
is_verdict_kind kind.Tunnel = false
is_verdict_kind kind.Verdict = true
is_verdict_kind kind.Change = false
is_verdict_kind kind.Tick = false
is_verdict_kind kind.End = false

abbrev pub is_verdict_item : Item → Bool
is_verdict_item i = is_verdict_kind i.kind

-- the item is a request for a change
abbrev pub is_change_kind : ItemKind → Bool
is_change_kind (kind.Access number) = false
is_change_kind kind.Core = false
is_change_kind kind.Tunnel = false
is_change_kind kind.Verdict = false
is_change_kind kind.Change = true
is_change_kind kind.Tick = false
is_change_kind kind.End = false

abbrev pub is_change_item : Item → Bool
is_change_item i = is_change_kind i.kind

abbrev pub kept_of : List Item → List Item
kept_of items = filter (λ (i : Item). stays i.kind) items

abbrev pub stands_in : ℕ → Whose → Bool
stands_in shard (IsLoose fate) = false
stands_in shard (Stands n) = n == shard

-- an entry without what was answered where it asked for an address
abbrev pub without_claim : Entry → Entry
without_claim e = record e { claim = NoClaim }

-- The entries of a shard from a seat's list, without their claims: of its items, from this place on, those that stand in the shard, each
-- with its place, at the round's moment.
abbrev pub entries_in : ℕ → ℕ → ℕ → ℕ → List Item → List Whose → List Entry
entries_in seat shard place moment [] whose = []
entries_in seat shard place moment (i ∷ is) [] = []
entries_in seat shard place moment (i ∷ is) (w ∷ ws) = (if stands_in shard w then entry_of seat place moment i ∷ [] else []) ++ entries_in seat shard (place + 1) moment is ws

abbrev pub loose_item : ℕ → ℕ → Item → Whose → List Loose
loose_item seat place i (IsLoose fate) = record { seat = seat; place = place; item = i; fate = fate } ∷ []
loose_item seat place i (Stands n) = []

-- the items of a seat's list that stand in no shard
abbrev pub loose_in : ℕ → ℕ → List Item → List Whose → List Loose
loose_in seat place [] whose = []
loose_in seat place (i ∷ is) [] = []
loose_in seat place (i ∷ is) (w ∷ ws) = loose_item seat place i w ++ loose_in seat (place + 1) is ws

-- those of all lists, from this seat on
abbrev pub all_loose : ℕ → List (List Item) → List (List Whose) → List Loose
all_loose seat [] whose = []
all_loose seat (items ∷ lists) [] = []
all_loose seat (items ∷ lists) (ws ∷ whose) = loose_in seat 0 items ws ++ all_loose (seat + 1) lists whose

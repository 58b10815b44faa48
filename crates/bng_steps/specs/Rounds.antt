-- A round of all shards, as a trace holds it.
use Rattle.std.specs.Prelude.{◌≡◌, ◌⊎◌, ℕ, ◌%◌, ◌<◌, ◌≤◌, ◌==◌, ◌&&◌, Bool, List, [], ◌∷◌, ◌++◌, Option, Some, None, IsSome, map, filter, length, slice_get, slice_index_or, option_to_list}
use Rattle.std.specs.List.{All, AllByRecursion, Contains, flat_map}
use Rattle.bng_base.specs.declared.address.Ip4.{Ip4}
use Rattle.bng_base.specs.declared.fate.Fate.{Fate}
use Rattle.bng_base.specs.declared.item.Claim.TheVariants.{Held, Exhausted}
use Rattle.bng_base.specs.declared.item.Entry.{Entry}
use Rattle.bng_base.specs.declared.item.Item.{Item}
use Rattle.bng_base.specs.declared.item.Loose.{Loose}
use Rattle.bng_engine.specs.Claims.{claimed_at, times_in}
use Rattle.bng_engine.specs.Journals.{claims_of}
use Rattle.bng_engine.specs.Lists.{Zip3}
use Rattle.bng_engine.specs.Rounds.{IsRoundOfShard, ShardRound, journals_of}
use Rattle.bng_steps.specs.declared.destination.Destination.{Destination}
use Rattle.bng_steps.specs.declared.destination.Destination.TheVariants.{Loose as LeadsNowhere, Stands as LeadsTo, Holder}
use Rattle.bng_steps.specs.declared.rules.Rules.{Rules}
use Rattle.bng_steps.specs.declared.whose.Whose.{Whose}
use Rattle.bng_steps.specs.declared.whose.Whose.TheVariants.{Loose as IsLoose, Stands}
use Rattle.bng_steps.specs.Destinations.{IsDestination}
use Rattle.bng_steps.specs.Protocol.{Handled, ShardState, addresses_in, pppoe}
use Rattle.bng_steps.specs.Seats.{IsCountedFrom}

-- how the shards stand, in the order of their numbers, and which of them holds an address
pub record Standing : Type 0 where
  pub states : List ShardState
  pub holder : ℕ → Option ℕ

-- an item at its place of a seat's list
pub record Stood : Type 0 where
  pub seat : ℕ
  pub place : ℕ
  pub item : Item

abbrev pub entry_stood : Entry → Stood
entry_stood e = record { seat = e.seat; place = e.place; item = e.item }

abbrev pub loose_stood : Loose → Stood
loose_stood l = record { seat = l.seat; place = l.place; item = l.item }

abbrev pub stands_at : ℕ → ℕ → Stood → Bool
stands_at seat place s = (s.seat == seat) && (s.place == place)

-- the list of a seat, and what stands at one of its places, if it has that place
abbrev pub list_of : List (List Item) → ℕ → List Item
list_of lists seat = slice_index_or lists seat []

abbrev pub listed_at : List (List Item) → ℕ → ℕ → List Stood
listed_at lists seat place = map (λ (i : Item). record { seat = seat; place = place; item = i }) (option_to_list (slice_get (list_of lists seat) place))

-- the entries of a journal, as a trace holds them
abbrev pub entries : List Handled → List Entry
entries journal = map (λ (h : Handled). h.deed.entry) journal

-- 1. For each seat and each place of its list exactly one entry or loose item has that seat and place, and its item is the list's; there
-- are no others. A list has the items that are for its seat.
pub record AreOfLists (lists : List (List Item)) (journals : List (List Entry)) (loose : List Loose) : Type 0 where
  pub each : (seat place : ℕ) → filter (stands_at seat place) (flat_map (λ (es : List Entry). map entry_stood es) journals ++ map loose_stood loose) ≡ listed_at lists seat place
  pub seats : (seat number : ℕ) (item : Item) → Contains (list_of lists seat) item → IsCountedFrom item.kind item number → seat ≡ number % length lists

-- each is higher than those before it
abbrev pub AreRising : List ℕ → Type 0
AreRising [] = Unit {0}
AreRising (n ∷ ns) = AllByRecursion (λ m. n < m) ns × AreRising ns

-- 2. In a journal the places of each seat rise, and each entry is of the round's moment.
pub record IsInOrder (moment : ℕ) (journal : List Entry) : Type 0 where
  pub places : (seat : ℕ) → AreRising (map (λ (e : Entry). e.place) (filter (λ (e : Entry). e.seat == seat) journal))
  pub moments : AllByRecursion (λ (e : Entry). e.moment ≡ moment) journal

-- an item for an address that a shard held when the round opened stands in that shard; one for an address that was free then is loose with
-- this fate, or stands in one of the shards
abbrev pub IsHeldOr : Fate → Option ℕ → Whose → Type 0
IsHeldOr fate (Some shard) whose = whose ≡ Stands shard
IsHeldOr fate None whose = (whose ≡ IsLoose fate) ⊎ ((shard : ℕ) × (whose ≡ Stands shard))

abbrev pub IsFoundAt : (ℕ → Option ℕ) → Destination → Whose → Type 0
IsFoundAt holder (LeadsNowhere fate) whose = whose ≡ IsLoose fate
IsFoundAt holder (LeadsTo shard) whose = whose ≡ Stands shard
IsFoundAt holder (Holder address fate) whose = IsHeldOr fate (holder address.0) whose

-- whose an item may be in a round, by who held which address when it opened
pub record MayBe (r : Rules) (holder : ℕ → Option ℕ) (item : Item) (whose : Whose) : Type 0 where
  pub destination : Destination
  pub leads : IsDestination r item destination
  pub found : IsFoundAt holder destination whose

-- 3. Each entry stands in a shard for which its item may be, and each loose item may be loose with its fate.
pub record AreWhose (r : Rules) (holder : ℕ → Option ℕ) (journals : List (List Entry)) (loose : List Loose) : Type 0 where
  pub stand : (shard : ℕ) (es : List Entry) → slice_get journals shard ≡ Some es → AllByRecursion (λ (e : Entry). MayBe r holder e.item (Stands shard)) es
  pub left : AllByRecursion (λ (l : Loose). MayBe r holder l.item (IsLoose l.fate)) loose

-- 5. The addresses that are claimed are different and were free when the round opened. Which shard holds an address changes by the claims
-- alone: one that is claimed is held by the shard of its entry.
pub record AreClaimed (holder : ℕ → Option ℕ) (journals : List (List Handled)) (holder' : ℕ → Option ℕ) : Type 0 where
  pub different : (a : ℕ) → claimed_at pppoe a journals ≤ 1
  pub free : (a : ℕ) → 1 ≤ claimed_at pppoe a journals → holder a ≡ None
  pub stay : (a : ℕ) → claimed_at pppoe a journals ≡ 0 → holder' a ≡ holder a
  pub held : (a shard : ℕ) (es : List Handled) → slice_get journals shard ≡ Some es → Contains (claims_of pppoe es) a → holder' a ≡ Some shard

-- the address is held once all entries were handled, and no later entry of the journal claims it
abbrev pub StaysHeld : (ℕ → Option ℕ) → List Handled → ℕ → Type 0
StaysHeld holder later a = IsSome (holder a) × (times_in a (claims_of pppoe later) ≡ 0)

-- 6. An address that an entry was told to be held is held, by another term, since no term begins at that entry; and no later entry of that
-- journal claims it.
abbrev pub AreHeld : List (List Handled) → (ℕ → Option ℕ) → Type 0
AreHeld journals holder = (shard : ℕ) (earlier later : List Handled) (h : Handled) (a : Ip4) → slice_get journals shard ≡ Some (earlier ++ h ∷ later) → h.deed.entry.claim ≡ Held a → StaysHeld holder later a.0

-- 7. So is each address of a pool that an entry found exhausted.
abbrev pub AreExhausted : Rules → List (List Handled) → (ℕ → Option ℕ) → Type 0
AreExhausted r journals holder = (shard pool : ℕ) (earlier later : List Handled) (h : Handled) → slice_get journals shard ≡ Some (earlier ++ h ∷ later) → h.deed.entry.claim ≡ Exhausted pool
    → AllByRecursion (StaysHeld holder later) (addresses_in (slice_get r.pools pool))

-- A round by these rules at this moment, of these lists of items by seats: the shards' journals, each with its allowance of new terms, and
-- the items that stand in no shard. It leads from how the shards stood to how they stand before the settlement.
pub record IsRound (r : Rules) (opening : Standing) (moment : ℕ) (lists : List (List Item)) (rounds : List (ShardRound Handled)) (loose : List Loose) (last : Standing) : Type 0 where
  pub items : AreOfLists lists (map entries (journals_of rounds)) loose
  pub order : AllByRecursion (IsInOrder moment) (map entries (journals_of rounds))
  pub whose : AreWhose r opening.holder (map entries (journals_of rounds)) loose
  -- 4. Each journal is a run of steps; at most its allowance of terms begin in it, and an entry finds the allowance used up exactly where that
  -- many began before it.
  pub steps : Zip3 (IsRoundOfShard pppoe) opening.states rounds last.states
  pub claimed : AreClaimed opening.holder (journals_of rounds) last.holder
  pub held : AreHeld (journals_of rounds) last.holder
  pub exhausted : AreExhausted r (journals_of rounds) last.holder

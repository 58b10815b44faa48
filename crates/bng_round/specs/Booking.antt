-- What was done to a shard in its place, as a list of marks.
use Rattle.std.specs.Prelude.{◌≡◌, ℕ, ◌+◌, ◌^◌, ◌<◌, ◌≤◌, ◌==◌, true, false, List, [], ◌∷◌, ◌++◌, filter, length, map, slice_index_or, sum}
use Rattle.std.specs.List.{AllByRecursion}
use Rattle.bng_base.specs.declared.book.Book.{Book}
use Rattle.bng_base.specs.declared.fate.Fate.{Fate}
use Rattle.bng_base.specs.declared.item.Claim.TheVariants.{NoClaim}
use Rattle.bng_base.specs.declared.item.Entry.{Entry}
use Rattle.bng_base.specs.declared.item.ItemKind.{ItemKind}
use Rattle.bng_base.specs.declared.item.OutRecord.{OutRecord}
use Rattle.bng_engine.specs.Calls.{Handles}
use Rattle.bng_engine.specs.Quantities.{Octets, Packets}
use Rattle.bng_engine.specs.Showing.{with_journal}
use Rattle.bng_engine.specs.Sums.{charge_if, is_directed, passed_sum}
use Rattle.bng_round.specs.declared.mark.Done.{Done}
use Rattle.bng_round.specs.declared.mark.Mark.{Mark}
use Rattle.bng_round.specs.Asking.{IsAskedFor, AreHeldBy}
use Rattle.bng_round.specs.Ticks.{is_for_shard, Admits}
use Rattle.bng_round.specs.Views.{Shown, PlacedView, is_limited}
use Rattle.bng_steps.specs.declared.wish.Wish.{Wish}
use Rattle.bng_steps.specs.Hearing.{outs_most}
use Rattle.bng_steps.specs.Protocol.{Handled, packet_octets, pppoe, terms_of}
use Rattle.bng_steps.specs.Seats.{IsSeat}
use Rattle.bng_steps.specs.Sums.{AreLow, Rises}
use Rattle.bng_steps.specs.Wished.{IsWished}

-- an entry without what was answered where it asked for an address
abbrev pub without_claim : Entry → Entry
without_claim e = record e { claim = NoClaim }

-- the entries of a seat among some
abbrev pub of_seat : ℕ → List Entry → List Entry
of_seat seat entries = filter (λ (e : Entry). e.seat == seat) entries

-- the places rise, from the first number on, and are below the second
abbrev pub Rise : ℕ → ℕ → List Entry → Type 0
Rise from to [] = Unit {0}
Rise from to (e ∷ es) = (from ≤ e.place) × (e.place < to) × Rise (e.place + 1) to es

-- what the sends for an entry let pass, from the subscriber (input) and towards it
abbrev pub passed_in : List OutRecord → Book
passed_in outs = record {
  input = passed_sum (charge_if Octets (is_directed true)) outs;
  output = passed_sum (charge_if Octets (is_directed false)) outs;
  input_packets = passed_sum (charge_if Packets (is_directed true)) outs;
  output_packets = passed_sum (charge_if Packets (is_directed false)) outs;
}

-- what an entry came to, and what is booked of it
abbrev pub done_of : Handled → Done
done_of h = record { fate = h.deed.fate; passed = passed_in h.deed.outs }

abbrev pub mark_of : Handled → Mark
mark_of h = record { entry = h.deed.entry; done = done_of h }

-- What a seat may bring to a shard: an item that stands on it, at a place of its list past those that it brought, at the round's moment,
-- which is early enough. A Tick and an End are for this shard, and come once. Its frame has all of its headroom.
pub record IsNext (v : PlacedView) (a : Entry) : Type 0 where
  pub seat : IsSeat (length v.lists) a.item a.seat
  pub worker : a.seat < length v.lists
  pub moment : a.moment ≡ v.moment
  pub early : a.moment < 2 ^ 60
  pub low : a.place < slice_index_or v.lists a.seat 0
  pub past : Rise 0 a.place (of_seat a.seat v.shard.journal)
  pub target : is_for_shard a.item.kind ≡ true → a.item.target ≡ v.shard.number
  pub once : Admits (of_seat a.seat v.shard.journal) a.item.kind
  pub whole : a.item.frame.headroom ≡ 64

-- an entry was handled with this effect, whatever the effects of the entries before it were
pub record HandlesBy (v : Shown) (h : Handled) (v' : Shown) : Type 0 where
  pub journal : v'.journal ≡ v.journal ++ h.deed.entry ∷ []
  pub handles : (es : List Handled) → map (pppoe).entry es ≡ v.journal → Handles pppoe (with_journal v es) h (with_journal v' (es ++ h ∷ []))

-- A shard handled an entry that was answered where it asked for an address. What it did is a step, of at most 4,160 octets of packets and of
-- few outs, and what passed is in a ledger.
pub record HandlesAs (v v' : Shown) (e : Entry) (fate : Fate) (ledger ledger' : Book) : Type 0 where
  pub effect : Handled
  pub entry_is : effect.deed.entry ≡ e
  pub handles : HandlesBy v effect v'
  pub fate_is : effect.deed.fate ≡ fate
  pub light : packet_octets effect.deed.outs ≤ 4160
  pub few : length effect.deed.outs ≤ outs_most e.item.kind
  pub entered : Rises ledger effect.deed.outs ledger'

-- A shard in its place did this with an item that a seat may bring: it is a step; what the item asks of the words was asked, once, and
-- answered so; and the shard's seat holds the address of each of its terms.
pub record IsStep (v : PlacedView) (h : Handled) (v' : PlacedView) : Type 0 where
  pub next : IsNext v (without_claim h.deed.entry)
  pub handles : HandlesBy v.shard h v'.shard
  pub wish : Wish
  pub wished : IsWished v.shard.state.rules v.shard.state.slots h.deed.entry.item (is_limited v.shard) wish
  pub asked : IsAskedFor wish h.deed.entry.claim v.hold v'.hold
  pub held : AreHeldBy v'.hold (terms_of v'.shard.state)
  pub light : packet_octets h.deed.outs ≤ 4160
  pub few : length h.deed.outs ≤ outs_most h.deed.entry.item.kind
  pub lists : v'.lists ≡ v.lists
  pub moment : v'.moment ≡ v.moment
  pub last : v'.last ≡ done_of h

-- the shard handled this item, and it came to this
pub record Steps (v : PlacedView) (a : Entry) (done : Done) (v' : PlacedView) : Type 0 where
  pub effect : Handled
  pub asked_is : without_claim effect.deed.entry ≡ a
  pub is_step : IsStep v effect v'
  pub done_is : done_of effect ≡ done

-- steps one after the other
abbrev pub Runs : PlacedView → List Handled → PlacedView → Type 0
Runs v [] w = w ≡ v
Runs v (h ∷ hs) w = (m : PlacedView) × IsStep v h m × Runs m hs w

-- the mark stands beside its entry's seat
abbrev pub IsBeside : ℕ × Mark → Type 0
IsBeside x = x.1.entry.seat ≡ x.0

-- The state is what steps from the opening lead to whose marks these are, each beside its seat.
pub record Follows (v : PlacedView) (list : List (ℕ × Mark)) (w : PlacedView) : Type 0 where
  pub effects : List Handled
  pub marks : map mark_of effects ≡ map (λ (x : ℕ × Mark). x.1) list
  pub runs : Runs v effects w
  pub seats : AllByRecursion IsBeside list
  pub empty : v.shard.journal ≡ []

-- A shard as a round opens: nothing is handled, there is room for all lists, which have 1,024 items at most, no book is above 2^62, and its
-- seat holds the address of each of its terms.
pub record IsSet (v : PlacedView) : Type 0 where
  pub journal : v.shard.journal ≡ []
  pub room : v.shard.room ≡ sum v.lists
  pub few : sum v.lists ≤ 1024
  pub books : AreLow (2 ^ 62) v.shard.books
  pub held : AreHeldBy v.hold (terms_of v.shard.state)

-- a shard that can handle an item of this kind
pub record CanHandle (v : PlacedView) (kind : ItemKind) : Type 0 where
  pub room : 0 < v.shard.room
  pub once : Admits v.shard.journal kind
  pub books : AreLow (2 ^ 63) v.shard.books
  pub held : AreHeldBy v.hold (terms_of v.shard.state)

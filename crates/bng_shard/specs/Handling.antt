-- What the calls of a shard do to its view, and to the table of addresses.
use Rattle.std.specs.Prelude.{◌≡◌, ◌≢◌, ℕ, ◌+◌, ◌≤◌, Bool, List, [], ◌∷◌, ◌++◌, Some, length, nat_le, slice_get, sum_by}
use Rattle.std.specs.List.{All, AllByRecursion, flat_map}
use Rattle.bng_base.specs.declared.book.Book.{Book}
use Rattle.bng_base.specs.declared.book.Range.{Range}
use Rattle.bng_base.specs.declared.fate.Fate.{Fate}
use Rattle.bng_base.specs.declared.item.Claim.{Claim}
use Rattle.bng_base.specs.declared.item.Claim.TheVariants.{NoClaim, Claimed, Held, Exhausted}
use Rattle.bng_base.specs.declared.item.Entry.{Entry}
use Rattle.bng_base.specs.declared.settings.NamedRange.{NamedRange}
use Rattle.bng_engine.specs.Quantities.{Quantity}
use Rattle.bng_engine.specs.Showing.{HandlesEntry}
use Rattle.bng_engine.specs.Sums.{stopped_where}
use Rattle.bng_engine.specs.Terms.{Key, Stop, Term, ComesBefore, keys}
use Rattle.bng_engine.specs.Views.{ShardView, row_keys, rows_where}
use Rattle.bng_pool.specs.Plain.{PlainView}
use Rattle.bng_base.specs.Ranges.{InRange}
use Rattle.bng_pool.specs.Tables.{Table, IsTaken, Puts, entry}
use Rattle.bng_steps.specs.State.{reaped}
use Rattle.bng_steps.specs.Hearing.{outs_most}
use Rattle.bng_steps.specs.Sums.{Rises}
use Rattle.bng_steps.specs.Protocol.{ShardState, terms_of, pppoe, packet_octets, ended_terms, claimed_by}

-- each pool of the rules is a range of the table, at its place
abbrev pub HasPools : List NamedRange → List Range → Type 0
HasPools pools ranges = (k : ℕ) (p : NamedRange) → slice_get pools k ≡ Some p → slice_get ranges k ≡ Some p.range

-- each term of the shard with this number holds its address
abbrev pub AreHeld : ℕ → List Term → Table → Type 0
AreHeld shard terms table = All (λ (t : Term). entry table t.key.address.0 ≡ Some shard) terms

-- no term has this address
abbrev pub IsUnused : ℕ → List Term → Type 0
IsUnused a terms = All (λ (t : Term). t.key.address.0 ≢ a) terms

-- the shard's allowance of new terms is used up by the entries of its journal
abbrev pub is_limited : ShardView ShardState Entry → Bool
is_limited v = nat_le v.allowance (length (flat_map (λ (e : Entry). claimed_by e.claim) v.journal))

-- the table answered so: it gave the shard an address that was free, or it held what was asked for already, and is as it was
abbrev pub AnswersClaim : ℕ → Claim → PlainView → PlainView → Type 0
AnswersClaim shard NoClaim pool pool' = pool' ≡ pool
AnswersClaim shard (Claimed a) pool pool' = Puts pool.table a.0 shard pool'.table × ((pool'.ranges ≡ pool.ranges) × (pool'.shards ≡ pool.shards))
AnswersClaim shard (Held a) pool pool' = IsTaken pool.table a.0 × (pool' ≡ pool)
AnswersClaim shard (Exhausted k) pool pool' =
    ((r : Range) → slice_get pool.ranges k ≡ Some r → (b : ℕ) → InRange r b → IsTaken pool.table b) × (pool' ≡ pool)

-- A shard handled one entry, which has what was answered where it asked for an address: what it did is a step, of at most 4,160 octets of
-- packets and of few outs. What passed is in the tally of the entry's seat.
pub record HandlesAs (v v' : ShardView ShardState Entry) (e : Entry) (fate : Fate) (tally tally' : Book) : Type 0 where
  pub shown : HandlesEntry pppoe v e v'
  pub fate_is : shown.effect.deed.fate ≡ fate
  pub light : packet_octets shown.effect.deed.outs ≤ 4160
  pub few : length shown.effect.deed.outs ≤ outs_most e.item.kind
  pub tallied : Rises tally shown.effect.deed.outs tally'

-- A shard handled one entry: what it did is a step, of at most 4,160 octets of packets and of few outs, and the table answered its claim.
-- What passed is in the tally of the entry's seat. Each term of the shard holds its address, as before.
pub record Handles (v v' : ShardView ShardState Entry) (pool pool' : PlainView) (e : Entry) (fate : Fate) (tally tally' : Book) : Type 0 where
  pub claim : Claim
  pub shown : HandlesEntry pppoe v (record e { claim = claim }) v'
  pub answers : AnswersClaim v.number claim pool pool'
  pub held : AreHeld v'.number (terms_of v'.state) pool'.table
  pub fate_is : shown.effect.deed.fate ≡ fate
  pub light : packet_octets shown.effect.deed.outs ≤ 4160
  pub few : length shown.effect.deed.outs ≤ outs_most e.item.kind
  pub tallied : Rises tally shown.effect.deed.outs tally'

-- One of the terms that have ended has left, the first in order: this Stop is formed of it, with what its row said. Its row has left,
-- and the rows before it and after it stand as they were. What the shard is once all of them have left is the same.
pub record Leaves (v v' : ShardView ShardState Entry) (s : Stop) : Type 0 where
  pub one : (f : Key → ℕ → ℕ) → f s.key s.cause + sum_by (λ t. f t.key t.cause) (ended_terms v'.state) ≡ sum_by (λ t. f t.key t.cause) (ended_terms v.state)
  pub least : AllByRecursion (λ t. ComesBefore s.key t.key) (ended_terms v'.state)
  pub rows : (q : Quantity) (pick : Key → Bool) (input : Bool) → stopped_where q pick input (s ∷ []) + rows_where q pick input v'.rows ≡ rows_where q pick input v.rows
  pub fit : row_keys v'.rows ≡ keys (terms_of v'.state)
  pub before : List Key
  pub after : List Key
  pub were : row_keys v.rows ≡ before ++ s.key ∷ after
  pub are : row_keys v'.rows ≡ before ++ after
  pub rules : v'.state.rules ≡ v.state.rules
  pub slots : reaped v'.state.slots ≡ reaped v.state.slots
  pub changed : v'.state.changed ≡ v.state.changed
  pub number : v'.number ≡ v.number
  pub books : v'.books ≡ v.books
  pub allowance : v'.allowance ≡ v.allowance
  pub journal : v'.journal ≡ v.journal
  pub outs : v'.outs ≡ v.outs

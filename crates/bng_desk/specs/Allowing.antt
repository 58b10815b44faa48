-- How many terms may begin in a round.
use Rattle.std.specs.Prelude.{◌≡◌, ℕ, ◌+◌, ◌-◌, ◌/◌, ◌%◌, ◌^◌, List, Option, None, Some, map, length, min, nat_lt, if◌then◌else◌}
use Rattle.bng_base.specs.declared.item.Entry.{Entry}
use Rattle.bng_billing.specs.State.{BillingState}
use Rattle.bng_engine.specs.Views.{ShardView}
use Rattle.bng_steps.specs.Protocol.{ShardState}
use Rattle.bng_desk.specs.Round.{Round}

-- of so many, what the shard with this number gets of so many shards: each the same, and one more the first, as many as are left over
abbrev pub share_of : (free shards number : ℕ) → ℕ
share_of free shards number = free / shards + (if nat_lt number (free % shards) then 1 else 0)

-- for how many terms more there is room in accounting, beside those that are live or have an open record
abbrev pub free_in : BillingState → ℕ
free_in b = b.spool.rules.terms - length b.spool.held

-- How many terms may begin in a shard: its share of those for which there is room, and no more than it has numbers for, of which there
-- are 2^48 - 1.
abbrev pub allowance_of : (free shards : ℕ) → ShardView ShardState Entry → ℕ
allowance_of free shards v = min (share_of free shards v.number) (2 ^ 48 - 1 - v.state.slots.begun)

-- in a round that was opened the shards have these allowances, by what accounting had room for then
abbrev pub Allows : BillingState → List (ShardView ShardState Entry) → Option Round → Type 0
Allows b shards None = Unit {0}
Allows b shards (Some round) = map (λ v. v.allowance) round.shards ≡ map (allowance_of (free_in b) (length shards)) shards

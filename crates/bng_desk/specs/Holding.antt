-- A round that is held: what its shards are made ready for.
use Rattle.std.specs.Prelude.{ℕ, ◌+◌, ◌≤◌, length, sum_by}
use Rattle.std.specs.List.{All}
use Rattle.bng_engine.specs.Calls.{IsReady as IsRoomy}
use Rattle.bng_desk.specs.declared.settlement.Works.{Works}
use Rattle.bng_desk.specs.Taking.{HasNumbers, HasRows}

-- The shards were made ready for a round of so many items: each has room for all of them, a row for each of its terms and a number for
-- each that may begin, and accounting has room for all that may begin.
pub record IsPrepared (items : ℕ) (w : Works) : Type 0 where
  pub roomy : All (λ v. IsRoomy items v.allowance v) w.shards.items
  pub rows : All HasRows w.shards.items
  pub serials : All HasNumbers w.shards.items
  pub free : length w.accounts.billing.spool.held + sum_by (λ v. v.allowance) w.shards.items ≤ w.accounts.billing.spool.rules.terms

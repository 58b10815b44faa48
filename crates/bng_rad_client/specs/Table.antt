-- The requests of a lane, by their identifiers.
use Rattle.std.specs.Prelude.{◌≡◌, ◌≢◌, ℕ, ◌+◌, ◌%◌, ◌<◌, List, Option, None, slice_index_or, is_some, count_by}
use Rattle.bng_rad_client.specs.declared.pending.Pending.{Pending}

-- the request of each identifier, 0 to 255, and the identifier that was given last
pub record Table : Type 0 where
  pub places : List (Option Pending)
  pub last : ℕ

-- the request that has an identifier
abbrev pub request_of : List (Option Pending) → ℕ → Option Pending
request_of places id = slice_index_or places id None

-- how many identifiers are taken
abbrev pub taken : List (Option Pending) → ℕ
taken places = count_by is_some places

-- the first free identifier after the last one, modulo 256
pub record IsNextFree (t : Table) (id : ℕ) : Type 0 where
  pub steps : ℕ
  pub bound : steps < 256
  pub place : id ≡ (t.last + 1 + steps) % 256
  pub free : request_of t.places id ≡ None
  pub before : (k : ℕ) → k < steps → request_of t.places ((t.last + 1 + k) % 256) ≢ None

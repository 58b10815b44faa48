-- Where the call of a session stands in a list of calls by rising session number.
use Rattle.std.specs.Prelude.{◌≡◌, ℕ, ◌<◌, ◌≤◌, List, length, slice_index_or}
use Rattle.bng_lac.specs.declared.call.LacCall.{LacCall}

-- the call at this place is that of the session
pub record IsHere (session : ℕ) (calls : List LacCall) (place : ℕ) : Type 0 where
  pub within : place < length calls
  pub same : (d : LacCall) → (slice_index_or calls place d).session.0 ≡ session

-- no call is that of the session, which would stand at this place
pub record IsGap (session : ℕ) (calls : List LacCall) (place : ℕ) : Type 0 where
  pub within : place ≤ length calls
  pub below : (k : ℕ) (d : LacCall) → k < place → (slice_index_or calls k d).session.0 < session
  pub above : (k : ℕ) (d : LacCall) → place ≤ k → k < length calls → session < (slice_index_or calls k d).session.0

-- What a contract sees of the lane.
use Rattle.std.specs.Prelude.{◌≡◌, ℕ, Bool, true, false, List, Option, None, replicate, slice_index_or, slice_set, if◌then◌else◌}
use Rattle.bng_access.specs.declared.rules.NasRules.{NasRules}
use Rattle.bng_rad_client.specs.declared.pending.Pending.{Pending}
use Rattle.bng_rad_client.specs.State.{State}
use Rattle.bng_base.specs.declared.address.TheConstants.{NOBODY}
use Rattle.bng_lane.specs.declared.rules.LaneRules.{LaneRules}
use Rattle.bng_rad_client.specs.State.{IsOpened}

-- the requests that are out, what an Access-Request says of the gateway, and for each identifier, 0 to 255, whether the request
-- that has it was sent at all
pub record LaneState : Type 0 where
  pub client : State
  pub nas : NasRules
  pub sent : List Bool

-- the Access-Requests that are out, by their identifiers
abbrev pub places_of : LaneState → List (Option Pending)
places_of l = l.client.auth.places

-- whether the request with an identifier was sent at all
abbrev pub flag_of : LaneState → ℕ → Bool
flag_of l id = slice_index_or l.sent id false

-- no request is out, and the first identifier that will be given is 0
pub record IsNewLane (rules : LaneRules) (l : LaneState) : Type 0 where
  pub client : IsOpened l.client rules.server NOBODY rules.secret.items rules.tries
  pub nas : l.nas ≡ rules.nas
  pub sent : l.sent ≡ replicate 256 false

-- the lane with that request out no longer
abbrev pub without : LaneState → ℕ → LaneState
without l id = record l { client = record l.client { auth = record l.client.auth { places = slice_set l.client.auth.places id None } } }

-- the lane after the outside said whether the request with an identifier was sent
abbrev pub noted : ℕ → Bool → LaneState → LaneState
noted id sent l = record l { sent = if sent then slice_set l.sent id true else l.sent }

-- the old lane but for the table of requests
abbrev pub with_table_of : (old new : LaneState) → LaneState
with_table_of old new = record old { client = record old.client { auth = new.client.auth } }

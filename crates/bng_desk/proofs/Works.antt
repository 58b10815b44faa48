-- A desk, and what its turns work on.
use Rattle.std.proofs.Common.{[], ◌∷◌, map, Vec, Global}
use Rattle.bng_base.specs.declared.item.Item.{Item}
use Rattle.bng_billing.specs.State.{BillingState}
use Rattle.bng_coa.specs.State.{State as CoaState}
use Rattle.bng_lane.specs.State.{LaneState}
use Rattle.bng_desk.specs.declared.lists.Lists.{Lists}
use Rattle.bng_desk.specs.declared.settlement.Works.{Works}
use Rattle.bng_desk.specs.Kept.{rested}
use Rattle.bng_desk.specs.Model.{Desk}
use Rattle.bng_desk.specs.Random.{Drawn}
use Rattle.bng_desk.proofs.Readying.{Shards}

-- a desk with these shards that works on the rest of this
abbrev pub with_works : Desk → Works → Shards → Desk
with_works d w shards = record d {
  lines = w.accounts.lines;
  stopped_book = w.accounts.stopped.carried;
  stops = w.accounts.stopped.stops;
  shards = shards;
  pool = w.pool;
  tallies = w.tally ∷ [];
  seed = w.draws.seed;
  drawn = w.draws.drawn;
  drops = w.drops;
  lane = w.lane;
  handed = w.handed.items;
  billing = w.accounts.billing;
  reports = w.accounts.reports;
  coa = w.coa;
  kept = w.kept.items;
}

-- as contracts see it
abbrev pub seen_with : Desk → Works → Desk
seen_with d w = with_works d w (map rested w.shards.items)

-- as it keeps what it keeps
abbrev pub kept_with : Desk → Works → Desk
kept_with d w = with_works d w w.shards.items

-- once a turn has gathered its items: accounting, the requests for changes and the lane have heard what came, octets were drawn, and
-- nothing stays
abbrev pub gathered : Works → BillingState → CoaState → LaneState → Drawn → Vec Item Global → Lists → Works
gathered w billing coa lane draws kept lists = record w { accounts = record w.accounts { billing = billing }; coa = coa; lane = lane; draws = draws; kept = kept; lists = lists }

-- with accounting as this
abbrev pub billed_by : Works → BillingState → Works
billed_by w billing = record w { accounts = record w.accounts { billing = billing } }

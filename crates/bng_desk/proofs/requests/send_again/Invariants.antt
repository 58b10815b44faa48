use Rattle.std.proofs.Common.{◌≡◌, List}
use Rattle.bng_base.specs.Chain.{Chain}
use Rattle.bng_base.specs.Stretch.{ExtendsPlant}
use Rattle.bng_lane.specs.Due.{due_count}
use Rattle.bng_lane.specs.Sends.{LaneSend, Resends}
use Rattle.bng_desk.specs.Logins.{lane_stretch}
use Rattle.bng_desk.proofs.requests.send_again.Given as goal

-- what was sent again so far
abbrev pub invariant-loop-id : goal.invariant-loop-id
invariant-loop-id g l =
    let told = g.P.Plant.told in
    record {
      resent : List LaneSend;
      sends : Chain (Resends l.now) l.fn.lane resent l.lane;
      told : ExtendsPlant (told l.fn.plant) (told l.plant) (lane_stretch l.fn.lane.client.auth_server resent);
      server : l.lane.client.auth_server ≡ l.fn.lane.client.auth_server;
    }

-- how many are still due
abbrev pub decreases-loop-id : goal.decreases-loop-id
decreases-loop-id g l = due_count l.lane l.now

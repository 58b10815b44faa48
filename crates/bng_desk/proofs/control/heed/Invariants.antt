use Rattle.std.proofs.Common.{◌≡◌, List, length}
use Rattle.bng_base.specs.Stretch.{ExtendsPlant}
use Rattle.bng_desk.specs.Reading.{is_empty}
use Rattle.bng_desk.specs.Control.{Heeded, has_stop, heeding}
use Rattle.bng_desk.specs.Report.{stats_by}
use Rattle.bng_desk.proofs.control.heed.Given as goal

abbrev pub invariant-loop-taken : goal.invariant-loop-taken
invariant-loop-taken g l =
    let told = g.P.Plant.told in
    record {
      heeded : List Heeded;
      told : ExtendsPlant (told l.fn.plant) (told l.plant) (heeding (stats_by l.counted.shards.now l.counted.accounts.now.stopped l.counted.tally l.counted.drops.now l.counted.profiles.now) heeded);
      count : length heeded ≡ l._taken;
      stop : l.stop ≡ has_stop heeded;
      idle : l.idle ≡ is_empty heeded;
    }

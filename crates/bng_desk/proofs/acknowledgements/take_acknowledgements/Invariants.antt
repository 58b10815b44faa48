use Rattle.std.proofs.Common.{◌≡◌, List, length}
use Rattle.bng_desk.specs.Accounting.{Acknowledged}
use Rattle.bng_desk.proofs.RecordLaws.{HeardRecords}
use Rattle.bng_desk.proofs.acknowledgements.take_acknowledgements.Given as goal

-- what was heard so far
abbrev pub invariant-loop-taken : goal.invariant-loop-taken
invariant-loop-taken g l =
    let told = g.P.Plant.told in
    record {
      acks : List Acknowledged;
      count : length acks ≡ l._taken;
      heard : HeardRecords (told l.fn.plant) (told l.plant) l.fn.billing l.billing l.quiet acks;
    }

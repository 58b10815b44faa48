use Rattle.std.proofs.Common.{◌≡◌, ◌≤◌, ◌+◌, ◌++◌, length, take, map, filter}
use Rattle.std.specs.Prelude.{count_by}
use Rattle.bng_ppp_wire.specs.View.{options_of}
use Rattle.bng_ppp_wire.specs.MadeOption.{all_made_of}
use Rattle.bng_ppp_wire.specs.OptionTable.{suggestion_of}
use Rattle.bng_ppp_wire.specs.Judgement.{is_missing}
use Rattle.bng_ppp_wire.proofs.judgement.add_missing.Given as goal

abbrev pub invariant-loop-row : goal.invariant-loop-row
invariant-loop-row l = record {
  few : length l.list.items ≤ 64 + count_by (λ row. row.must_be_named) (take l.row-index l.rows);
  are : all_made_of l.list.items
      ≡ all_made_of l.initial.list.items
      ++ map suggestion_of (filter (is_missing (options_of l.request)) (take l.row-index l.rows));
}

use Rattle.std.proofs.Common.{◌≡◌, ◌≤◌, length, take}
use Rattle.bng_ppp_wire.specs.View.{options_of}
use Rattle.bng_ppp_wire.specs.MadeOption.{all_made_of}
use Rattle.bng_ppp_wire.specs.Judgement.{corrected}
use Rattle.bng_ppp_wire.proofs.judgement.corrected.Given as goal

abbrev pub invariant-loop-option : goal.invariant-loop-option
invariant-loop-option l = record {
  few : length l.list.items ≤ l.option-index;
  are : all_made_of l.list.items ≡ corrected l.rows l.no_more_naks (options_of (take l.option-index l.request));
}

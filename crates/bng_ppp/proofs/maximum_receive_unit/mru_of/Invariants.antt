use Rattle.std.proofs.Common.{◌≡◌, take}
use Rattle.std.specs.Prelude.{fold}
use Rattle.bng_ppp_wire.specs.View.{options_of}
use Rattle.bng_ppp.specs.MaximumReceiveUnit.{mru_with}
use Rattle.bng_ppp.proofs.maximum_receive_unit.mru_of.Given as goal

abbrev pub invariant-loop-option : goal.invariant-loop-option
invariant-loop-option l = l.mru ≡ fold mru_with l.limit (options_of (take l.option-index l.options))

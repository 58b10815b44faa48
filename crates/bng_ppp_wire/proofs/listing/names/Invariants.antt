use Rattle.std.proofs.Common.{◌≡◌, false, take}
use Rattle.bng_ppp_wire.specs.View.{options_of}
use Rattle.bng_ppp_wire.specs.Listing.{names}
use Rattle.bng_ppp_wire.proofs.listing.names.Given as goal

abbrev pub invariant-loop-option : goal.invariant-loop-option
invariant-loop-option l = names (options_of (take l.option-index l.options)) l.kind ≡ false

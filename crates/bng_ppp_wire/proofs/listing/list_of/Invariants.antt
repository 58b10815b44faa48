use Rattle.std.proofs.Common.{◌≤◌, length}
use Rattle.bng_base.specs.PppGrammar.{OptionFits, option_text}
use Rattle.bng_ppp_wire.specs.View.{options_of}
use Rattle.bng_base.proofs.PieceLaws.{Reads}
use Rattle.bng_ppp_wire.proofs.listing.list_of.Given as goal

abbrev pub invariant-loop-rest : goal.invariant-loop-rest
invariant-loop-rest l = record {
  reads : Reads OptionFits option_text 64 l.body l.rest (options_of l.found.items) l.many;
  few : length l.found.items ≤ 64;
}

abbrev pub decreases-loop-rest : goal.decreases-loop-rest
decreases-loop-rest l = length l.rest

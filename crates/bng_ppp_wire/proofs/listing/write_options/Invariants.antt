use Rattle.std.proofs.Common.{◌≡◌, ◌≤◌, length, take}
use Rattle.bng_base.specs.PppGrammar.{options_text}
use Rattle.bng_ppp_wire.specs.View.{options_of}
use Rattle.bng_ppp_wire.proofs.listing.write_options.Given as goal

abbrev pub invariant-loop-option : goal.invariant-loop-option
invariant-loop-option l = record {
  size : l.size ≡ length (options_text (options_of (take l.option-index l.options)));
  small : l.size ≤ 4096;
}

abbrev pub invariant-loop-option-2 : goal.invariant-loop-option-2
invariant-loop-option-2 l = record {
  payload : l.into.payload ≡ options_text (options_of (take l.option-index l.options));
  headroom : l.into.headroom ≡ 64;
}

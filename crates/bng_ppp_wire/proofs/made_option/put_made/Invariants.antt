use Rattle.std.proofs.Common.{◌≡◌, ◌≤◌, ◌+◌, ◌*◌, ◌++◌, take, length}
use Rattle.std.specs.List.{AllByRecursion}
use Rattle.bng_base.specs.PppGrammar.{OptionFits, options_text}
use Rattle.bng_ppp_wire.specs.MadeOption.{all_made_of}
use Rattle.bng_ppp_wire.proofs.made_option.put_made.Given as goal

abbrev pub invariant-loop-option : goal.invariant-loop-option
invariant-loop-option l = record {
  text : l.into.payload ≡ l.initial.into.payload ++ options_text (all_made_of (take l.option-index l.made));
  short : length l.into.payload ≤ length l.initial.into.payload + 6 * l.option-index;
  headroom : l.into.headroom ≡ l.initial.into.headroom;
  fit : AllByRecursion OptionFits (all_made_of (take l.option-index l.made));
}

use Rattle.std.proofs.Common.{◌≡◌, ◌≤◌, ◌*◌, take, length, filter}
use Rattle.std.specs.List.{AllByRecursion}
use Rattle.bng_base.specs.PppGrammar.{OptionFits, options_text}
use Rattle.bng_ppp_wire.specs.View.{options_of}
use Rattle.bng_ppp_wire.specs.Listing.{names}
use Rattle.bng_ppp_wire.specs.MadeOption.{all_made_of}
use Rattle.bng_ppp_wire.proofs.configure_reply.put_named.Given as goal

abbrev pub invariant-loop-option : goal.invariant-loop-option
invariant-loop-option l = record {
  text : l.into.payload
      ≡ options_text (filter (λ o. names (options_of l.options) o.kind) (all_made_of (take l.option-index l.asked)));
  short : length l.into.payload ≤ 6 * l.option-index;
  headroom : l.into.headroom ≡ 64;
  fit : AllByRecursion OptionFits (all_made_of (take l.option-index l.asked));
}

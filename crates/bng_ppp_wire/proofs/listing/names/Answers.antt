use Rattle.std.proofs.Common.{sym}
use Rattle.bng_ppp_wire.proofs.OptionSteps.{blank}
use Rattle.bng_ppp_wire.proofs.NamesLaws.{names-at}
use Rattle.bng_ppp_wire.proofs.listing.names.Goals as goal

pub returns-then-option-kind : goal.returns-then-option-kind
returns-then-option-kind c =
    sym (names-at c.args.options.now c.loop-option.option-index c.args.kind blank c.loop-option-test.true c.if-option-kind.true)

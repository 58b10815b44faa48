use Rattle.std.proofs.Common.{ap, ◌∙◌}
use Rattle.bng_lac.specs.Steps.{Asking, asks_each}
use Rattle.bng_lac.proofs.hearing.connect_calls.Goals as goal

pub returns-clause-channel : goal.returns-clause-channel
returns-clause-channel c =
    ap (λ (a : Asking). a.channel) (c.ask_each.ensures ∙ ap (λ (a : Asking). asks_each a c.args.calls.now c.args.now) c.connect-before.ensures)

pub returns-clause-serial : goal.returns-clause-serial
returns-clause-serial c =
    ap (λ (a : Asking). a.serial) (c.ask_each.ensures ∙ ap (λ (a : Asking). asks_each a c.args.calls.now c.args.now) c.connect-before.ensures)

pub returns-clause-left_out : goal.returns-clause-left_out
returns-clause-left_out c =
    ap (λ (a : Asking). a.left_out) (c.ask_each.ensures ∙ ap (λ (a : Asking). asks_each a c.args.calls.now c.args.now) c.connect-before.ensures)

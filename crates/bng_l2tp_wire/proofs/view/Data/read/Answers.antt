use Rattle.std.proofs.Common.{◌≡◌}
use Rattle.bng_l2tp_wire.specs.Messages.{DataMessage, IsData}
use Rattle.bng_l2tp_wire.specs.declared.view.Data.{Data}
use Rattle.bng_l2tp_wire.specs.View.{data_of}
use Rattle.bng_l2tp_wire.proofs.Exact.{one_data}
use Rattle.bng_l2tp_wire.proofs.Exactly.{exactly_outside, only_found}
use Rattle.bng_l2tp_wire.proofs.view.Data.read.Goals as goal

pub returns-clause-only : goal.returns-clause-only
returns-clause-only c = λ a is.
    let bytes = c.args.bytes.now in
    only_found (λ (v : Data). IsData (data_of v) bytes) (λ (v : Data). data_of v ≡ a) ((b : DataMessage) → IsData b bytes → ⊥) c.data_at.result (λ v h. one_data (data_of v) a bytes h is) (λ none. none a is)
    c.data_at.ensures.found c.data_at.ensures.outside c.data_at.ensures.never

pub returns-clause-outside : goal.returns-clause-outside
returns-clause-outside c =
    let bytes = c.args.bytes.now in
    exactly_outside (λ (v : Data). IsData (data_of v) bytes) ((a : DataMessage) → IsData a bytes → ⊥) c.data_at.result (λ v h none. none (data_of v) h)
    c.data_at.ensures.found c.data_at.ensures.outside c.data_at.ensures.never

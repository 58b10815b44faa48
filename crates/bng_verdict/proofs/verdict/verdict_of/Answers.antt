use Rattle.std.proofs.Common.{rules}
use Rattle.bng_radius_wire.specs.Grammar.{whole}
use Rattle.bng_verdict.specs.Verdicts.{Replied}
use Rattle.bng_verdict.proofs.verdict.verdict_of.Goals as goal

pub returns-in-Ok : goal.returns-in-Ok
returns-in-Ok c = Replied (whole c.in-Ok.packet) (record { packet = search rules; few = search rules }) c.verdict_in.ensures

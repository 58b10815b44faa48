use Rattle.std.proofs.Common.{ℕ, List, subst}
use Rattle.bng_base.specs.declared.fate.Fate.TheVariants.{Dropped}
use Rattle.bng_forward.specs.Fates.{UpFate}
use Rattle.bng_forward.proofs.Exclusive.{up_once}
use Rattle.bng_forward.proofs.forward.up.Goals as goal

pub returns-in-Err-clause-fate : goal.returns-in-Err-clause-fate
returns-in-Err-clause-fate c = subst (λ (octets : List ℕ). UpFate c.args.found.now c.args.now octets (Dropped c.in-Err.cause)) c.payload.ensures.octets c.in-Err.ensures.fate

pub returns-in-Err-clause-only : goal.returns-in-Err-clause-only
returns-in-Err-clause-only c = λ fate h.
    up_once c.args.found.now c.args.now c.args.packet.now.payload fate (Dropped c.in-Err.cause) h
    (subst (λ (octets : List ℕ). UpFate c.args.found.now c.args.now octets (Dropped c.in-Err.cause)) c.payload.ensures.octets c.in-Err.ensures.fate)

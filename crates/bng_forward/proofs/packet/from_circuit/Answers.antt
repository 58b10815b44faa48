use Rattle.std.proofs.Common.{sym, subst}
use Rattle.std.specs.Prelude.{IfOk}
use Rattle.bng_forward.specs.Packets.{MayPassUp, fate_of}
use Rattle.bng_forward.specs.Fates.{Found, UpFate}
use Rattle.bng_forward.proofs.packet.from_circuit.Goals as goal

pub returns-in-Some-clause-fate : goal.returns-in-Some-clause-fate
returns-in-Some-clause-fate c =
    subst (λ (found : Found). UpFate found c.args.now c.args.bytes.now (fate_of c.from_session.result)) (sym c.in-Some.is) c.from_session.ensures.fate

pub returns-in-Some-clause-may : goal.returns-in-Some-clause-may
returns-in-Some-clause-may c =
    subst (λ (found : Found). IfOk c.from_session.result (λ v. MayPassUp found c.args.now v)) (sym c.in-Some.is) c.from_session.ensures.may

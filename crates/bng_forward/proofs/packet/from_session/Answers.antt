use Rattle.std.proofs.Common.{Option, Some, sym, subst}
use Rattle.std.specs.Prelude.{IfOk}
use Rattle.bng_forward.specs.declared.view.TermView.{TermView}
use Rattle.bng_forward.specs.Packets.{MayPassUp, fate_of}
use Rattle.bng_forward.specs.Fates.{UpFate}
use Rattle.bng_forward.proofs.packet.from_session.Goals as goal

pub returns-in-Some-clause-fate : goal.returns-in-Some-clause-fate
returns-in-Some-clause-fate c =
    subst (λ (term : Option TermView). UpFate (Some term) c.args.now c.args.bytes.now (fate_of c.from_term.result)) (sym c.in-Some.is) c.from_term.ensures.fate

pub returns-in-Some-clause-may : goal.returns-in-Some-clause-may
returns-in-Some-clause-may c =
    subst (λ (term : Option TermView). IfOk c.from_term.result (λ v. MayPassUp (Some term) c.args.now v)) (sym c.in-Some.is) c.from_term.ensures.may

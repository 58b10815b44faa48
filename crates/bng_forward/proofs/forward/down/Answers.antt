use Rattle.bng_base.specs.declared.fate.Fate.TheVariants.{Forwarded, Dropped}
use Rattle.bng_forward.proofs.Exclusive.{down_once}
use Rattle.bng_forward.proofs.forward.down.Goals as goal

pub returns-in-Some-clause-fate : goal.returns-in-Some-clause-fate
returns-in-Some-clause-fate c = λ holders e. c.in-Some.ensures.fate holders c.args.packet.now.payload c.requires e

pub returns-in-Some-clause-only : goal.returns-in-Some-clause-only
returns-in-Some-clause-only c = λ holders e fate h.
    down_once holders c.args.now c.args.packet.now.payload fate (Dropped c.in-Some.cause) h (c.in-Some.ensures.fate holders c.args.packet.now.payload c.requires e)

pub returns-in-None-clause-fate : goal.returns-in-None-clause-fate
returns-in-None-clause-fate c = λ holders e. c.in-None.ensures.fate holders c.args.packet.now.payload c.requires e

pub returns-in-None-clause-only : goal.returns-in-None-clause-only
returns-in-None-clause-only c = λ holders e fate h.
    down_once holders c.args.now c.args.packet.now.payload fate Forwarded h (c.in-None.ensures.fate holders c.args.packet.now.payload c.requires e)

use Rattle.std.proofs.Common.{false, subst, sym}
use Rattle.std.specs.Prelude.{IsTrue}
use Rattle.bng_pppoe_wire.specs.declared.scan.Scan.{Scan}
use Rattle.bng_pppoe_wire.specs.View.{frame_of}
use Rattle.bng_pppoe_wire.specs.Frame.{IsRight}
use Rattle.bng_pppoe_wire.proofs.Judging.{discovery_right}
use Rattle.bng_pppoe_wire.proofs.frame.discovery_fault.Goals as goal

pub returns-in_default : goal.returns-in_default
returns-in_default c = λ d. c.in_default.ensures d.tags d.listed

pub returns-then-not-is_right : goal.returns-then-not-is_right
returns-then-not-is_right c = λ d.
    let p = frame_of c.args.frame.now in
    let s = c.in-Some.ensures in
    let right : IsRight p.code p.session c.in-Some.scan = subst (λ (x : Scan). IsRight p.code p.session x) (sym s.2) (discovery_right p s.0 s.1 d) in
    let no : IsTrue false = c.if-not-is_right.ensures.1 right in
    absurd cc

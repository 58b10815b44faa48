use Rattle.std.proofs.Common.{arith}
use Rattle.bng_spell.proofs.Reading.{stands_on}
use Rattle.bng_spell.proofs.many.many.Goals as goal

pub loop-line-smaller : goal.loop-line-smaller
loop-line-smaller g c =
    let there = c.loop-line.invariant.1 in
    let within = there.within in
    let line = c.in-Some.ensures.found.1 in
    let more = line.within in
    omega (arith, within, more, stands_on c.args.whole.now _ c.loop-line.next c.in-Some.after within line, g.met.L.Line.some c.args.within c.in-Some.line)

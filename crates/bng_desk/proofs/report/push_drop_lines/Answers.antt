use Rattle.std.proofs.Common.{◌<◌, ℕ, List, length, arith}
use Rattle.std.proofs.lemmas.Grind.{common_steps}
use Rattle.bng_desk.specs.Causes.{causes}
use Rattle.bng_desk.proofs.Texts.{lines_more}
use Rattle.bng_desk.proofs.report.push_drop_lines.Goals as goal

pub loop-number-preserved : goal.loop-number-preserved
loop-number-preserved c =
    let n : ℕ = c.loop-number.number in
    let ds : List ℕ = c.args.drops.now in
    let in_causes : n < length causes = omega arith in
    let in_drops : n < length ds = omega arith in
    let more = lines_more causes ds n in_causes in_drops in
    grind (arith, common_steps, more, c.in_ok-push_drop_line.ensures, c.loop-number.invariant)

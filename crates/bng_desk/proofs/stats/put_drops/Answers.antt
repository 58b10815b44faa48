use Rattle.std.proofs.Common.{◌<◌, ℕ, List, length, ◌∙◌, arith}
use Rattle.std.proofs.lemmas.Grind.{common_steps}
use Rattle.bng_desk.specs.Causes.{causes}
use Rattle.bng_desk.proofs.Texts.{lines_more}
use Rattle.bng_desk.proofs.stats.put_drops.Goals as goal

pub put_drop-requires-clause-room : goal.put_drop-requires-clause-room
put_drop-requires-clause-room c = omega (arith, c.loop-number.invariant.few, c.loop-number.invariant.headroom, c.requires.room, c.loop-number-test.true)

pub loop-number-preserved : goal.loop-number-preserved
loop-number-preserved c =
    let n : ℕ = c.loop-number.number in
    let ds : List ℕ = c.args.drops.now in
    let in_causes : n < length causes = omega arith in
    let in_drops : n < length ds = omega arith in
    let more = lines_more causes ds n in_causes in_drops in
    record {
      text = grind (arith, common_steps, more, c.put_drop.ensures.text, c.loop-number.invariant.text);
      few = omega (arith, c.put_drop.ensures.few, c.loop-number.invariant.few);
      headroom = c.put_drop.ensures.headroom ∙ c.loop-number.invariant.headroom;
    }

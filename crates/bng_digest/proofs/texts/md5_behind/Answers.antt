use Rattle.std.proofs.Common.{[], append_assoc}
use Rattle.std.proofs.lemmas.List.{take_more, map-append, append-nil}
use Rattle.std.proofs.lemmas.List.Folds.{concat-append}
use Rattle.bng_digest.proofs.texts.md5_behind.Goals as goal

pub loop-text-preserved : goal.loop-text-preserved
loop-text-preserved c =
    rw (take_more c.args.texts.now c.loop-text.text-index (record { ref_ptr = (0, 0); now = [] }) c.loop-text-test.true, map-append, concat-append, append-nil, ← append_assoc)
    (c.update-in-loop-text.ensures _ c.loop-text.invariant)

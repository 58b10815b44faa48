use Rattle.std.proofs.Common.{◌∙◌}
use Rattle.bng_pool.proofs.Scanning.{scan_keeps}
use Rattle.bng_parts_tests.proofs.pool.seek.Goals as goal

pub returns : goal.returns
returns c = let t = scan_keeps _ _ _ _ _ c.scan.ensures.2 in (t.0 ∙ c.requires.pool.0, t.1)

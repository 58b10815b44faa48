use Rattle.std.proofs.Common.{length, ap, sym, ◌∙◌}
use Rattle.bng_l2tp_reliable.proofs.Rings.{length-window}
use Rattle.bng_l2tp_reliable.proofs.ring.Ring.len.Goals as goal

pub returns-clause-value : goal.returns-clause-value
returns-clause-value c =
    sym (length-window 72 _ _ c.self.inside.places c.self.invariant.0 c.self.invariant.1 c.self.invariant.2) ∙ ap length c.self.view_is

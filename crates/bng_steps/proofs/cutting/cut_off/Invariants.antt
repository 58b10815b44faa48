use Rattle.std.proofs.Common.{◌≡◌, ◌-◌}
use Rattle.std.specs.Prelude.{fold}
use Rattle.std.specs.List.{range_with_len}
use Rattle.bng_steps.specs.declared.rules.Rules.{Rules}
use Rattle.bng_steps.specs.Cutting.{cut_at}
use Rattle.bng_steps.specs.Placed.{ArePlaced}
use Rattle.bng_steps.specs.TermRows.{KeepSums, whole}
use Rattle.bng_steps.proofs.cutting.cut_off.Given as goal

abbrev pub invariant-loop-n : goal.invariant-loop-n
invariant-loop-n g l = record {
  cut : whole l.served l.terms ≡ fold (cut_at l.tunnel.0) (whole l.fn.served l.fn.terms) (range_with_len l.first (l.n - l.first));
  sums : KeepSums l.fn.terms l.terms;
  shard : l.served.sessions.shard ≡ l.fn.served.sessions.shard;
  placed : (r : Rules) → ArePlaced r l.fn.served.sessions → ArePlaced r l.served.sessions;
}

use Rattle.std.proofs.Common.{◌≡◌, length}
use Rattle.toml.specs.View.{view}
use Rattle.bng_schema.specs.Forms.{EachPlace}
use Rattle.bng_config.specs.Configuration.{IsLacAt}
use Rattle.bng_config.proofs.lacs.lacs_of.Given as goal

abbrev pub invariant-loop-place : goal.invariant-loop-place
invariant-loop-place l = record {
  done : length l.lacs.items ≡ l.place;
  are : EachPlace (IsLacAt (view l.document)) l.lacs.items;
}

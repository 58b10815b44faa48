use Rattle.std.proofs.Common.{◌≡◌, length}
use Rattle.toml.specs.View.{view}
use Rattle.bng_schema.specs.Forms.{EachPlace}
use Rattle.bng_config.specs.Configuration.{IsPort}
use Rattle.bng_config.proofs.access.ports_of.Given as goal

abbrev pub invariant-loop-place : goal.invariant-loop-place
invariant-loop-place l = record {
  done : length l.ports.items ≡ l.place;
  are : EachPlace (IsPort (view l.document)) l.ports.items;
}

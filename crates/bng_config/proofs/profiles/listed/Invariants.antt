use Rattle.std.proofs.Common.{◌≡◌, length}
use Rattle.toml.specs.View.{view}
use Rattle.bng_schema.specs.Forms.{EachPlace}
use Rattle.bng_config.specs.Configuration.{IsProfile}
use Rattle.bng_config.proofs.profiles.listed.Given as goal

abbrev pub invariant-loop-place : goal.invariant-loop-place
invariant-loop-place l = record {
  done : length l.profiles.items ≡ l.place;
  are : EachPlace (IsProfile (view l.document)) l.profiles.items;
}

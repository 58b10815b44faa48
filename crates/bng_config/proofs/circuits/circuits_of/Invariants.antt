use Rattle.std.proofs.Common.{◌≡◌, length}
use Rattle.toml.specs.View.{view}
use Rattle.bng_schema.specs.Forms.{EachPlace}
use Rattle.bng_config.specs.Configuration.{IsCircuit}
use Rattle.bng_config.proofs.circuits.circuits_of.Given as goal

abbrev pub invariant-loop-place : goal.invariant-loop-place
invariant-loop-place l = record {
  done : length l.circuits.items ≡ l.place;
  are : EachPlace (IsCircuit (view l.document) l.profiles) l.circuits.items;
}

use Rattle.std.proofs.Common.{◌≡◌, ◌≤◌, All, length, map, take}
use Rattle.toml.specs.Data.{string}
use Rattle.toml.specs.View.{view}
use Rattle.bng_schema.specs.Names.{IsShortText}
use Rattle.bng_schema.proofs.names.services_in.Given as goal

abbrev pub invariant-loop-value : goal.invariant-loop-value
invariant-loop-value l = record {
  few : length l.list ≤ 8;
  done : length l.services.items ≡ l.value-index;
  spell : map view (take l.value-index l.list) ≡ map (λ s. string s.items) l.services.items;
  are : All (λ s. IsShortText 64 s.items) l.services.items;
}

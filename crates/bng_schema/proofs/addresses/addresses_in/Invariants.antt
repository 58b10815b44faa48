use Rattle.std.proofs.Common.{◌≡◌, ◌<◌, ◌≤◌, ◌^◌, All, length, map, take}
use Rattle.toml.specs.Data.{string}
use Rattle.toml.specs.View.{view}
use Rattle.bng_schema.specs.Address.{address_text}
use Rattle.bng_schema.proofs.addresses.addresses_in.Given as goal

abbrev pub invariant-loop-value : goal.invariant-loop-value
invariant-loop-value g l = record {
  some : l.least ≤ length l.list;
  few : length l.list ≤ g.row.MOST;
  done : length l.addresses.items ≡ l.value-index;
  spell : map view (take l.value-index l.list) ≡ map (λ a. string (address_text a)) l.addresses.items;
  are : All (λ a. a.0 < 2 ^ 32) l.addresses.items;
}

-- Which shard an item is for.
use Rattle.std.specs.Prelude.{◌≡◌, ℕ, Option, Some, None}
use Rattle.bng_base.specs.declared.fate.Fate.{Fate}
use Rattle.bng_base.specs.declared.item.Item.{Item}
use Rattle.bng_steps.specs.declared.destination.Destination.{Destination}
use Rattle.bng_steps.specs.declared.destination.Destination.TheVariants.{Loose as LeadsNowhere, Stands as LeadsTo, Holder}
use Rattle.bng_steps.specs.declared.rules.Rules.{Rules}
use Rattle.bng_steps.specs.declared.whose.Whose.{Whose}
use Rattle.bng_steps.specs.declared.whose.Whose.TheVariants.{Loose, Stands}
use Rattle.bng_steps.specs.Destinations.{IsDestination}

-- it stands in the shard that holds an address, and where none does it is loose with this fate
abbrev pub IsHeldOr : Fate → Option ℕ → Whose → Type 0
IsHeldOr fate None whose = whose ≡ Loose fate
IsHeldOr fate (Some shard) whose = whose ≡ Stands shard

-- what comes of where it leads, where this tells which shard holds an address
abbrev pub IsFound : (ℕ → Option ℕ) → Destination → Whose → Type 0
IsFound holder (LeadsNowhere fate) whose = whose ≡ Loose fate
IsFound holder (LeadsTo shard) whose = whose ≡ Stands shard
IsFound holder (Holder address fate) whose = IsHeldOr fate (holder address.0) whose

-- Whose an item is: where it leads by its octets and the rules, and for an address who holds it.
pub record IsWhose (r : Rules) (holder : ℕ → Option ℕ) (item : Item) (whose : Whose) : Type 0 where
  pub destination : Destination
  pub leads : IsDestination r item destination
  pub found : IsFound holder destination whose

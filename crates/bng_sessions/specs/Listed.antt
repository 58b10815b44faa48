-- The sessions of a shard as a list, for sums and counts over them.
use Rattle.std.specs.Prelude.{ℕ, List}
use Rattle.std.specs.FinMap as map
use Rattle.bng_sessions.specs.Sessions.{Sessions}

module _ {V : Type 0} where
  -- the used session numbers with their values, by rising number
  abbrev pub numbers_and_values : Sessions V → List (ℕ × V)
  numbers_and_values s = map.entries s.by_number

  -- the values, by rising number
  abbrev pub values : Sessions V → List V
  values s = map.values s.by_number

-- What the source of seeds in memory tells and holds.
use Rattle.std.specs.Prelude.{ℕ, ◌+◌, List, Some, None, Option, take}
use Rattle.bng_base.specs.Told.{EntropyTold}
use Rattle.bng_plant.specs.Failing.{Calls, calls_of, one_more}
use Rattle.bng_plant.specs.declared.answers.Seeded.{Seeded}
use Rattle.bng_plant.specs.declared.answers.Seeded.TheVariants.{Seed, Failed}
use Rattle.bng_plant.specs.declared.memory_entropy.MemoryEntropy.{MemoryEntropy}

abbrev pub told_by : MemoryEntropy → EntropyTold
told_by e = record { seeds = Some (take e.given e.seeds.items); faults = e.failing.faults }

-- its calls, the seeds of its list, and how many of them were given
pub record EntropyHeld : Type 0 where
  pub calls : Calls
  pub seeds : List (List ℕ)
  pub given : ℕ

abbrev pub held_by : MemoryEntropy → EntropyHeld
held_by e = record { calls = calls_of e.failing; seeds = e.seeds.items; given = e.given }

-- the seed that was given
abbrev pub seed_of : Seeded → Option (List ℕ)
seed_of (Seed octets) = Some octets
seed_of Failed = None

-- what it holds after a call that answered this
abbrev pub held_after : Seeded → EntropyHeld → EntropyHeld
held_after (Seed octets) e = record { calls = one_more e.calls; seeds = e.seeds; given = e.given + 1 }
held_after Failed e = record { calls = one_more e.calls; seeds = e.seeds; given = e.given }

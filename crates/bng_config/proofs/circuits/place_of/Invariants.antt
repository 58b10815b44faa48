use Rattle.std.proofs.Common.{◌≢◌, ◌<◌, ℕ, get_or}
use Rattle.bng_base.specs.declared.book.Profile.{Profile}
use Rattle.bng_config.proofs.circuits.place_of.Given as goal

abbrev pub invariant-loop-place : goal.invariant-loop-place
invariant-loop-place l = (i : ℕ) → i < l.place → (d : Profile) → (get_or l.profiles i d).name.items ≢ l.name

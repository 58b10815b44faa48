-- The meters of the terms of a shard.
use Rattle.std.proofs.Common.{◌≡◌, ℕ, ◌*◌, List, length}
use Rattle.std.proofs.lemmas.List.FromFn.{length-map-range_with_len}
use Rattle.bng_base.specs.declared.book.Profile.{Profile}
use Rattle.bng_base.specs.declared.settings.Static.{Static}
use Rattle.bng_steps.specs.Opening.{circuit_at, circuit_meters, opened_meters}

-- there are 1,024 at the opening
pub opened_length : (shard : ℕ) (profiles : List Profile) (circuits : List Static) (now : ℕ) → length (opened_meters shard profiles circuits now) ≡ 1024
unfolding opened_meters
opened_length shard profiles circuits now = length-map-range_with_len (λ (n : ℕ). circuit_meters profiles now (circuit_at circuits n)) (shard * 1024) 1024

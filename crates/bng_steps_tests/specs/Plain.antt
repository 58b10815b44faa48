-- What a plain store keeps: its entries by rising number, each of the shard.
use Rattle.std.specs.Prelude.{◌≡◌, ◌⊎◌, ℕ, ◌<◌, ◌≤◌, List, T, Option, Some, None}
use Rattle.std.specs.FinMap.{from_sorted, is_sorted}
use Rattle.std.specs.Ordering.{nat_cmp}
use Rattle.bng_base.specs.declared.address.SessionNo.{SessionNo}
use Rattle.bng_sessions.specs.Sessions.{Sessions, read_at}
use Rattle.bng_steps.specs.Timers.{deadline_of}
use Rattle.bng_steps.specs.declared.session.Session.{Session}
use Rattle.bng_steps.specs.Serving.{AreOfShard}

abbrev pub seen : ℕ → List (ℕ × Session) → Sessions Session
seen shard entries = record { shard = shard; by_number = from_sorted entries }

pub record IsPlain (shard : ℕ) (entries : List (ℕ × Session)) (capacity : ℕ) : Type 0 where
  pub low : shard < 64
  pub sorted : T (is_sorted nat_cmp entries)
  pub of_shard : AreOfShard (seen shard entries)
  pub room : 1022 < capacity

-- the earliest deadline of the numbers below this one, with the lowest number that has it
abbrev pub IsBest : Sessions Session → ℕ → Option (ℕ × SessionNo) → Type 0
IsBest s n None = (m : ℕ) → m < n → read_at deadline_of s m ≡ None
IsBest s n (Some e) = (read_at deadline_of s e.1.0 ≡ Some e.0) × ((e.1.0 < n) × ((m later : ℕ) → m < n → read_at deadline_of s m ≡ Some later → (e.0 < later) ⊎ ((e.0 ≡ later) × (e.1.0 ≤ m))))

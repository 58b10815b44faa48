-- What a shard's slots hold: a finite map from session number to value. All else is a function of it.
use Rattle.std.specs.Prelude.{◌≡◌, ◌≢◌, ◌⊎◌, ℕ, ◌+◌, ◌*◌, ◌<◌, ◌≤◌, Option, Some, None, IsSome, refl}
use Rattle.std.specs.Option.{option_and_then}
use Rattle.std.specs.Ordering.{nat_cmp}
use Rattle.std.specs.FinMap as map
use Rattle.std.specs.FinMap.{FinMap}
use Rattle.std.specs.Coded.{Coded, code_by, coded×, coded_ℕ}

-- the shard's number, and its values by session number
pub record Sessions (V : Type 0) : Type 0 where
  pub shard : ℕ
  pub by_number : FinMap nat_cmp V

abbrev pub sessions_code : {V : Type 0} → Coded V → Coded (Sessions V)
sessions_code {V} code =
    code_by
    (ℕ × FinMap nat_cmp V)
    (coded× coded_ℕ (map.code coded_ℕ code))
    (λ s. (s.shard, s.by_number))
    (λ p. record { shard = p.0; by_number = p.1 })
    (λ _. refl)

-- the session numbers of a shard: 1,024 times its number, and an index of 1 to 1,022
abbrev pub IsNumberOf : ℕ → ℕ → Type 0
IsNumberOf shard n = (shard * 1024 + 1 ≤ n) × (n ≤ shard * 1024 + 1022)

module _ {V : Type 0} where
  -- the value of a session number, if it is used
  abbrev pub value_at : Sessions V → ℕ → Option V
  value_at s n = map.get s.by_number n

  -- what the value of a session number has by this reader, if the number is used and its value has any
  abbrev pub read_at : {K : Type 0} → (V → Option K) → Sessions V → ℕ → Option K
  read_at read s n = option_and_then read (value_at s n)

  -- how many session numbers are used
  abbrev pub used : Sessions V → ℕ
  used s = map.len s.by_number

  -- a session number more
  abbrev pub with_value : Sessions V → ℕ → V → Sessions V
  with_value s n value = record s { by_number = map.insert s.by_number n value }

  -- a session number less, where it was used
  abbrev pub without : Sessions V → ℕ → Sessions V
  without s n = record s { by_number = map.remove s.by_number n }

  -- no slot has by this reader what the value has
  abbrev pub NoneShares : {K : Type 0} → (V → Option K) → Sessions V → V → Type 0
  NoneShares {K} read s value = (n : ℕ) (k : K) → read value ≡ Some k → read_at read s n ≢ Some k

  -- the lowest session number of the shard that is not used
  pub record IsLowestVacant (s : Sessions V) (n : ℕ) : Type 0 where
    pub of_shard : IsNumberOf s.shard n
    pub vacant : value_at s n ≡ None
    pub lower_used : (m : ℕ) → IsNumberOf s.shard m → m < n → IsSome (value_at s m)

  -- the earliest deadline, and of the sessions that have it the one with the lowest number
  pub record IsEarliest (deadline : V → Option ℕ) (s : Sessions V) (moment n : ℕ) : Type 0 where
    pub has : read_at deadline s n ≡ Some moment
    pub first : (m later : ℕ) → read_at deadline s m ≡ Some later → (moment < later) ⊎ ((moment ≡ later) × (n ≤ m))

-- What a lane keeps beside its requests.
use Rattle.std.specs.Prelude.{◌≡◌, ℕ, ◌≤◌, List, Option, Some, None, length, slice_set}
use Rattle.bng_rad_client.specs.declared.pending.Pending.{Pending}
use Rattle.bng_rad_client.specs.declared.due.Sought.TheVariants.{Any}
use Rattle.bng_rad_client.specs.declared.due.LastSend.{LastSend}
use Rattle.bng_rad_client.specs.Table.{taken}
use Rattle.bng_rad_client.specs.Due.{is_sought, IsOldestOrNone}

-- each identifier has a place; the request that was sent first and the number of requests are those of the places
pub record IsKept (places : List (Option Pending)) (first : Option LastSend) (out : ℕ) : Type 0 where
  pub size : length places ≡ 256
  pub oldest : IsOldestOrNone (is_sought Any 0) places 256 first
  pub count : out ≡ taken places

-- a request was sent before another, or at the same moment under an identifier that is no higher
pub record ComesFirst (first second : LastSend) : Type 0 where
  pub moment : first.sent_at ≤ second.sent_at
  pub lower : first.sent_at ≡ second.sent_at → first.id ≤ second.id

-- the request with an identifier left; before, this one was sent first
pub record HasLeft (first : Option LastSend) (id : ℕ) (places : List (Option Pending)) : Type 0 where
  pub before : List (Option Pending)
  pub oldest : IsOldestOrNone (is_sought Any 0) before 256 first
  pub written : places ≡ slice_set before id None

-- a request came to an identifier; before, this one was sent first
pub record HasCome (first : Option LastSend) (came : LastSend) (places : List (Option Pending)) : Type 0 where
  pub before : List (Option Pending)
  pub oldest : IsOldestOrNone (is_sought Any 0) before 256 first
  pub request : Pending
  pub moment : came.sent_at ≡ request.sent_at
  pub written : places ≡ slice_set before came.id (Some request)

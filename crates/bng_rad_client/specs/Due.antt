-- When a request is sent again or given up (RFC 2865 section 2.5).
use Rattle.std.specs.Prelude.{◌≡◌, ℕ, ◌+◌, ◌≤◌, ◌<◌, Bool, true, ◌&&◌, nat_le, nat_lt, if◌then◌else◌, List, Option, Some, None}
use Rattle.bng_rad_client.specs.declared.pending.Pending.{Pending}
use Rattle.bng_rad_client.specs.declared.due.Sought.{Sought}
use Rattle.bng_rad_client.specs.declared.due.Sought.TheVariants.{Timeout, Resend, Endless, Any}
use Rattle.bng_rad_client.specs.declared.due.LastSend.{LastSend}
use Rattle.bng_rad_client.specs.Table.{request_of}

-- 3 s after its last send a request is due: it is given up where it was sent as often as it is to be, and else sent again
abbrev pub is_sought : Sought → ℕ → Pending → Bool
is_sought (Timeout tries) now r = nat_le (r.sent_at + 3000) now && nat_le tries r.sends
is_sought (Resend tries) now r = nat_le (r.sent_at + 3000) now && nat_lt r.sends tries
is_sought Endless now r = nat_le (r.sent_at + 3000) now
is_sought Any now r = true

-- the best so far, or else a request that was sent before it
abbrev pub newer : Option LastSend → LastSend → Option LastSend
newer None d = Some d
newer (Some b) d = if nat_le b.sent_at d.sent_at then Some b else Some d

abbrev pub older : (Pending → Bool) → Option LastSend → ℕ → Option Pending → Option LastSend
older wanted best id None = best
older wanted best id (Some r) = if wanted r then newer best (record { id = id; sent_at = r.sent_at }) else best

-- of the requests below an identifier this one was sent first, the lowest identifier where several were
pub record IsOldestBelow (wanted : Pending → Bool) (places : List (Option Pending)) (n : ℕ) (d : LastSend) : Type 0 where
  pub request : Pending
  pub is : request_of places d.id ≡ Some request
  pub wants : wanted request ≡ true
  pub moment : d.sent_at ≡ request.sent_at
  pub below : d.id < n
  pub first : (j : ℕ) (r : Pending) → j < n → request_of places j ≡ Some r → wanted r ≡ true → (d.sent_at ≤ r.sent_at) × (d.sent_at ≡ r.sent_at → d.id ≤ j)

-- no request below an identifier is wanted
abbrev pub NoneBelow : (Pending → Bool) → List (Option Pending) → ℕ → Type 0
NoneBelow wanted places n = (j : ℕ) (r : Pending) → j < n → request_of places j ≡ Some r → wanted r ≡ true → ⊥

-- a request below an identifier is wanted
pub record OneBelow (wanted : Pending → Bool) (places : List (Option Pending)) (n : ℕ) : Type 0 where
  pub id : ℕ
  pub request : Pending
  pub below : id < n
  pub is : request_of places id ≡ Some request
  pub wants : wanted request ≡ true

abbrev pub IsOldestOrNone : (Pending → Bool) → List (Option Pending) → ℕ → Option LastSend → Type 0
IsOldestOrNone wanted places n None = NoneBelow wanted places n
IsOldestOrNone wanted places n (Some d) = IsOldestBelow wanted places n d

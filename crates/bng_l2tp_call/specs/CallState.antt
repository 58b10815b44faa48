-- What a contract sees of a call.
use Rattle.std.specs.Prelude.{ℕ, Bool, true, false, List, Option, None}
use Rattle.bng_l2tp_call.specs.declared.phase.CallPhase.{CallPhase}
use Rattle.bng_l2tp_call.specs.declared.phase.CallPhase.TheVariants.{Idle, WaitConnect, Established, Ended}

pub record CallState : Type 0 where
  -- the secret that is shared with the peer
  pub secret : Option (List ℕ)
  -- the gateway's number of the session, 0 where none may be taken
  pub session : ℕ
  pub phase : CallPhase
  -- the peer's Assigned Session ID
  pub peer_number : Option ℕ

-- a call that has taken no message
abbrev pub fresh : Option (List ℕ) → ℕ → CallState
fresh secret session = record { secret = secret; session = session; phase = Idle; peer_number = None }

abbrev pub is_idle : CallPhase → Bool
is_idle Idle = true
is_idle WaitConnect = false
is_idle Established = false
is_idle Ended = false

abbrev pub is_waiting : CallPhase → Bool
is_waiting Idle = false
is_waiting WaitConnect = true
is_waiting Established = false
is_waiting Ended = false

abbrev pub is_established : CallPhase → Bool
is_established Idle = false
is_established WaitConnect = false
is_established Established = true
is_established Ended = false

abbrev pub is_ended : CallPhase → Bool
is_ended Idle = false
is_ended WaitConnect = false
is_ended Established = false
is_ended Ended = true

-- a call that was made, and has not ended
abbrev pub stands : CallPhase → Bool
stands Idle = false
stands WaitConnect = true
stands Established = true
stands Ended = false

-- how far a call has come
abbrev pub rank : CallPhase → ℕ
rank Idle = 0
rank WaitConnect = 1
rank Established = 2
rank Ended = 3

-- The messages in flight, and how long each waits for its acknowledgement, by RFC 2661 section 5.8. Times are in milliseconds.
use Rattle.std.specs.Prelude.{◌≡◌, ℕ, ◌<◌, ◌≤◌, ◌+◌, ◌-◌, ◌^◌, Bool, nat_le, nat_lt, min, List, [], ◌∷◌, length, Some, None, Option, unwrap_or, slice_get, if◌then◌else◌}
use Rattle.bng_l2tp_reliable.specs.declared.sent.Sent.{Sent}
use Rattle.bng_l2tp_reliable.specs.declared.answers.Due.{Due}
use Rattle.bng_l2tp_reliable.specs.declared.answers.Due.TheVariants.{Nothing, Resend, GiveUp}

-- how long a message waits before each time that it goes out again
abbrev pub waits : List ℕ
waits = 1000 ∷ 2000 ∷ 4000 ∷ 8000 ∷ 8000 ∷ []

-- how long a message that went out again so often waits before the next time, or before it is given up
abbrev pub wait : ℕ → ℕ
wait resends = unwrap_or (slice_get waits resends) 8000

-- the wait is over
abbrev pub is_over : Sent → ℕ → Bool
is_over s moment = nat_le (s.moment + wait s.resends) moment

-- What the oldest message in flight asks for: to go out again where its wait is over, at most five times, and then to be given up.
abbrev pub flight_due : List Sent → ℕ → Due
flight_due [] moment = Nothing
flight_due (oldest ∷ others) moment =
    if is_over oldest moment then (if nat_lt oldest.resends (length waits) then Resend else GiveUp) else Nothing

-- the first moment at which it asks for something
abbrev pub flight_deadline : List Sent → Option ℕ
flight_deadline [] = None
flight_deadline (oldest ∷ others) = Some (oldest.moment + wait oldest.resends)

-- a message goes out for the first time
abbrev pub sent_first : ℕ → Sent
sent_first moment = record { moment = moment; resends = 0 }

-- a message goes out again; a count stands still at its type's end
abbrev pub sent_again : ℕ → Sent → Sent
sent_again moment s = record { moment = moment; resends = min (s.resends + 1) (2 ^ 8 - 1) }

-- Of two messages in flight the older went out again at least as often; where the younger went out again, both did last at one moment.
pub record IsOlder (old young : Sent) : Type 0 where
  pub resends : young.resends ≤ old.resends
  pub together : 0 < young.resends → old.moment ≡ young.moment

-- the fifth time that it went out again is unanswered 8 seconds later
abbrev pub IsUnanswered : ℕ → Sent → Type 0
IsUnanswered moment s = (5 ≤ s.resends) × (s.moment + 8000 ≤ moment)

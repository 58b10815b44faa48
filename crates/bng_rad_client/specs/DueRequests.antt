-- What is due of both lanes.
use Rattle.std.specs.Prelude.{◌≡◌, ℕ, ◌+◌, ◌-◌, ◌^◌, ◌≤◌, ◌<◌, min, Bool, true, false, nat_le, if◌then◌else◌, List, Option, Some, None}
use Rattle.bng_base.specs.Packet.{Packet as Bytes}
use Rattle.bng_rad_client.specs.declared.pending.Pending.{Pending}
use Rattle.bng_rad_client.specs.declared.due.LastSend.{LastSend}
use Rattle.bng_rad_client.specs.declared.due.Sought.TheVariants.{Timeout, Resend, Endless, Any}
use Rattle.bng_rad_client.specs.declared.due.Longest.{Longest}
use Rattle.bng_rad_client.specs.declared.due.Longest.TheVariants.{Auth as FromAuth, Acct as FromAcct, Neither}
use Rattle.bng_rad_client.specs.declared.due.DueRequest.{DueRequest}
use Rattle.bng_rad_client.specs.declared.due.DueRequest.TheVariants.{Resend as SendAgain, TimedOut}
use Rattle.bng_rad_client.specs.declared.rules.Lane.{Lane}
use Rattle.bng_rad_client.specs.declared.rules.Lane.TheVariants.{Auth, Acct}
use Rattle.bng_rad_client.specs.Due.{is_sought, IsOldestBelow, NoneBelow}
use Rattle.bng_rad_client.specs.Sends.{IsGivenUp, IsSentAgain}
use Rattle.bng_rad_client.specs.State.{State, table_of, other}

abbrev pub longest_of : Option LastSend → Option LastSend → Longest
longest_of (Some a) (Some b) = if nat_le a.sent_at b.sent_at then FromAuth a.id else FromAcct b.id
longest_of (Some a) None = FromAuth a.id
longest_of None (Some b) = FromAcct b.id
longest_of None None = Neither

-- which requests of a lane are sent again: Access-Requests that were not sent as often as they are to be, and all
-- Accounting-Requests
abbrev pub to_resend : State → Lane → ℕ → Pending → Bool
to_resend s Auth now = is_sought (Resend s.tries) now
to_resend s Acct now = is_sought Endless now

-- none of the other lane was sent before it, and none of the lane Auth at the same moment
abbrev pub ComesBefore : Lane → ℕ → ℕ → Type 0
ComesBefore Auth sent_at second = sent_at ≤ second
ComesBefore Acct sent_at second = sent_at < second

-- the request of the lane and identifier was sent first of those that are to be sent again, and is sent now
pub record IsResent (old new : State) (now : ℕ) (lane : Lane) (id : ℕ) (frame : Bytes) : Type 0 where
  pub due : LastSend
  pub id_is : id ≡ due.id
  pub oldest : IsOldestBelow (to_resend old lane now) (table_of old lane).places 256 due
  pub before : (second : LastSend) → IsOldestBelow (to_resend old (other lane) now) (table_of old (other lane)).places 256 second → ComesBefore lane due.sent_at second.sent_at
  pub sent : IsSentAgain (table_of old lane) (table_of new lane) id now frame
  pub others : table_of new (other lane) ≡ table_of old (other lane)

abbrev pub IsDue : State → State → ℕ → Bool → Option DueRequest → Type 0
IsDue old new now true None = NoneBelow (is_sought (Timeout old.tries) now) old.auth.places 256
IsDue old new now true (Some (TimedOut owner)) = IsGivenUp old.auth new.auth (is_sought (Timeout old.tries) now) owner × (new.acct ≡ old.acct)
IsDue old new now true (Some (SendAgain lane id frame)) = ⊥
IsDue old new now false None = NoneBelow (to_resend old Auth now) old.auth.places 256 × NoneBelow (to_resend old Acct now) old.acct.places 256
IsDue old new now false (Some (TimedOut owner)) = ⊥
IsDue old new now false (Some (SendAgain lane id frame)) = IsResent old new now lane id frame

-- 3 s after the last send of the request that was sent first
abbrev pub IsDeadline : List (Option Pending) → Option ℕ → Type 0
IsDeadline places None = NoneBelow (is_sought Any 0) places 256
IsDeadline places (Some at) = (d : LastSend) × IsOldestBelow (is_sought Any 0) places 256 d × (at ≡ min (2 ^ 64 - 1) (d.sent_at + 3000))

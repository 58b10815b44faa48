-- When a question is given up, and when its request is sent again (RFC 2865 section 2.5).
use Rattle.std.specs.Prelude.{◌≡◌, ℕ, Bool, false, List, Option, Some, None, count_by}
use Rattle.bng_base.specs.Packet.{Packet as Bytes}
use Rattle.bng_rad_client.specs.declared.pending.Pending.{Pending}
use Rattle.bng_rad_client.specs.declared.due.Sought.TheVariants.{Timeout}
use Rattle.bng_rad_client.specs.declared.rules.Lane.TheVariants.{Auth}
use Rattle.bng_rad_client.specs.declared.rules.Owner.TheVariants.{Ask}
use Rattle.bng_rad_client.specs.Due.{is_sought, NoneBelow}
use Rattle.bng_rad_client.specs.DueRequests.{to_resend, IsResent}
use Rattle.bng_rad_client.specs.Sends.{IsGivenUp}
use Rattle.bng_verdict.specs.declared.question.QuestionNo.{QuestionNo}
use Rattle.bng_lane.specs.State.{LaneState, places_of, without, with_table_of}

-- of the requests that were sent as often as they are to be, and 3 s ago or longer, the one that was sent first is out no
-- longer
abbrev pub GivesUp : LaneState → (now : ℕ) → Option QuestionNo → LaneState → Type 0
GivesUp old now None new = NoneBelow (is_sought (Timeout old.client.tries) now) (places_of old) 256 × (new ≡ old)
GivesUp old now (Some q) new =
    (g : IsGivenUp old.client.auth new.client.auth (is_sought (Timeout old.client.tries) now) (Ask q.session q.ask)) × (new ≡ without old g.due.id)

-- no request is to be sent again
abbrev pub NoneToResend : LaneState → ℕ → Type 0
NoneToResend l now = NoneBelow (to_resend l.client Auth now) (places_of l) 256

-- the octets are those of the request that was sent first of those that are to be sent again, and it is sent now
pub record IsResentBy (old : LaneState) (now id : ℕ) (octets : List ℕ) (new : LaneState) : Type 0 where
  pub frame : Bytes
  pub payload : octets ≡ frame.payload
  pub resent : IsResent old.client new.client now Auth id frame
  pub others : new ≡ with_table_of old new

-- whether the request of a place is to be sent again
abbrev pub is_due_again : LaneState → ℕ → Option Pending → Bool
is_due_again l now None = false
is_due_again l now (Some r) = to_resend l.client Auth now r

-- how many requests are to be sent again
abbrev pub due_count : LaneState → ℕ → ℕ
due_count l now = count_by (is_due_again l now) (places_of l)

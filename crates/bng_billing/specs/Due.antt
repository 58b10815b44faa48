-- When a request is sent again (RFC 2866 section 2).
use Rattle.std.specs.Prelude.{◌≡◌, ℕ, Bool, false, List, Option, Some, None, count_by}
use Rattle.bng_base.specs.Packet.{Packet as Bytes}
use Rattle.bng_rad_client.specs.declared.pending.Pending.{Pending}
use Rattle.bng_rad_client.specs.declared.due.Sought.TheVariants.{Endless}
use Rattle.bng_rad_client.specs.declared.rules.Lane.TheVariants.{Acct}
use Rattle.bng_rad_client.specs.Due.{is_sought, NoneBelow}
use Rattle.bng_rad_client.specs.DueRequests.{IsResent}
use Rattle.bng_billing.specs.State.{BillingState, places_of, with_table_of}

-- no request was sent 3 s ago or longer
abbrev pub NoneToResend : BillingState → ℕ → Type 0
NoneToResend b now = NoneBelow (is_sought Endless now) (places_of b) 256

-- the octets are those of the request that was sent first of those that were sent 3 s ago or longer, and it is sent now
pub record IsResentBy (old : BillingState) (now id : ℕ) (octets : List ℕ) (new : BillingState) : Type 0 where
  pub frame : Bytes
  pub payload : octets ≡ frame.payload
  pub resent : IsResent old.client new.client now Acct id frame
  pub others : new ≡ record old { client = with_table_of old.client new.client }

-- whether the request of a place is to be sent again
abbrev pub is_due_again : ℕ → Option Pending → Bool
is_due_again now None = false
is_due_again now (Some r) = is_sought Endless now r

-- how many requests are to be sent again
abbrev pub due_count : BillingState → ℕ → ℕ
due_count b now = count_by (is_due_again now) (places_of b)

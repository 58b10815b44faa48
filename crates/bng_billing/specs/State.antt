-- What a contract sees of accounting.
use Rattle.std.specs.Prelude.{◌≡◌, ℕ, Bool, true, false, List, Option, None, replicate, slice_index_or, slice_set, if◌then◌else◌}
use Rattle.bng_rad_client.specs.declared.pending.Pending.{Pending}
use Rattle.bng_rad_client.specs.declared.rules.Owner.{Owner}
use Rattle.bng_rad_client.specs.declared.rules.Owner.TheVariants.{Record as OfRecord}
use Rattle.bng_rad_client.specs.State.{State as Client, IsOpened as IsNewClient}
use Rattle.bng_acct.specs.Spool.{State as Spool, IsOpened as IsNewSpool}
use Rattle.bng_base.specs.declared.address.TheConstants.{NOBODY}
use Rattle.bng_billing.specs.declared.rules.BillingRules.{BillingRules}

-- the requests that are out, the records that are open, and for each identifier, 0 to 255, whether the request that has it was
-- sent at all
pub record BillingState : Type 0 where
  pub client : Client
  pub spool : Spool
  pub sent : List Bool

-- the Accounting-Requests that are out, by their identifiers
abbrev pub places_of : BillingState → List (Option Pending)
places_of b = b.client.acct.places

-- whether the request with an identifier was sent at all
abbrev pub flag_of : BillingState → ℕ → Bool
flag_of b id = slice_index_or b.sent id false

-- whose a request is that is of the record with a number
abbrev pub owner_of : ℕ → Owner
owner_of n = OfRecord (record { 0 = n })

-- no record is open, no request is out, and the first identifier that will be given is 0
pub record IsNewBilling (rules : BillingRules) (b : BillingState) : Type 0 where
  pub client : IsNewClient b.client NOBODY rules.server rules.secret.items 0
  pub spool : IsNewSpool rules.acct b.spool
  pub sent : b.sent ≡ replicate 256 false

-- the request with an identifier is out no longer, and none was sent under it
abbrev pub freed : ℕ → BillingState → BillingState
freed id b = record b { client = record b.client { acct = record b.client.acct { places = slice_set b.client.acct.places id None } }; sent = slice_set b.sent id false }

-- the outside said whether it sent the request with an identifier
abbrev pub noted : ℕ → Bool → BillingState → BillingState
noted id sent b = record b { sent = if sent then slice_set b.sent id true else b.sent }

-- the old client but for the table of Accounting-Requests
abbrev pub with_table_of : (old new : Client) → Client
with_table_of old new = record old { acct = new.acct }

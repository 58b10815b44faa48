-- The stop: Starts and Interims are forgotten.
use Rattle.std.specs.Prelude.{◌≡◌, ℕ, ◌≤◌, Bool, false, not, nat_lt, List, Option, Some, None, is_some, length, filter, slice_index_or, slice_set, if◌then◌else◌}
use Rattle.bng_base.specs.declared.circuit.TermId.{TermId}
use Rattle.bng_rad_client.specs.declared.pending.Pending.{Pending}
use Rattle.bng_rad_client.specs.declared.rules.Owner.{Owner}
use Rattle.bng_rad_client.specs.declared.rules.Owner.TheVariants.{Ask, Record as OfRecord}
use Rattle.bng_rad_client.specs.State.{State as Client}
use Rattle.bng_rad_client.specs.Table.{request_of}
use Rattle.bng_acct.specs.declared.sheet.Sheet.{Sheet}
use Rattle.bng_acct.specs.Queue.{sheet_at}
use Rattle.bng_acct.specs.Roster.{of_term}
use Rattle.bng_acct.specs.Spool.{State as Spool, Agree, is_live, is_stop_sheet, only_stop}
use Rattle.bng_billing.specs.State.{BillingState, places_of, flag_of}

-- whether the record of a request is open
abbrev pub is_known : List (Option Sheet) → Owner → Bool
is_known sheets (Ask session ask) = false
is_known sheets (OfRecord n) = is_some (sheet_at sheets n.0)

-- whether there is a request whose record is open no longer
abbrev pub is_lost : List (Option Sheet) → Option Pending → Bool
is_lost sheets None = false
is_lost sheets (Some r) = not (is_known sheets r.owner)

-- a request is out no longer where its record is open no longer
abbrev pub unless_lost : List (Option Sheet) → Option Pending → Option Pending
unless_lost sheets place = if is_lost sheets place then None else place

-- and then it was not sent
abbrev pub flag_unless_lost : List (Option Sheet) → Option Pending → Bool → Bool
flag_unless_lost sheets place flag = if is_lost sheets place then false else flag

-- Stops alone are open, and wait in the order in which they did; the identifiers whose records are open no longer are free, and no
-- request was sent under them; each other identifier has the request that it had
pub record StopsOnly (old new : BillingState) : Type 0 where
  pub sheets : (n : ℕ) → sheet_at new.spool.sheets n ≡ only_stop (sheet_at old.spool.sheets n)
  pub waiting : new.spool.waiting ≡ filter (λ n. is_stop_sheet (sheet_at old.spool.sheets n)) old.spool.waiting
  pub live : (t : TermId) → is_live (of_term t new.spool.held) ≡ is_live (of_term t old.spool.held)
  pub fewer : length new.spool.held ≤ length old.spool.held
  pub agree : Agree new.spool.sheets new.spool.held
  pub rules : new.spool.rules ≡ old.spool.rules
  pub size : length (places_of new) ≡ length (places_of old)
  pub places : (id : ℕ) → request_of (places_of new) id ≡ unless_lost new.spool.sheets (request_of (places_of old) id)
  pub flags : (id : ℕ) → flag_of new id ≡ flag_unless_lost new.spool.sheets (request_of (places_of old) id) (flag_of old id)
  pub others : new ≡ record { client = record old.client { acct = record old.client.acct { places = places_of new } }; spool = new.spool; sent = new.sent }

-- the identifier is free where the record of its request is open no longer, and all else is as it was
pub record Withdraws (id : ℕ) (s : Spool) (old new : Client) (sent sent' : List Bool) : Type 0 where
  pub client : new ≡ (if is_lost s.sheets (request_of old.acct.places id) then record old { acct = record old.acct { places = slice_set old.acct.places id None } } else old)
  pub flags : sent' ≡ (if is_lost s.sheets (request_of old.acct.places id) then slice_set sent id false else sent)

-- the same of all identifiers below this one
pub record WithdrawsBelow (k : ℕ) (s : Spool) (old new : Client) (sent sent' : List Bool) : Type 0 where
  pub places : (id : ℕ) → request_of new.acct.places id ≡ (if nat_lt id k then unless_lost s.sheets (request_of old.acct.places id) else request_of old.acct.places id)
  pub flags : (id : ℕ) → slice_index_or sent' id false ≡ (if nat_lt id k then flag_unless_lost s.sheets (request_of old.acct.places id) (slice_index_or sent id false) else slice_index_or sent id false)
  pub size : length new.acct.places ≡ length old.acct.places
  pub others : new ≡ record old { acct = record old.acct { places = new.acct.places } }

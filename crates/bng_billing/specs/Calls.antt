-- What is called of accounting, one call after another.
use Rattle.std.specs.Prelude.{◌≡◌, ◌⊎◌, ℕ, Bool, List, [], ◌∷◌, Option, Some, None}
use Rattle.bng_base.specs.declared.address.Peer.{Peer}
use Rattle.bng_acct.specs.declared.facts.RecordNo.{RecordNo}
use Rattle.bng_acct.specs.declared.facts.StatusType.{StatusType}
use Rattle.bng_acct.specs.declared.facts.StatusType.TheVariants.{Start, Interim, Stop}
use Rattle.bng_acct.specs.declared.facts.TermFacts.{TermFacts}
use Rattle.bng_acct.specs.declared.facts.Moment.{Moment}
use Rattle.bng_billing.specs.State.{BillingState, noted}
use Rattle.bng_billing.specs.Records.{IsFormedBy}
use Rattle.bng_billing.specs.Replies.{Takes}
use Rattle.bng_billing.specs.Due.{IsResentBy}
use Rattle.bng_billing.specs.Sending.{IsSentBy}
use Rattle.bng_billing.specs.Stopping.{StopsOnly}

-- a record was formed; a request was given out, and given out again; the outside told whether it sent the request with an
-- identifier; a datagram was heard, and acknowledged a record or none; all but Stops were forgotten
pub data BillingCall : Type 0 where
  Formed : StatusType → TermFacts → Moment → (n : ℕ) → BillingCall
  Given : (now n id : ℕ) → (octets : List ℕ) → BillingCall
  Again : (now id : ℕ) → (octets : List ℕ) → BillingCall
  Told : (id : ℕ) → (sent : Bool) → BillingCall
  Heard : (from : Peer) → (octets : List ℕ) → (found : Option RecordNo) → BillingCall
  Stopped : BillingCall

-- what a call promises
abbrev pub Does : BillingState → BillingCall → BillingState → Type 0
Does old (Formed status facts moment n) new = IsFormedBy old status facts moment n new
Does old (Given now n id octets) new = IsSentBy old now n id octets new
Does old (Again now id octets) new = IsResentBy old now id octets new
Does old (Told id sent) new = new ≡ noted id sent old
Does old (Heard from octets found) new = Takes old from octets found new
Does old Stopped new = StopsOnly old new

-- the record with this number is that of an answer
abbrev pub IsFound : Option RecordNo → ℕ → Type 0
IsFound None n = ⊥
IsFound (Some m) n = m.0 ≡ n

-- a call is a datagram that acknowledges the record with this number
abbrev pub IsAcknowledging : BillingCall → ℕ → Type 0
IsAcknowledging (Formed status facts moment m) n = ⊥
IsAcknowledging (Given now m id octets) n = ⊥
IsAcknowledging (Again now id octets) n = ⊥
IsAcknowledging (Told id sent) n = ⊥
IsAcknowledging (Heard from octets found) n = IsFound found n
IsAcknowledging Stopped n = ⊥

-- one of the calls is
abbrev pub AreAcknowledging : List BillingCall → ℕ → Type 0
AreAcknowledging [] n = ⊥
AreAcknowledging (c ∷ cs) n = IsAcknowledging c n ⊎ AreAcknowledging cs n

-- where a Stop is formed one of the calls after it acknowledges it
abbrev pub IsAcknowledgedStop : StatusType → List BillingCall → ℕ → Type 0
IsAcknowledgedStop Start cs n = Unit {0}
IsAcknowledgedStop Interim cs n = Unit {0}
IsAcknowledgedStop Stop cs n = AreAcknowledging cs n

-- what these calls promise of a Stop that the call before them formed, if it did
abbrev pub IsFollowed : BillingCall → List BillingCall → Type 0
IsFollowed (Formed status facts moment n) cs = IsAcknowledgedStop status cs n
IsFollowed (Given now m id octets) cs = Unit {0}
IsFollowed (Again now id octets) cs = Unit {0}
IsFollowed (Told id sent) cs = Unit {0}
IsFollowed (Heard from octets found) cs = Unit {0}
IsFollowed Stopped cs = Unit {0}

-- each Stop that a call formed is acknowledged by a later one
abbrev pub StopsAreAcknowledged : List BillingCall → Type 0
StopsAreAcknowledged [] = Unit {0}
StopsAreAcknowledged (c ∷ cs) = IsFollowed c cs × StopsAreAcknowledged cs

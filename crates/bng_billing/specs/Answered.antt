-- What the acknowledgements of a run followed.
use Rattle.std.specs.Prelude.{◌≡◌, ℕ, ◌<◌, true, List, Some, slice_get}
use Rattle.bng_base.specs.declared.address.Peer.{Peer}
use Rattle.bng_radius_wire.specs.Codes.{accounting_response}
use Rattle.bng_radius_wire.specs.Digests.{IsSigned}
use Rattle.bng_radius_wire.specs.Grammar.{Packet, IsRadius}
use Rattle.bng_acct.specs.declared.facts.Record.{Record}
use Rattle.bng_acct.specs.declared.facts.RecordNo.{RecordNo}
use Rattle.bng_acct.specs.declared.facts.StatusType.{StatusType}
use Rattle.bng_acct.specs.declared.facts.TermFacts.{TermFacts}
use Rattle.bng_acct.specs.declared.facts.Moment.{Moment}
use Rattle.bng_acct.specs.Spool.{SameFacts}
use Rattle.bng_billing.specs.declared.rules.BillingRules.{BillingRules}
use Rattle.bng_billing.specs.Invariant.{SaysRecord}
use Rattle.bng_billing.specs.Calls.{BillingCall, Formed, Given, Told, Heard}

-- the call at this place, counted from 0, formed this record, which got this number
pub record FormedAt (calls : List BillingCall) (j n : ℕ) (r : Record) : Type 0 where
  pub status : StatusType
  pub facts : TermFacts
  pub moment : Moment
  pub at : slice_get calls j ≡ Some (Formed status facts moment n)
  pub status_is : r.status ≡ status
  pub facts_are : SameFacts facts r.facts
  pub moment_is : r.moment ≡ moment

-- the call at this place gave these octets out, as the request of the record with this number and under this identifier
pub record GivenAt (calls : List BillingCall) (j n id : ℕ) (octets : List ℕ) : Type 0 where
  pub now : ℕ
  pub at : slice_get calls j ≡ Some (Given now n id octets)

-- The datagram of the call at this place acknowledges the record with this number: it comes from the server that accounting was opened
-- with, and is one packet, an Accounting-Response (RFC 2866 section 4.2), signed for the Accounting-Request of a record. An earlier call
-- formed the record, and after it no call gave another one that number; a later call gave the request out, and after it no call gave
-- another one that identifier; and after that, and before the datagram, the outside sent what has the identifier.
pub record IsAnswered (rules : BillingRules) (calls : List BillingCall) (k : ℕ) (from : Peer) (octets : List ℕ) (n : ℕ) : Type 0 where
  pub server : from ≡ rules.server
  pub report : Record
  pub formed : ℕ
  pub is_formed : FormedAt calls formed n report
  pub only : (j : ℕ) (r : Record) → formed < j → j < k → ¬ (FormedAt calls j n r)
  pub id : ℕ
  pub request : List ℕ
  pub given : ℕ
  pub is_given : GivenAt calls given n id request
  pub alone : (j m : ℕ) (o : List ℕ) → given < j → j < k → ¬ (GivenAt calls j m id o)
  pub sent : ℕ
  pub is_sent : slice_get calls sent ≡ Some (Told id true)
  pub formed_first : formed < given
  pub sent_after : given < sent
  pub sent_before : sent < k
  pub says : SaysRecord rules.acct rules.secret.items report id request
  pub reply : Packet
  pub is_reply : IsRadius reply octets
  pub one : (p : Packet) → IsRadius p octets → p ≡ reply
  pub code : reply.code ≡ accounting_response
  pub same : reply.id ≡ id
  pub signed : IsSigned reply says.packet.authenticator rules.secret.items

-- each datagram that acknowledges a record does
abbrev pub AreAnswered : BillingRules → List BillingCall → Type 0
AreAnswered rules calls = (k : ℕ) (from : Peer) (octets : List ℕ) (n : RecordNo) → slice_get calls k ≡ Some (Heard from octets (Some n)) → IsAnswered rules calls k from octets n.0

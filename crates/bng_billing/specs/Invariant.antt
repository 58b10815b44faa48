-- What holds of the requests that are out and of the records that are open.
use Rattle.std.specs.Prelude.{◌≡◌, ℕ, true, List, Option, Some, length, ◌⊎◌}
use Rattle.bng_radius_wire.specs.Attributes.{Field}
use Rattle.bng_radius_wire.specs.Codes.{accounting_request}
use Rattle.bng_radius_wire.specs.Digests.{zeros, response_authenticator}
use Rattle.bng_radius_wire.specs.Grammar.{Packet, IsRadius, length_in}
use Rattle.bng_rad_client.specs.declared.pending.Pending.{Pending}
use Rattle.bng_rad_client.specs.State.{State as Client, empty}
use Rattle.bng_rad_client.specs.Table.{request_of}
use Rattle.bng_acct.specs.declared.facts.Record.{Record}
use Rattle.bng_acct.specs.declared.rules.AcctRules.{AcctRules}
use Rattle.bng_acct.specs.declared.sheet.Sheet.{Sheet}
use Rattle.bng_acct.specs.Attributes.{attributes}
use Rattle.bng_acct.specs.Queue.{sheet_at, AreWaiting, IsIn}
use Rattle.bng_acct.specs.Request.{AreClasses}
use Rattle.bng_acct.specs.Spool.{State as Spool}
use Rattle.bng_billing.specs.State.{owner_of}

-- The octets are the Accounting-Request of a record (RFC 2866 section 4.1) with this identifier, and nothing else. Its Request
-- Authenticator is the digest over its own octets, with zeros in the place of the authenticator, and the secret (section 3).
pub record SaysRecord (rules : AcctRules) (secret : List ℕ) (r : Record) (id : ℕ) (octets : List ℕ) : Type 0 where
  pub packet : Packet
  pub reads : IsRadius packet octets
  pub unpadded : length_in octets ≡ length octets
  pub code : packet.code ≡ accounting_request
  pub id_is : packet.id ≡ id
  pub classes : List Field
  pub are : AreClasses classes r.facts.class.items
  pub attributes_are : packet.attributes ≡ attributes rules r classes
  pub authenticator : packet.authenticator ≡ response_authenticator packet zeros secret

-- the request with this identifier is of an open record that was handed out, and its octets say that record
pub record IsOfRecord (c : Client) (s : Spool) (id : ℕ) (r : Pending) : Type 0 where
  pub number : ℕ
  pub owner_is : r.owner ≡ owner_of number
  pub sheet : Sheet
  pub is_open : sheet_at s.sheets number ≡ Some sheet
  pub handed : sheet.handed ≡ true
  pub says : SaysRecord s.rules c.secret sheet.record id r.octets

-- a request of the record with this number is out
pub record IsOut (places : List (Option Pending)) (n : ℕ) : Type 0 where
  pub id : ℕ
  pub request : Pending
  pub pending : request_of places id ≡ Some request
  pub owner_is : request.owner ≡ owner_of n

-- 256 identifiers; each request is of a record, and no two are of the same; those that wait were not handed out, and each waits
-- once; each open record waits or is out; and there is no Access-Request
pub record IsBilling (c : Client) (s : Spool) : Type 0 where
  pub size : length c.acct.places ≡ 256
  pub requests : (id : ℕ) (r : Pending) → request_of c.acct.places id ≡ Some r → IsOfRecord c s id r
  pub apart : (i j : ℕ) (q r : Pending) → request_of c.acct.places i ≡ Some q → request_of c.acct.places j ≡ Some r → q.owner ≡ r.owner → i ≡ j
  pub wait : AreWaiting s.sheets s.waiting
  pub records : (n : ℕ) (x : Sheet) → sheet_at s.sheets n ≡ Some x → IsIn n s.waiting ⊎ IsOut c.acct.places n
  pub auth : c.auth ≡ empty

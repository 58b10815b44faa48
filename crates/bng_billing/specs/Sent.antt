-- What was sent of accounting, and for which records.
use Rattle.std.specs.Prelude.{◌≡◌, ◌⊎◌, ℕ, true, List, [], ◌∷◌, Option, None, Some, slice_get}
use Rattle.bng_acct.specs.declared.facts.Record.{Record}
use Rattle.bng_acct.specs.declared.facts.StatusType.TheVariants.{Stop}
use Rattle.bng_acct.specs.declared.facts.TermFacts.{TermFacts}
use Rattle.bng_acct.specs.declared.facts.Moment.{Moment}
use Rattle.bng_billing.specs.declared.rules.BillingRules.{BillingRules}
use Rattle.bng_billing.specs.Answered.{FormedAt}
use Rattle.bng_billing.specs.Calls.{BillingCall, Formed, Given, Again, Told, Heard, Stopped}
use Rattle.bng_billing.specs.Invariant.{SaysRecord}

-- the next call tells that what has this identifier was sent
abbrev pub IsToldSent : ℕ → List BillingCall → Type 0
IsToldSent id [] = ⊥
IsToldSent id (Formed status facts moment n ∷ calls) = ⊥
IsToldSent id (Given now n i octets ∷ calls) = ⊥
IsToldSent id (Again now i octets ∷ calls) = ⊥
IsToldSent id (Told i sent ∷ calls) = (i ≡ id) × (sent ≡ true)
IsToldSent id (Heard from octets found ∷ calls) = ⊥
IsToldSent id (Stopped ∷ calls) = ⊥

-- the call gave these octets out, the first time or again, and the next one tells that they were sent
abbrev pub GoesOut : BillingCall → List BillingCall → List ℕ → Type 0
GoesOut (Formed status facts moment n) calls octets = ⊥
GoesOut (Given now n id request) calls octets = (request ≡ octets) × IsToldSent id calls
GoesOut (Again now id request) calls octets = (request ≡ octets) × IsToldSent id calls
GoesOut (Told id sent) calls octets = ⊥
GoesOut (Heard from request found) calls octets = ⊥
GoesOut Stopped calls octets = ⊥

-- one of the calls did
abbrev pub WasSent : List BillingCall → List ℕ → Type 0
WasSent [] octets = ⊥
WasSent (c ∷ calls) octets = GoesOut c calls octets ⊎ WasSent calls octets

-- Each call that gives a request out is followed by one that tells whether it was sent, and there is no other such call. Before these calls
-- the request with this identifier was given out, if there is one.
abbrev pub ArePaired : Option ℕ → List BillingCall → Type 0
ArePaired None [] = Unit {0}
ArePaired (Some id) [] = ⊥
ArePaired None (Formed status facts moment n ∷ calls) = ArePaired None calls
ArePaired (Some id) (Formed status facts moment n ∷ calls) = ⊥
ArePaired None (Given now n i octets ∷ calls) = ArePaired (Some i) calls
ArePaired (Some id) (Given now n i octets ∷ calls) = ⊥
ArePaired None (Again now i octets ∷ calls) = ArePaired (Some i) calls
ArePaired (Some id) (Again now i octets ∷ calls) = ⊥
ArePaired None (Told i sent ∷ calls) = ⊥
ArePaired (Some id) (Told i sent ∷ calls) = (i ≡ id) × ArePaired None calls
ArePaired None (Heard from octets found ∷ calls) = ArePaired None calls
ArePaired (Some id) (Heard from octets found ∷ calls) = ⊥
ArePaired None (Stopped ∷ calls) = ArePaired None calls
ArePaired (Some id) (Stopped ∷ calls) = ⊥

-- the octets are the Accounting-Request (RFC 2866 section 4.1) of the record that the call at this place formed
pub record IsRequestOf (rules : BillingRules) (calls : List BillingCall) (j : ℕ) (octets : List ℕ) : Type 0 where
  pub number : ℕ
  pub report : Record
  pub formed : FormedAt calls j number report
  pub id : ℕ
  pub says : SaysRecord rules.acct rules.secret.items report id octets

-- what was sent is the Accounting-Request of a record that one of the calls formed
abbrev pub AreRequests : BillingRules → List BillingCall → Type 0
AreRequests rules calls = (octets : List ℕ) → WasSent calls octets → (j : ℕ) × IsRequestOf rules calls j octets

-- and of each Stop that was formed the Accounting-Request was sent
abbrev pub StopsAreSent : BillingRules → List BillingCall → Type 0
StopsAreSent rules calls = (j n : ℕ) (facts : TermFacts) (moment : Moment) → slice_get calls j ≡ Some (Formed Stop facts moment n) → (octets : List ℕ) × WasSent calls octets × IsRequestOf rules calls j octets

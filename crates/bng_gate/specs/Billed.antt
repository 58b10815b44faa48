-- The Stops as their Accounting-Requests say them (RFC 2866).
use Rattle.std.specs.Prelude.{◌≡◌, ◌⊎◌, ℕ, List}
use Rattle.std.specs.List.{All}
use Rattle.bng_acct.specs.declared.facts.Record.{Record}
use Rattle.bng_acct.specs.declared.facts.StatusType.TheVariants.{Stop as OfStop}
use Rattle.bng_base.specs.declared.outside.Datagram.{Datagram}
use Rattle.bng_billing.specs.declared.rules.BillingRules.{BillingRules}
use Rattle.bng_billing.specs.Invariant.{SaysRecord}
use Rattle.bng_config.specs.declared.config.Config.{Config}
use Rattle.bng_desk.specs.Opening.{billing_rules}
use Rattle.bng_engine.specs.Lists.{AnyOf}
use Rattle.bng_engine.specs.Terms.{Stop}
use Rattle.bng_gate.specs.Rounds.{on_acct}

-- The octets are the Accounting-Request of this Stop (section 4.1), and nothing else. Its attributes say that the term ended, with the term's
-- number, circuit and address, why it did, and the octets and packets that were sent for it.
pub record IsStopRequest (rules : BillingRules) (octets : List ℕ) (s : Stop) : Type 0 where
  pub report : Record
  pub status : report.status ≡ OfStop
  pub term : report.facts.term ≡ s.key.term
  pub circuit : report.facts.circuit ≡ s.key.circuit
  pub address : report.facts.address ≡ s.key.address
  pub carried : report.facts.carried ≡ s.carried
  pub cause : report.moment.cause ≡ s.cause
  pub id : ℕ
  pub says : SaysRecord rules.acct rules.secret.items report id octets

-- they are the Accounting-Request of a Start or an Interim
pub record IsOtherRequest (rules : BillingRules) (octets : List ℕ) : Type 0 where
  pub report : Record
  pub status : ¬ (report.status ≡ OfStop)
  pub id : ℕ
  pub says : SaysRecord rules.acct rules.secret.items report id octets

abbrev pub IsStopOrOther : BillingRules → List Stop → Datagram → Type 0
IsStopOrOther rules stops d = IsOtherRequest rules d.octets ⊎ AnyOf (IsStopRequest rules d.octets) stops

-- Whatever was sent for accounting went to the configured server, and is the Accounting-Request of one of these Stops, of a Start or of an
-- Interim. With status 0 that of each Stop was sent. `wall` is the second of the clock at which the run began, which
-- Acct-Session-Id tells.
pub record AreBilled (config : Config) (status : ℕ) (sent : List Datagram) (stops : List Stop) : Type 0 where
  pub wall : ℕ
  pub server : All (λ d. d.peer ≡ config.acct_server) (on_acct sent)
  pub only : All (IsStopOrOther (billing_rules config wall) stops) (on_acct sent)
  pub each : status ≡ 0 → All (λ s. AnyOf (λ d. IsStopRequest (billing_rules config wall) d.octets s) (on_acct sent)) stops

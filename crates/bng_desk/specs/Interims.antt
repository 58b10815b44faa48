-- The Interims of a settlement (RFC 2869 section 5.16): which live terms owe one, and which records are formed.
use Rattle.std.specs.Prelude.{◌≡◌, ◌⊎◌, ℕ, ◌+◌, ◌≤◌, List, [], ◌∷◌, ◌++◌, None, IsSome, fold}
use Rattle.std.specs.List.{AllZip}
use Rattle.bng_acct.specs.declared.facts.StatusType.TheVariants.{Interim}
use Rattle.bng_acct.specs.Spool.{open_of}
use Rattle.bng_billing.specs.Records.{IsFormedBy}
use Rattle.bng_billing.specs.State.{BillingState}
use Rattle.bng_engine.specs.Views.{Row, ShardView}
use Rattle.bng_steps.specs.Interims.{AwaitsInterims, Reports, owed, with_report}
use Rattle.bng_steps.specs.Protocol.{ShardState}
use Rattle.bng_steps.specs.Tenures.{Tenure}
use Rattle.bng_desk.specs.Accounting.{AreFactsOf, FormedRecord}

-- the Interim of a live term, formed at this moment: its octets and packets are what was carried for the term so far
pub record IsInterimOf (terms : List Tenure) (moment wall : ℕ) (r : Row) (f : FormedRecord) : Type 0 where
  pub status : f.status ≡ Interim
  pub facts : AreFactsOf terms r.key r.carried f.facts
  pub at : f.moment ≡ record { now = moment; wall = wall; cause = 0 }

-- Of a term whose Interim is due a record is formed; but none where the term's last one is open still, and then it is left out until the
-- next is due.
abbrev pub FormsInterim : (terms : List Tenure) → (moment wall : ℕ) → BillingState → Row → List FormedRecord → BillingState → Type 0
FormsInterim terms moment wall b r formed b' =
    (IsSome (open_of r.key.term Interim b.spool.held) × (formed ≡ []) × (b' ≡ b))
    ⊎ ((open_of r.key.term Interim b.spool.held ≡ None) × (f : FormedRecord) × (formed ≡ f ∷ []) × IsInterimOf terms moment wall r f × IsFormedBy b f.status f.facts f.moment f.number b')

-- so of these terms, in their order
abbrev pub FormsInterims : (terms : List Tenure) → (moment wall : ℕ) → BillingState → List Row → List FormedRecord → BillingState → Type 0
FormsInterims terms moment wall b [] formed b' = (formed ≡ []) × (b' ≡ b)
FormsInterims terms moment wall b (r ∷ rs) formed b' =
    (first : List FormedRecord) × (rest : List FormedRecord) × (next : BillingState)
    × FormsInterim terms moment wall b r first next × FormsInterims terms moment wall next rs rest b' × (formed ≡ first ++ rest)

-- the live terms that owe an Interim, of the shards in their order and in each by rising session number
abbrev pub owed_by : {E : Type 0} → ℕ → List (ShardView ShardState E) → List Reports → List Row
owed_by moment [] rs = []
owed_by moment (v ∷ vs) [] = []
owed_by moment (v ∷ vs) (r ∷ rs) = owed v r.last moment ++ owed_by moment vs rs

-- by session number the moments of the last Interims of a shard, once those of these terms were taken
abbrev pub last_after : ℕ → List Row → List ℕ → List ℕ
last_after moment rows last = fold (λ l (r : Row). with_report l moment r.key.term.session) last rows

-- all that were due were taken, whether a record was formed or not
abbrev pub TakesInterims : {E : Type 0} → ℕ → ShardView ShardState E → Reports → Reports → Type 0
TakesInterims moment v r r' = r'.last ≡ last_after moment (owed v r.last moment) r.last

-- The moment that is kept for that is at most a minute past this one. No Interim of the shard is due before it, unless the shard answered
-- requests for changes that were not told yet: they may have brought one forward.
pub record AwaitsAt {E : Type 0} (moment : ℕ) (v : ShardView ShardState E) (r : Reports) : Type 0 where
  pub awaits : v.state.changed ≡ [] → AwaitsInterims v.state.slots r
  pub soon : r.next ≤ moment + 60000

-- so of each shard, of which there is a list each
abbrev pub AreAwaited : {E : Type 0} → ℕ → List (ShardView ShardState E) → List Reports → Type 0
AreAwaited moment vs rs = AllZip (AwaitsAt moment) vs rs

-- And no Interim of the shard is due before it whatever the shard answered: so between two rounds.
pub record WaitsAt {E : Type 0} (moment : ℕ) (v : ShardView ShardState E) (r : Reports) : Type 0 where
  pub waits : AwaitsInterims v.state.slots r
  pub soon : r.next ≤ moment + 60000

abbrev pub AreWaiting : {E : Type 0} → ℕ → List (ShardView ShardState E) → List Reports → Type 0
AreWaiting moment vs rs = AllZip (WaitsAt moment) vs rs

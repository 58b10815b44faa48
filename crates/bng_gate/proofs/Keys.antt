-- The keys of the circuits' terms, and what is charged to keys.
use Rattle.std.proofs.Common.{ℕ, List, [], ◌∷◌, IfSome}
use Rattle.std.specs.List.{AllByRecursion}
use Rattle.bng_base.specs.declared.item.OutRecord.{OutRecord}
use Rattle.bng_config.specs.declared.config.Config.{Config}
use Rattle.bng_engine.specs.Terms.{Key, keys, key_in}
use Rattle.bng_steps.specs.Protocol.{terms_of_circuits}
use Rattle.bng_steps.specs.Reader.{IsWhole}
use Rattle.bng_desk.specs.Opening.{statics_of}

-- the keys of the circuits of a shard
abbrev pub keys_at : Config → ℕ → List Key
keys_at config n = keys (terms_of_circuits n (statics_of config n))

-- what is charged is charged to a key of which this holds, and the octets are what the charge says
pub record IsOurs (Q : Key → Type 0) (o : OutRecord) : Type 0 where
  pub whole : IsWhole o
  pub known : IfSome o.charge (λ c. Q (key_in c))

pub all_ours : (Q : Key → Type 0) (os : List OutRecord) → AllByRecursion IsWhole os → AllByRecursion (λ o. IfSome o.charge (λ c. Q (key_in c))) os → AllByRecursion (IsOurs Q) os
all_ours Q [] h i = tt
all_ours Q (o ∷ os) h i = (record { whole = h.0; known = i.0 }, all_ours Q os h.1 i.1)

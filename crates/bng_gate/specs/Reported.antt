-- What the Interims of a run say (RFC 2869 section 2.1).
use Rattle.std.specs.Prelude.{◌≡◌, List}
use Rattle.std.specs.List.{All, Contains}
use Rattle.bng_acct.specs.declared.facts.StatusType.TheVariants.{Interim}
use Rattle.bng_engine.specs.Histories.{History, NextRound, ShardHistory, ShardTurn}
use Rattle.bng_engine.specs.Settlements.{SaysCarried}
use Rattle.bng_engine.specs.Terms.{Key, keys}
use Rattle.bng_steps.specs.Protocol.{Handled, ShardState, pppoe, terms_of}
use Rattle.bng_desk.specs.Accounting.{FormedRecord}

-- The record is the Interim of a term of this shard that has no Stop: it has the term's key, and the octets and packets of exactly what was
-- sent for the term so far.
pub record SaysInterim (f : FormedRecord) (h : ShardHistory ShardState) : Type 0 where
  pub key : Key
  pub among : Contains (keys (terms_of h.state)) key
  pub status : f.status ≡ Interim
  pub term : f.facts.term ≡ key.term
  pub circuit : f.facts.circuit ≡ key.circuit
  pub address : f.facts.address ≡ key.address
  pub carried : SaysCarried h.sends key.term.serial f.facts.carried

-- it is that of a term of one of these shards
pub record IsInterimIn (hs : List (ShardHistory ShardState)) (f : FormedRecord) : Type 0 where
  pub shard : ShardHistory ShardState
  pub among : Contains hs shard
  pub says : SaysInterim f shard

-- A round, with the Interims that were formed once its Stops and Starts were: each is that of a term that the round left live.
pub record ReportsLive (h : History ShardState) (r : List (ShardTurn Handled) × List FormedRecord) (h' : History ShardState) : Type 0 where
  pub next : NextRound pppoe h r.0 h'
  pub interims : All (IsInterimIn h'.shards) r.1

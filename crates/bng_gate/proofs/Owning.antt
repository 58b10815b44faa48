-- What a run sent are whole packets of its terms, or no packets of subscribers.
use Rattle.std.proofs.Common.{List, [], ◌∷◌, ◌++◌, map, IfSome, sym, subst}
use Rattle.std.specs.List.{AllByRecursion, AllZip, Contains, flat_map}
use Rattle.bng_base.specs.declared.item.OutRecord.{OutRecord}
use Rattle.bng_engine.specs.Accounted.{Sound}
use Rattle.bng_engine.specs.Histories.{History, ShardHistory, ShardTurn, NextInShard, Run, sends_in}
use Rattle.bng_engine.specs.Journals.{outs_of, unsent}
use Rattle.bng_engine.specs.Laws.{sends_of}
use Rattle.bng_engine.specs.Lists.{AnyOf, Zip3}
use Rattle.bng_engine.specs.Protocol.{HasKey, IsOwned}
use Rattle.bng_engine.specs.Terms.{Key, key_in, keys, stopped_keys}
use Rattle.bng_engine.proofs.Everywhere.{all_append, all_mapped, all_weaker, any_right, if_some_weaker}
use Rattle.bng_engine.proofs.Journals.{owned_later, owned_same, run_outs}
use Rattle.bng_engine.proofs.Rounds.{in_shards}
use Rattle.bng_steps.specs.Protocol.{ShardState, Handled, pppoe, terms_of}
use Rattle.bng_steps.specs.Reader.{IsWhole}
use Rattle.bng_steps.proofs.StepLaws.{step_whole}
use Rattle.bng_gate.specs.Headline.{HaveTerms}
use Rattle.bng_gate.proofs.Keys.{IsOurs, all_ours}
use Rattle.bng_gate.proofs.Lists.{all_left, all_right, contained}

-- What is whole --------------------------------------------------------------------------------------------------------

pub round_whole : (hs : List (ShardHistory ShardState)) (ts : List (ShardTurn Handled)) (hs' : List (ShardHistory ShardState)) → Zip3 (NextInShard pppoe) hs ts hs' → AllByRecursion IsWhole (sends_in ts)
round_whole [] [] [] next = tt
round_whole (h ∷ hs) (t ∷ ts) (h' ∷ hs') next =
    let n = next.0 in
    let outs : AllByRecursion IsWhole (outs_of pppoe h.state t.round.journal) = run_outs pppoe IsWhole (λ s e is. step_whole s.rules s.slots e.limited e.deed is.step) h.state t.round.journal n.round.steps in
    let before : AllByRecursion IsWhole (map unsent t.settlement.sends) = subst (AllByRecursion IsWhole) (sym n.settlement.outs) outs in
    all_append IsWhole t.settlement.sends (sends_in ts)
    (all_weaker (λ o. IsWhole (unsent o)) IsWhole (λ o is. is) t.settlement.sends (all_mapped IsWhole unsent t.settlement.sends before))
    (round_whole hs ts hs' next.1)
round_whole hs ts hs' next = absurd next

run_whole : (h h' : History ShardState) (rounds : List (List (ShardTurn Handled))) → Run pppoe h rounds h' → AllByRecursion IsWhole (sends_of rounds)
run_whole h h' [] run = tt
run_whole h h' (ts ∷ rounds) run =
    all_append IsWhole (sends_in ts) (sends_of rounds) (round_whole h.shards ts run.0.shards (in_shards pppoe h run.0 ts run.1)) (run_whole run.0 h' rounds run.2)

-- What was sent so far -------------------------------------------------------------------------------------------------

module _ (P : OutRecord → Type 0) where
  abbrev HasSent : ShardHistory ShardState → Type 0
  HasSent h = AllByRecursion P h.sends

  -- what holds of all that the shards sent so far holds of what they sent before a round, and in it
  round_sent : (hs : List (ShardHistory ShardState)) (ts : List (ShardTurn Handled)) (hs' : List (ShardHistory ShardState)) → Zip3 (NextInShard pppoe) hs ts hs' → AllByRecursion HasSent hs' → AllByRecursion HasSent hs × AllByRecursion P (sends_in ts)
  round_sent [] [] [] next all = (tt, tt)
  round_sent (h ∷ hs) (t ∷ ts) (h' ∷ hs') next all =
      let here : AllByRecursion P (h.sends ++ t.settlement.sends) = subst (AllByRecursion P) next.0.settlement.sends all.0 in
      let rest = round_sent hs ts hs' next.1 all.1 in (
        (all_left P h.sends t.settlement.sends here, rest.0),
        all_append P t.settlement.sends (sends_in ts) (all_right P h.sends t.settlement.sends here) rest.1,
      )
  round_sent hs ts hs' next all = absurd next

  run_sent : (h h' : History ShardState) (rounds : List (List (ShardTurn Handled))) → Run pppoe h rounds h' → AllByRecursion HasSent h'.shards → AllByRecursion HasSent h.shards × AllByRecursion P (sends_of rounds)
  run_sent h h' [] run all = (subst (λ (x : History ShardState). AllByRecursion HasSent x.shards) run all, tt)
  run_sent h h' (ts ∷ rounds) run all =
      let rest = run_sent run.0 h' rounds run.2 all in
      let here = round_sent h.shards ts run.0.shards (in_shards pppoe h run.0 ts run.1) rest.0 in
      (here.0, all_append P (sends_in ts) (sends_of rounds) here.1 rest.1)

-- Whose it is ----------------------------------------------------------------------------------------------------------

owned_by_later : (ks js : List Key) (o : OutRecord) → IsOwned js o → IsOwned (ks ++ js) o
owned_by_later ks js o h = if_some_weaker (λ c. AnyOf (HasKey c) js) (λ c. AnyOf (HasKey c) (ks ++ js)) (λ c i. any_right (HasKey c) ks js i) o.charge h

-- the keys of all shards
abbrev pub joined : List (List Key) → List Key
joined kss = flat_map (λ ks. ks) kss

-- what each shard sent is of one of the terms that have a Stop or are live
shards_owned : (hs : List (ShardHistory ShardState)) (kss : List (List Key)) → AllZip HaveTerms hs kss → AllByRecursion (Sound pppoe) hs → AllByRecursion (λ h. AllByRecursion (IsOwned (joined kss)) h.sends) hs
shards_owned [] kss terms sound = tt
shards_owned (h ∷ hs) [] terms sound = absurd terms
shards_owned (h ∷ hs) (ks ∷ kss) terms sound =
    let there = stopped_keys h.stops ++ keys (terms_of h.state) in
    let others = joined kss in (
      all_weaker (IsOwned there) (IsOwned (ks ++ others)) (λ o is. owned_later ks others o (owned_same there ks o terms.0 is)) h.sends sound.0.owned,
      all_weaker (λ (x : ShardHistory ShardState). AllByRecursion (IsOwned others) x.sends) (λ (x : ShardHistory ShardState). AllByRecursion (IsOwned (ks ++ others)) x.sends)
          (λ x is. all_weaker (IsOwned others) (IsOwned (ks ++ others)) (λ o i. owned_by_later ks others o i) x.sends is) hs (shards_owned hs kss terms.1 sound.1),
    )

-- each datagram that the rounds sent is a whole packet of one of these terms, as its charge says, or no packet of a subscriber
pub sends_ours : (h h' : History ShardState) (rounds : List (List (ShardTurn Handled))) (kss : List (List Key)) → Run pppoe h rounds h' → AllZip HaveTerms h'.shards kss → AllByRecursion (Sound pppoe) h'.shards → AllByRecursion (IsOurs (Contains (joined kss))) (sends_of rounds)
sends_ours h h' rounds kss run terms sound =
    let all = joined kss in
    let owned = run_sent (IsOwned all) h h' rounds run (shards_owned h'.shards kss terms sound) in
    all_ours (Contains all) (sends_of rounds) (run_whole h h' rounds run)
    (all_weaker (IsOwned all) (λ (o : OutRecord). IfSome o.charge (λ c. Contains all (key_in c)))
    (λ o is. if_some_weaker (λ c. AnyOf (HasKey c) all) (λ c. Contains all (key_in c)) (λ c i. contained all (key_in c) i) o.charge is) (sends_of rounds) owned.1)

-- What is sent in a round is addressed by a term that was there before it, or began in it.
use Rattle.std.proofs.Common.{◌≡◌, ⊎_elim, Bool, not, cond, List, [], ◌∷◌, ◌++◌, map, filter, IfSome, refl, sym, ap, subst, ◌∙◌}
use Rattle.std.specs.List.{AllByRecursion, Contains, flat_map}
use Rattle.std.proofs.lemmas.List.Elements.{All-from_recursion}
use Rattle.bng_base.specs.declared.item.OutRecord.{OutRecord}
use Rattle.bng_base.specs.Chain.{Chain}
use Rattle.bng_engine.specs.Accounted.{IsNew, nothing_yet, opening}
use Rattle.bng_engine.specs.Histories.{History, ShardHistory, ShardTurn, NextInShard, NextRound, Run, sends_in}
use Rattle.bng_engine.specs.Journals.{after, outs_of, unsent}
use Rattle.bng_engine.specs.Lists.{AnyOf, Zip3}
use Rattle.bng_engine.specs.Protocol.{HasKey, IsOwned}
use Rattle.bng_engine.specs.Terms.{Key, Term, is_live, key_in, keys}
use Rattle.bng_engine.specs.Views.{DeskView, ShardView}
use Rattle.bng_engine.specs.Wire.{went}
use Rattle.bng_engine.proofs.Everywhere.{all_append, all_mapped, all_weaker, any_either, any_left, any_right, if_some_weaker}
use Rattle.bng_engine.proofs.Journals.{owned_same, run_owned}
use Rattle.bng_engine.proofs.Rounds.{in_shards}
use Rattle.bng_steps.specs.Protocol.{ShardState, Handled, pppoe, terms_of}
use Rattle.bng_steps.proofs.StepLaws.{pppoe_laws}
use Rattle.bng_gate.specs.Addressed.{IsAddressed}
use Rattle.bng_gate.specs.Headline.{AddressesLive, live_in}
use Rattle.bng_gate.proofs.Addressing.{went_addressed}
use Rattle.bng_gate.proofs.Keys.{IsOurs, all_ours}
use Rattle.bng_gate.proofs.Lists.{contained}
use Rattle.bng_gate.proofs.Openings.{IsLive}
use Rattle.bng_gate.proofs.Owning.{round_whole}
use Rattle.bng_gate.proofs.Stopping.{settled_live}

-- the terms that were there, and those that began
abbrev pub there : List (ShardHistory ShardState) → List Key
there hs = flat_map (λ (x : ShardHistory ShardState). keys (terms_of x.state)) hs

abbrev pub begun : List (ShardTurn Handled) → List Key
begun ts = flat_map (λ (t : ShardTurn Handled). t.settlement.starts) ts

-- one of a first part or of a second, each with more before it or behind it
module _ {X : Type 0} (P : X → Type 0) (us vs xs ys : List X) where
  pub any_inner : AnyOf P (us ++ vs) → AnyOf P ((us ++ xs) ++ (vs ++ ys))
  any_inner h =
      ⊎_elim
      (λ (i : AnyOf P us). any_left P (us ++ xs) (vs ++ ys) (any_left P us xs i))
      (λ (i : AnyOf P vs). any_right P (us ++ xs) (vs ++ ys) (any_left P vs ys i))
      (any_either P us vs h)

  pub any_outer : AnyOf P (xs ++ ys) → AnyOf P ((us ++ xs) ++ (vs ++ ys))
  any_outer h =
      ⊎_elim
      (λ (i : AnyOf P xs). any_left P (us ++ xs) (vs ++ ys) (any_right P us xs i))
      (λ (i : AnyOf P ys). any_right P (us ++ xs) (vs ++ ys) (any_right P vs ys i))
      (any_either P xs ys h)

-- what a shard sent in a round is of a term that was there, or began
shard_owned : (h : ShardHistory ShardState) (t : ShardTurn Handled) (h' : ShardHistory ShardState) → NextInShard pppoe h t h' → AllByRecursion (IsOwned (keys (terms_of h.state) ++ t.settlement.starts)) t.settlement.sends
shard_owned h t h' n =
    let end = after pppoe h.state t.round.journal in
    let all = keys (terms_of h.state) ++ t.settlement.starts in
    let owned : AllByRecursion (IsOwned (keys (terms_of end))) (outs_of pppoe h.state t.round.journal) = run_owned pppoe pppoe_laws h.state t.round.journal n.round.steps in
    let before : AllByRecursion (IsOwned (keys (terms_of n.mid))) (map unsent t.settlement.sends) =
    subst (λ (s : ShardState). AllByRecursion (IsOwned (keys (terms_of s))) (map unsent t.settlement.sends)) (sym n.round.state) (subst (AllByRecursion (IsOwned (keys (terms_of end)))) (sym n.settlement.outs) owned) in
    all_weaker (λ (o : OutRecord). IsOwned (keys (terms_of n.mid)) (unsent o)) (IsOwned all)
    (λ o is. owned_same (keys (terms_of n.mid)) all o n.settlement.starts.each is) t.settlement.sends
    (all_mapped (IsOwned (keys (terms_of n.mid))) unsent t.settlement.sends before)

-- and so of all shards
round_owned : (hs : List (ShardHistory ShardState)) (ts : List (ShardTurn Handled)) (hs' : List (ShardHistory ShardState)) → Zip3 (NextInShard pppoe) hs ts hs' → AllByRecursion (IsOwned (there hs ++ begun ts)) (sends_in ts)
round_owned [] [] [] next = tt
round_owned (h ∷ hs) (t ∷ ts) (h' ∷ hs') next =
    let here = keys (terms_of h.state) in
    let starts = t.settlement.starts in
    let all = (here ++ there hs) ++ (starts ++ begun ts) in
    all_append (IsOwned all) t.settlement.sends (sends_in ts)
    (all_weaker (IsOwned (here ++ starts)) (IsOwned all)
    (λ o is. if_some_weaker (λ c. AnyOf (HasKey c) (here ++ starts)) (λ c. AnyOf (HasKey c) all) (λ c i. any_inner (HasKey c) here starts (there hs) (begun ts) i) o.charge is)
    t.settlement.sends (shard_owned h t h' next.0))
    (all_weaker (IsOwned (there hs ++ begun ts)) (IsOwned all)
    (λ o is. if_some_weaker (λ c. AnyOf (HasKey c) (there hs ++ begun ts)) (λ c. AnyOf (HasKey c) all) (λ c i. any_outer (HasKey c) here starts (there hs) (begun ts) i) o.charge is)
    (sends_in ts) (round_owned hs ts hs' next.1))
round_owned hs ts hs' next = absurd next

-- Live terms ------------------------------------------------------------------------------------------------------------------

-- all terms of a shard are live
abbrev IsAllLive : ShardHistory ShardState → Type 0
IsAllLive h = AllByRecursion IsLive (terms_of h.state)

abbrev pub AreLive : List (ShardHistory ShardState) → Type 0
AreLive hs = AllByRecursion IsAllLive hs

-- so it is at the opening, and after each round
pub new_live : (vs : List (ShardView ShardState Handled)) → AllByRecursion (IsNew pppoe) vs → AreLive (map nothing_yet vs)
new_live [] new = tt
new_live (v ∷ vs) new = (new.0.live, new_live vs new.1)

pub next_live : (hs : List (ShardHistory ShardState)) (ts : List (ShardTurn Handled)) (hs' : List (ShardHistory ShardState)) → Zip3 (NextInShard pppoe) hs ts hs' → AreLive hs'
next_live [] [] [] next = tt
next_live (h ∷ hs) (t ∷ ts) (h' ∷ hs') next =
    let n = next.0 in
    (subst (λ (s : ShardState). AllByRecursion IsLive (terms_of s)) (sym n.settlement.state) (settled_live n.mid), next_live hs ts hs' next.1)
next_live hs ts hs' next = absurd next

-- then those that are live are all that are there
pub all_kept : (ts : List Term) → AllByRecursion IsLive ts → filter is_live ts ≡ ts
all_kept [] live = refl
all_kept (t ∷ ts) live =
    let rest = filter is_live ts in
    ap (λ (b : Bool). cond (not b) (t ∷ rest) rest) live.0 ∙ ap (λ (us : List Term). t ∷ us) (all_kept ts live.1)

pub all_there : (hs : List (ShardHistory ShardState)) → AreLive hs → flat_map (λ (x : ShardHistory ShardState). keys (filter is_live (terms_of x.state))) hs ≡ there hs
all_there [] live = refl
all_there (h ∷ hs) live =
    ap (λ (ts : List Term). keys ts ++ flat_map (λ (x : ShardHistory ShardState). keys (filter is_live (terms_of x.state))) hs) (all_kept (terms_of h.state) live.0)
    ∙ ap (λ (ks : List Key). keys (terms_of h.state) ++ ks) (all_there hs live.1)

-- Rounds ---------------------------------------------------------------------------------------------------------------------

pub round_addresses : (h h' : History ShardState) (ts : List (ShardTurn Handled)) → AreLive h.shards → NextRound pppoe h ts h' → AddressesLive h ts h'
round_addresses h h' ts live next =
    let all = live_in h ts in
    let sends = sends_in ts in
    let shards = in_shards pppoe h h' ts next in
    let owned : AllByRecursion (IsOwned all) sends =
    subst (λ (ks : List Key). AllByRecursion (IsOwned (ks ++ begun ts)) sends) (sym (all_there h.shards live)) (round_owned h.shards ts h'.shards shards) in
    let known : AllByRecursion (λ (o : OutRecord). IfSome o.charge (λ c. Contains all (key_in c))) sends =
    all_weaker (IsOwned all) (λ (o : OutRecord). IfSome o.charge (λ c. Contains all (key_in c)))
    (λ o is. if_some_weaker (λ c. AnyOf (HasKey c) all) (λ c. Contains all (key_in c)) (λ c i. contained all (key_in c) i) o.charge is) sends owned in
    let ours : AllByRecursion (IsOurs (Contains all)) sends = all_ours (Contains all) sends (round_whole h.shards ts h'.shards shards) known in
    record { next = next; octets = All-from_recursion (IsAddressed all) (went sends) (went_addressed all sends ours) }

rounds_address : (h h' : History ShardState) (rounds : List (List (ShardTurn Handled))) → AreLive h.shards → Run pppoe h rounds h' → Chain AddressesLive h rounds h'
rounds_address h h' [] live run = run
rounds_address h h' (ts ∷ rounds) live run =
    (run.0, round_addresses h run.0 ts live run.1, rounds_address run.0 h' rounds (next_live h.shards ts run.0.shards (in_shards pppoe h run.0 ts run.1)) run.2)

-- each round of a run is such
pub live_addressed : (v : DeskView ShardState Handled) (h : History ShardState) (rounds : List (List (ShardTurn Handled))) → AllByRecursion (IsNew pppoe) v.shards → Run pppoe (opening v) rounds h → Chain AddressesLive (opening v) rounds h
live_addressed v h rounds new run = rounds_address (opening v) h rounds (new_live v.shards new) run

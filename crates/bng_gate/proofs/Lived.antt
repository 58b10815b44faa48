-- What a turn sends is charged to terms that lived in it.
use Rattle.std.proofs.Common.{ℕ, List, [], ◌∷◌, ◌++◌, map, filter, Option, Some, None, sym, subst}
use Rattle.std.specs.List.{AllByRecursion, AllZip, Contains, flat_map}
use Rattle.bng_base.specs.declared.item.Entry.{Entry}
use Rattle.bng_base.specs.declared.item.Item.{Item}
use Rattle.bng_base.specs.declared.item.OutRecord.{OutRecord}
use Rattle.bng_engine.specs.Accounted.{IsNew}
use Rattle.bng_engine.specs.Calls.{Moves}
use Rattle.bng_engine.specs.Journals.{after, outs_of, unsent}
use Rattle.bng_engine.specs.Lists.{AnyOf}
use Rattle.bng_engine.specs.Protocol.{HasKey, IsOwned}
use Rattle.bng_engine.specs.Showing.{with_journal}
use Rattle.bng_engine.specs.Terms.{Key, Term, is_live, key_in, keys}
use Rattle.bng_engine.specs.Views.{ShardView}
use Rattle.bng_engine.proofs.Everywhere.{all_append, all_mapped, all_weaker, if_some_weaker}
use Rattle.bng_engine.proofs.Journals.{owned_same, run_owned}
use Rattle.bng_steps.specs.Protocol.{ShardState, Handled, pppoe, terms_of}
use Rattle.bng_steps.proofs.StepLaws.{pppoe_laws}
use Rattle.bng_desk.specs.Model.{Desk}
use Rattle.bng_desk.specs.Round.{Round, left_by, views_of}
use Rattle.bng_desk.specs.Turn.{RoundOf, Step, Turn, after_round, ending_items, items_of}
use Rattle.bng_gate.specs.Serving.{Late, LateStep, Ends, Waits}
use Rattle.bng_gate.specs.Unchanged.{lived_in}
use Rattle.bng_gate.proofs.AddressedLive.{all_kept, any_inner, any_outer}
use Rattle.bng_gate.proofs.Lists.{contained}
use Rattle.bng_gate.proofs.Openings.{IsLive}
use Rattle.bng_gate.proofs.Passing.{IsKnown}
use Rattle.bng_gate.proofs.Stopping.{settled_live}

-- Before a turn all terms are live ---------------------------------------------------------------------------------------------

abbrev IsViewLive : ShardView ShardState Entry → Type 0
IsViewLive v = AllByRecursion IsLive (terms_of v.state)

abbrev AreViewsLive : List (ShardView ShardState Entry) → Type 0
AreViewsLive vs = AllByRecursion IsViewLive vs

-- all terms of the shards are live
abbrev pub IsLiveDesk : Desk → Type 0
IsLiveDesk d = AreViewsLive d.shards

left_live : (vs : List (ShardView ShardState Entry)) (ws : List (ShardView ShardState Handled)) → AllZip (Moves pppoe) (views_of vs) ws → AreViewsLive (map left_by ws)
left_live [] [] moves = tt
left_live [] (w ∷ ws) moves = absurd moves
left_live (v ∷ vs) [] moves = absurd moves
left_live (v ∷ vs) (w ∷ ws) moves =
    (subst (λ (s : ShardState). AllByRecursion IsLive (terms_of s)) (sym moves.0.state) (settled_live (after pppoe v.state w.journal)), left_live vs ws moves.1)

round_live : (d : Desk) (moment : ℕ) (items : List Item) (round : Option Round) → RoundOf d moment items round → IsLiveDesk d → AreViewsLive (after_round d items round).shards
round_live d moment items None is live = live
round_live d moment items (Some round) is live = left_live d.shards round.shards is.turn.shards

pub step_live : (d d' : Desk) (t : Option Turn) → Step d t d' → IsLiveDesk d → IsLiveDesk d'
step_live d d' None step live = subst IsLiveDesk (sym step) live
step_live d d' (Some t) step live = subst IsLiveDesk (sym step.5) (round_live d t.moment (items_of d t) t.round step.1 live)

pub end_live : (d d' : Desk) (t : Late) → LateStep d t d' → IsLiveDesk d → IsLiveDesk d'
end_live d d' (Ends None) step live = subst IsLiveDesk (sym step) live
end_live d d' (Waits t) step live = subst IsLiveDesk (sym step.after) live
end_live d d' (Ends (Some t)) step live = subst IsLiveDesk (sym step.5) (round_live d t.moment (ending_items d) t.round step.1 live)

-- so it is at the opening
pub opened_live : (vs : List (ShardView ShardState Entry)) → AllByRecursion (IsNew pppoe) (views_of vs) → AreViewsLive vs
opened_live [] new = tt
opened_live (v ∷ vs) new = (new.0.live, opened_live vs new.1)

-- What is sent in it -----------------------------------------------------------------------------------------------------------

-- what a shard sent is of a term that was there, or began
moved_owned : (v w : ShardView ShardState Handled) → Moves pppoe v w → AllByRecursion (IsOwned (keys (terms_of v.state) ++ w.starts)) w.sends
moved_owned v w m =
    let end = keys (terms_of (after pppoe v.state w.journal)) in
    let all = keys (terms_of v.state) ++ w.starts in
    let owned : AllByRecursion (IsOwned end) (outs_of pppoe v.state w.journal) = run_owned pppoe pppoe_laws v.state w.journal m.steps in
    let before : AllByRecursion (IsOwned end) (map unsent w.sends) = subst (AllByRecursion (IsOwned end)) (sym m.outs) owned in
    all_weaker (λ (o : OutRecord). IsOwned end (unsent o)) (IsOwned all)
    (λ o is. owned_same end all o m.begun.each is) w.sends
    (all_mapped (IsOwned end) unsent w.sends before)

abbrev pub live_of : List (ShardView ShardState Entry) → List Key
live_of vs = flat_map (λ (v : ShardView ShardState Entry). keys (filter is_live (terms_of v.state))) vs

abbrev begun_of : List (ShardView ShardState Handled) → List Key
begun_of ws = flat_map (λ (w : ShardView ShardState Handled). w.starts) ws

abbrev sends_of : List (ShardView ShardState Handled) → List OutRecord
sends_of ws = flat_map (λ (w : ShardView ShardState Handled). w.sends) ws

-- and so of all shards
all_owned : (vs : List (ShardView ShardState Entry)) (ws : List (ShardView ShardState Handled)) → AllZip (Moves pppoe) (views_of vs) ws → AreViewsLive vs → AllByRecursion (IsOwned (live_of vs ++ begun_of ws)) (sends_of ws)
all_owned [] [] moves live = tt
all_owned [] (w ∷ ws) moves live = absurd moves
all_owned (v ∷ vs) [] moves live = absurd moves
all_owned (v ∷ vs) (w ∷ ws) moves live =
    let here = keys (filter is_live (terms_of v.state)) in
    let starts = w.starts in
    let all = (here ++ live_of vs) ++ (starts ++ begun_of ws) in
    let mine : AllByRecursion (IsOwned (here ++ starts)) w.sends =
    subst (λ (ts : List Term). AllByRecursion (IsOwned (keys ts ++ w.starts)) w.sends) (sym (all_kept (terms_of v.state) live.0)) (moved_owned (with_journal v []) w moves.0) in
    all_append (IsOwned all) w.sends (sends_of ws)
    (all_weaker (IsOwned (here ++ starts)) (IsOwned all)
    (λ o is. if_some_weaker (λ c. AnyOf (HasKey c) (here ++ starts)) (λ c. AnyOf (HasKey c) all) (λ c i. any_inner (HasKey c) here starts (live_of vs) (begun_of ws) i) o.charge is)
    w.sends mine)
    (all_weaker (IsOwned (live_of vs ++ begun_of ws)) (IsOwned all)
    (λ o is. if_some_weaker (λ c. AnyOf (HasKey c) (live_of vs ++ begun_of ws)) (λ c. AnyOf (HasKey c) all) (λ c i. any_outer (HasKey c) here starts (live_of vs) (begun_of ws) i) o.charge is)
    (sends_of ws) (all_owned vs ws moves.1 live.1))

pub round_known : (d : Desk) (moment : ℕ) (items : List Item) (round : Round) → RoundOf d moment items (Some round) → IsLiveDesk d
    → AllByRecursion (IsKnown (lived_in (record { desk = d; items = items; round = Some round }))) (flat_map (λ w. w.sends) round.shards)
round_known d moment items round is live =
    let all = live_of d.shards ++ begun_of round.shards in
    all_weaker (IsOwned all) (IsKnown all)
    (λ o is. if_some_weaker (λ c. AnyOf (HasKey c) all) (λ c. Contains all (key_in c)) (λ c i. contained all (key_in c) i) o.charge is) (sends_of round.shards)
    (all_owned d.shards round.shards is.turn.shards live)

-- A shard within a turn of the engine, over a run of steps.
use Rattle.std.proofs.Common.{◌≡◌, List, [], ◌∷◌, ◌++◌, map, sym, ap, ◌∙◌, subst}
use Rattle.std.specs.List.{AllByRecursion}
use Rattle.std.proofs.lemmas.List.{append-nil, append_assoc, map-append}
use Rattle.bng_base.specs.declared.item.Entry.{Entry}
use Rattle.bng_engine.specs.Calls.{InTurn}
use Rattle.bng_engine.specs.Showing.{with_journal}
use Rattle.bng_engine.proofs.Progressing.{turn_steps}
use Rattle.bng_round.specs.Booking.{Runs}
use Rattle.bng_round.specs.Views.{PlacedView, Sight}
use Rattle.bng_round.specs.Was.{IsLight}
use Rattle.bng_steps.specs.Protocol.{Handled, pppoe}

-- the steps go on with the turn
pub turn_runs : (o : Sight) (v w : PlacedView) (past hs : List Handled) → map (λ (h : Handled). h.deed.entry) past ≡ v.shard.journal → v.shard.sends ≡ [] → InTurn pppoe o (with_journal v.shard past) → Runs v hs w
    → InTurn pppoe o (with_journal w.shard (past ++ hs)) × (w.shard.sends ≡ [])
turn_runs o v w past [] same none turn runs =
    subst (λ (z : PlacedView). InTurn pppoe o (with_journal z.shard (past ++ [])) × (z.shard.sends ≡ [])) (sym runs) (subst (λ (l : List Handled). InTurn pppoe o (with_journal v.shard l)) (sym (append-nil past)) turn, none)
turn_runs o v w past (h ∷ hs) same none turn runs =
    let m : PlacedView = runs.0 in
    let d = runs.1.handles.handles past same in
    let longer : map (λ (x : Handled). x.deed.entry) (past ++ h ∷ []) ≡ m.shard.journal = map-append (λ (x : Handled). x.deed.entry) past (h ∷ []) ∙ (ap (λ (l : List Entry). l ++ h.deed.entry ∷ []) same ∙ sym runs.1.handles.journal) in
    let on = turn_runs o m w (past ++ h ∷ []) hs longer (d.sends ∙ none) (turn_steps pppoe o (with_journal v.shard past) h (with_journal m.shard (past ++ h ∷ [])) turn none d) runs.2 in
    (subst (λ (l : List Handled). InTurn pppoe o (with_journal w.shard l)) (append_assoc past (h ∷ []) hs) on.0, on.1)

-- none of them sends much
pub runs_light : (v w : PlacedView) (hs : List Handled) → Runs v hs w → AllByRecursion IsLight hs
runs_light v w [] runs = tt
runs_light v w (h ∷ hs) runs = ((runs.1.light, runs.1.few), runs_light runs.0 w hs runs.2)

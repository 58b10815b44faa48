-- How many terms and Stops there are, where each term has its Stop.
use Rattle.std.proofs.Common.{◌≡◌, ℕ, List, [], ◌∷◌, length, length-append, map, refl, ap, ◌∙◌, arith}
use Rattle.std.specs.List.{AllByRecursion, AllZip, flat_map, sum_by}
use Rattle.std.proofs.lemmas.List.{length-map}
use Rattle.std.proofs.lemmas.List.Sums.{sum_by-cons}
use Rattle.bng_base.specs.declared.item.Entry.{Entry}
use Rattle.bng_base.specs.declared.item.OutRecord.{OutRecord}
use Rattle.bng_engine.specs.Accounted.{opening}
use Rattle.bng_engine.specs.Histories.{History, ShardHistory, ShardTurn, Run}
use Rattle.bng_engine.specs.Laws.{stops_of}
use Rattle.bng_engine.specs.Terms.{Key, Stop, stopped_keys}
use Rattle.bng_engine.specs.Views.{DeskView, ShardView}
use Rattle.bng_engine.proofs.RoundSums.{run_stopped}
use Rattle.bng_steps.specs.Protocol.{ShardState, Handled, pppoe, term_in, terms_of}
use Rattle.bng_steps.specs.State.{State}
use Rattle.bng_desk.specs.Model.{live_terms}
use Rattle.bng_desk.specs.Round.{views_of}
use Rattle.bng_gate.specs.Headline.{AreStopped}
use Rattle.bng_gate.proofs.Going.{Shows}
use Rattle.bng_gate.proofs.Leaving.{HasNoTerms}
use Rattle.bng_gate.proofs.Traffic.{none_stopped}

counted : {X : Type 0} (xs : List X) → sum_by (λ (x : X). 1) xs ≡ length xs
counted [] = refl
counted {X} (x ∷ xs) = omega (arith, sum_by-cons (λ (y : X). 1) x xs, counted xs)

-- the Stops of all shards
abbrev stops_in_all : List (ShardHistory ShardState) → ℕ
stops_in_all hs = sum_by (λ (h : ShardHistory ShardState). sum_by (λ (s : Stop). 1) h.stops) hs

-- are those that the rounds formed
pub stops_counted : (rounds : List (List (ShardTurn Handled))) (start : DeskView ShardState Handled) (h : History ShardState) → Run pppoe (opening start) rounds h → stops_in_all h.shards ≡ length (stops_of rounds)
stops_counted rounds start h run =
    omega (
      arith,
      run_stopped pppoe (λ (r : OutRecord). 0) (λ (s : Stop). 1) (opening start) h rounds run,
      none_stopped (λ (s : Stop). 1) start.shards,
      counted (stops_of rounds),
    )

-- and are as many as the terms
pub terms_counted : (hs : List (ShardHistory ShardState)) (kss : List (List Key)) → AllZip AreStopped hs kss → stops_in_all hs ≡ length (flat_map (λ (ks : List Key). ks) kss)
terms_counted [] [] have = refl
terms_counted [] (ks ∷ kss) have = absurd have
terms_counted (h ∷ hs) [] have = absurd have
terms_counted (h ∷ hs) (ks ∷ kss) have =
    omega (
      arith,
      sum_by-cons (λ (x : ShardHistory ShardState). sum_by (λ (s : Stop). 1) x.stops) h hs,
      counted h.stops,
      counted ks,
      counted (stopped_keys h.stops),
      length-map h.stops (λ (s : Stop). s.key),
      have.0 (λ (k : Key). 1),
      length-append ks (flat_map (λ (xs : List Key). xs) kss),
      terms_counted hs kss have.1,
    )

-- where no term is there, none is counted
pub none_live : (vs : List (ShardView ShardState Entry)) (hs : List (ShardHistory ShardState)) → AllZip Shows (views_of vs) hs → AllByRecursion HasNoTerms hs → live_terms vs ≡ 0
none_live [] hs shows none = refl
none_live (v ∷ vs) [] shows none = absurd shows
none_live (v ∷ vs) (h ∷ hs) shows none =
    let here : length (terms_of v.state) ≡ 0 = ap (λ (s : State). length (map term_in s.terms)) shows.0.slots ∙ ap length none.0 in
    omega (arith, sum_by-cons (λ (x : ShardView ShardState Entry). length (terms_of x.state)) v vs, here, none_live vs hs shows.1 none.1)

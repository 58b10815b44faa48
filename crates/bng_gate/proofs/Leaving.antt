-- Where no session is left, each term has its Stop, and no row says anything.
use Rattle.std.proofs.Common.{◌≡◌, Bool, List, [], ◌∷◌, ◌++◌, refl, sym, ap, ◌∙◌, arith, append-nil}
use Rattle.std.specs.List.{AllByRecursion, AllZip, sum_by}
use Rattle.std.proofs.lemmas.Bool.{and_parts, eqb-true}
use Rattle.std.proofs.lemmas.List.Sums.{sum_by-cons}
use Rattle.bng_base.specs.declared.item.Entry.{Entry}
use Rattle.bng_engine.specs.Histories.{ShardHistory}
use Rattle.bng_engine.specs.Quantities.{Quantity}
use Rattle.bng_engine.specs.Showing.{with_journal}
use Rattle.bng_engine.specs.Terms.{Key, Term, keys, stopped_keys}
use Rattle.bng_engine.specs.Views.{ShardView, Row, row_keys, rows_where}
use Rattle.bng_steps.specs.Protocol.{ShardState, Handled, sessions_of, terms_of}
use Rattle.bng_steps.specs.State.{State, count_in}
use Rattle.bng_desk.specs.declared.desk.DeskState.TheVariants.{Ended}
use Rattle.bng_desk.specs.Model.{Desk, grace_is_over, has_ended, has_starved, is_over, sessions_in, state_of}
use Rattle.bng_desk.specs.Round.{views_of}
use Rattle.bng_gate.specs.Headline.{AreStopped, HaveTerms}
use Rattle.bng_gate.proofs.Going.{Shows}
use Rattle.bng_gate.proofs.Living.{none_there}
use Rattle.bng_gate.proofs.States.{ended_by}
use Rattle.bng_gate.proofs.Stopping.{IsHoused}

-- no session is left in a shard
abbrev pub IsEmpty : ShardView ShardState Entry → Type 0
IsEmpty v = sessions_of v.state ≡ 0

all_empty : (vs : List (ShardView ShardState Entry)) → sessions_in vs ≡ 0 → AllByRecursion IsEmpty vs
all_empty [] e = tt
all_empty (v ∷ vs) e =
    let parts = sum_by-cons (λ (x : ShardView ShardState Entry). sessions_of x.state) v vs in
    (omega (arith, e, parts), all_empty vs (omega (arith, e, parts)))

pub ended_empty : (d : Desk) → state_of d ≡ Ended → AllByRecursion IsEmpty d.shards
ended_empty d e =
    let ended = ended_by (is_over d) (has_ended d) (grace_is_over d) (has_starved d) e in
    all_empty d.shards (eqb-true (sessions_in d.shards) 0 (and_parts d.closed _ ended).1)

-- no term is there
abbrev pub HasNoTerms : ShardHistory ShardState → Type 0
HasNoTerms h = terms_of h.state ≡ []

-- where no session is left, no term is there, as each is that of a session
pub terms_gone : (vs : List (ShardView ShardState Entry)) (hs : List (ShardHistory ShardState)) → AllByRecursion IsEmpty vs → AllZip Shows (views_of vs) hs → AllByRecursion IsHoused hs → AllByRecursion HasNoTerms hs
terms_gone [] [] empty shows housed = tt
terms_gone [] (h ∷ hs) empty shows housed = absurd shows
terms_gone (v ∷ vs) [] empty shows housed = absurd shows
terms_gone (v ∷ vs) (h ∷ hs) empty shows housed = (
  none_there h.state (ap (λ (s : State). count_in s) (sym shows.0.slots) ∙ empty.0) housed.0.housed housed.0.live,
  terms_gone vs hs empty.1 shows.1 housed.1,
)

no_rows : (rows : List Row) → sum_by (λ _. 1) (row_keys rows) ≡ 0 → rows ≡ []
no_rows [] e = refl
no_rows (r ∷ rows) e = absurd (omega (arith, e, sum_by-cons (λ (_ : Key). 1) r.key (row_keys rows)))

abbrev pub HasNoRows : ShardView ShardState Entry → Type 0
HasNoRows v = v.rows ≡ []

-- each term has its Stop
pub all_stopped : (hs : List (ShardHistory ShardState)) (kss : List (List Key)) → AllByRecursion HasNoTerms hs → AllZip HaveTerms hs kss → AllZip AreStopped hs kss
all_stopped [] [] none have = tt
all_stopped [] (ks ∷ kss) none have = absurd have
all_stopped (h ∷ hs) [] none have = absurd have
all_stopped (h ∷ hs) (ks ∷ kss) none have =
    let here : AreStopped h ks = λ f.
    ap (sum_by f) (sym (append-nil (stopped_keys h.stops))) ∙ ap (λ (ts : List Term). sum_by f (stopped_keys h.stops ++ keys ts)) (sym none.0) ∙ have.0 f in
    (here, all_stopped hs kss none.1 have.1)

-- and none has a row
pub rows_gone : (vs : List (ShardView ShardState Entry)) (hs : List (ShardHistory ShardState)) → AllZip Shows (views_of vs) hs → AllByRecursion HasNoTerms hs → AllByRecursion HasNoRows vs
rows_gone [] hs shows none = tt
rows_gone (v ∷ vs) [] shows none = absurd shows
rows_gone (v ∷ vs) (h ∷ hs) shows none = (no_rows v.rows (shows.0.fit (λ _. 1) ∙ ap (λ (ts : List Term). sum_by (λ (_ : Key). 1) (keys ts)) none.0), rows_gone vs hs shows.1 none.1)

pub shards_say_none : (q : Quantity) (pick : Key → Bool) (input : Bool) (vs : List (ShardView ShardState Entry)) → AllByRecursion HasNoRows vs → sum_by (λ x. rows_where q pick input x.rows) vs ≡ 0
shards_say_none q pick input [] none = refl
shards_say_none q pick input (v ∷ vs) none =
    omega (arith, sum_by-cons (λ (x : ShardView ShardState Entry). rows_where q pick input x.rows) v vs, ap (rows_where q pick input) none.0, shards_say_none q pick input vs none.1)

-- and as the engine sees them
pub rows_say_none : (q : Quantity) (pick : Key → Bool) (input : Bool) (vs : List (ShardView ShardState Entry)) → AllByRecursion HasNoRows vs → sum_by (λ x. rows_where q pick input x.rows) (views_of vs) ≡ 0
rows_say_none q pick input [] none = refl
rows_say_none q pick input (v ∷ vs) none =
    omega (
      arith,
      sum_by-cons (λ (x : ShardView ShardState Handled). rows_where q pick input x.rows) (with_journal v []) (views_of vs),
      ap (rows_where q pick input) none.0,
      rows_say_none q pick input vs none.1,
    )

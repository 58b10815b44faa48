-- The keys of the terms in the shards, of one shard among others.
use Rattle.std.proofs.Common.{◌≡◌, ⊎_elim, ℕ, zero, suc, ◌+◌, ◌<◌, List, [], ◌∷◌, ◌++◌, length, take, drop, get_or, set, refl, sym, ap, subst, ◌∙◌, append-nil, arith}
use Rattle.std.proofs.lemmas.Grind.{flat_map-append}
use Rattle.std.proofs.lemmas.List.{map-append}
use Rattle.bng_base.specs.declared.item.Entry.{Entry}
use Rattle.bng_engine.specs.Lists.{AnyOf}
use Rattle.bng_engine.specs.Terms.{Key, keys}
use Rattle.bng_engine.specs.Views.{ShardView}
use Rattle.bng_engine.proofs.Everywhere.{any_either}
use Rattle.bng_steps.specs.Protocol.{SaysOf, ShardState, terms_of}
use Rattle.bng_steps.specs.Tenures.{Tenure}
use Rattle.bng_desk.specs.Model.{keys_in}
use Rattle.bng_desk.specs.Round.{terms_in}
use Rattle.bng_desk.specs.Taking.{states_of}
use Rattle.bng_desk.proofs.Booking.{AreAmong, among_between}
use Rattle.bng_desk.proofs.Parts.{StandsAt, stands_at}
use Rattle.bng_desk.proofs.Readying.{Shards}

-- the keys of the terms in a shard, in the order in which they began
abbrev pub keys_of : ShardView ShardState Entry → List Key
keys_of v = keys (terms_of v.state)

keys_append : (vs ws : Shards) → keys_in (vs ++ ws) ≡ keys_in vs ++ keys_in ws
keys_append vs ws = flat_map-append keys_of vs ws

-- the keys of the first shards, of the one at a place, and of the others
pub keys_split : (vs : Shards) (i : ℕ) (v : ShardView ShardState Entry) → StandsAt vs i v → keys_in vs ≡ keys_in (take i vs) ++ (keys_of v ++ keys_in (drop (i + 1) vs))
keys_split vs i v at = ap keys_in at.whole ∙ keys_append (take i vs) (v ∷ drop (i + 1) vs)

pub keys_next : (vs : Shards) (i : ℕ) (v : ShardView ShardState Entry) → StandsAt vs i v → keys_in (take (i + 1) vs) ≡ keys_in (take i vs) ++ keys_of v
keys_next vs i v at = ap keys_in at.next ∙ keys_append (take i vs) (v ∷ []) ∙ ap (λ (ks : List Key). keys_in (take i vs) ++ ks) (append-nil (keys_of v))

set_there : (vs : Shards) (i : ℕ) (w : ShardView ShardState Entry) → i < length vs → set vs i w ≡ take i vs ++ w ∷ drop (suc i) vs
set_there [] i w lt = absurd (omega (arith, lt))
set_there (v ∷ vs) zero w lt = refl
set_there (v ∷ vs) (suc i) w lt = ap (λ (us : Shards). v ∷ us) (set_there vs i w (omega (arith, lt)))

-- another shard in its place
pub keys_set : (vs : Shards) (i : ℕ) (w : ShardView ShardState Entry) → i < length vs → keys_in (set vs i w) ≡ keys_in (take i vs) ++ (keys_of w ++ keys_in (drop (i + 1) vs))
keys_set vs i w lt =
    let after : suc i ≡ i + 1 = omega arith in
    ap keys_in (set_there vs i w lt ∙ ap (λ (n : ℕ). take i vs ++ w ∷ drop n vs) after) ∙ keys_append (take i vs) (w ∷ drop (i + 1) vs)

-- the shard at a place
pub shard_at : (vs : Shards) (i : ℕ) (v : ShardView ShardState Entry) → v ≡ get_or vs i v → i < length vs → StandsAt vs i v
shard_at vs i v is lt = subst (λ (w : ShardView ShardState Entry). StandsAt vs i w) (sym is) (stands_at vs i v lt)

-- the shard at a place, one of whose keys is such
pub record IsOfOne (P : Key → Type 0) (vs : Shards) : Type 0 where
  pub place : ℕ
  pub within : place < length vs
  pub shard : ShardView ShardState Entry
  pub is : (d : ShardView ShardState Entry) → get_or vs place d ≡ shard
  pub there : AnyOf P (keys_of shard)

of_later : (P : Key → Type 0) (v : ShardView ShardState Entry) (vs : Shards) → IsOfOne P vs → IsOfOne P (v ∷ vs)
of_later P v vs o = record { place = suc o.place; within = omega (arith, o.within); shard = o.shard; is = o.is; there = o.there }

-- a key of all is one of some shard
pub of_one : (P : Key → Type 0) (vs : Shards) → AnyOf P (keys_in vs) → IsOfOne P vs
of_one P [] any = absurd any
of_one P (v ∷ vs) any =
    ⊎_elim (λ (here : AnyOf P (keys_of v)). let o : IsOfOne P (v ∷ vs) = record { place = 0; within = omega arith; shard = v; is = λ d. refl; there = here } in o)
    (λ (later : AnyOf P (keys_in vs)). of_later P v vs (of_one P vs later)) (any_either P (keys_of v) (keys_in vs) any)

-- The terms ---------------------------------------------------------------------------------------------------------------

tenures_append : (vs ws : Shards) → terms_in (states_of (vs ++ ws)) ≡ terms_in (states_of vs) ++ terms_in (states_of ws)
tenures_append vs ws =
    ap terms_in (map-append (λ (v : ShardView ShardState Entry). v.state) vs ws) ∙ flat_map-append (λ (s : ShardState). s.slots.terms) (states_of vs) (states_of ws)

-- those of the first shards, of the one at a place, and of the others
pub tenures_split : (vs : Shards) (i : ℕ) (v : ShardView ShardState Entry) → StandsAt vs i v → terms_in (states_of vs) ≡ terms_in (states_of (take i vs)) ++ (v.state.slots.terms ++ terms_in (states_of (drop (i + 1) vs)))
tenures_split vs i v at = ap (λ (us : Shards). terms_in (states_of us)) at.whole ∙ tenures_append (take i vs) (v ∷ drop (i + 1) vs)

-- those of the shard at a place are among them
pub tenures_among : (vs : Shards) (i : ℕ) (v : ShardView ShardState Entry) → StandsAt vs i v → AreAmong v.state.slots.terms (terms_in (states_of vs))
tenures_among vs i v at user class began k any =
    subst (λ (ts : List Tenure). AnyOf (SaysOf user class began k) ts) (sym (tenures_split vs i v at))
    (among_between (terms_in (states_of (take i vs))) v.state.slots.terms (terms_in (states_of (drop (i + 1) vs))) user class began k any)

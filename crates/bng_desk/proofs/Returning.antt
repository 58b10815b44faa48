-- Addresses are given back to the table of those that are held, and each term that is left holds its own.
use Rattle.std.proofs.Common.{◌≡◌, ◌≢◌, ⊎_elim, ℕ, ◌<◌, Bool, true, false, not, ◌&&◌, ◌||◌, cond, eqb, List, [], ◌∷◌, ◌++◌, Option, Some, None, is_some, map, filter, length, get_or, set, refl, sym, ap, subst, ◌∙◌, arith, length-set, get_or-set_same, get_or-set_other}
use Rattle.std.specs.List.{All, AllZip, flat_map, list_any}
use Rattle.std.proofs.lemmas.Bool.Decides.{nat_tests}
use Rattle.std.proofs.lemmas.List.{map-append}
use Rattle.std.proofs.lemmas.List.Elements.{All-head, All-tail}
use Rattle.std.proofs.lemmas.List.Folds.{list_any-append}
use Rattle.std.proofs.lemmas.Map.Views.{any-filter_same}
use Rattle.bng_base.specs.declared.address.Ip4.{Ip4}
use Rattle.bng_base.specs.declared.item.Entry.{Entry}
use Rattle.bng_engine.specs.Calls.{Kept}
use Rattle.bng_engine.specs.Claims.{is_held}
use Rattle.bng_engine.specs.Lists.{AnyOf}
use Rattle.bng_engine.specs.Pool.{GivesAllBack}
use Rattle.bng_engine.specs.Terms.{Key, Term, Stop}
use Rattle.bng_engine.specs.Turns.{given_back}
use Rattle.bng_engine.specs.Views.{ShardView}
use Rattle.bng_pool.specs.Plain.{PlainView}
use Rattle.bng_pool.specs.Tables.{Table, TableFrees, entry}
use Rattle.bng_steps.specs.Protocol.{ShardState, Handled, SaysOf, term_in, terms_of}
use Rattle.bng_shard.specs.Handling.{AreHeld}
use Rattle.bng_steps.specs.Tenures.{Tenure}
use Rattle.bng_desk.specs.Round.{IsReturned, held_by}
use Rattle.bng_desk.specs.Taking.{AreInOrder}
use Rattle.bng_desk.proofs.Dealing.{Seens}
use Rattle.bng_desk.proofs.Readying.{Shards, all_onward}

-- The Stops -------------------------------------------------------------------------------------------------------------

abbrev has : List Stop → ℕ → Bool
has stops a = list_any (λ (s : Stop). eqb s.key.address.0 a) stops

either : (a b : Bool) (e : Option ℕ) → cond b None (cond a None e) ≡ cond (a || b) None e
either true true e = refl
either true false e = refl
either false b e = refl

pub returned_none : (pool : PlainView) → IsReturned [] pool pool
returned_none pool = record { table = λ a. refl; ranges = refl; shards = refl }

-- some are given back, and then some more
pub returned_more : (a b : List Stop) (p p' p'' : PlainView) → IsReturned a p p' → IsReturned b p' p'' → IsReturned (a ++ b) p p''
returned_more a b p p' p'' first next = record {
  table = λ x. next.table x
      ∙ ap (cond (has b x) None) (first.table x)
      ∙ either (has a x) (has b x) (entry p.table x)
      ∙ ap (λ (y : Bool). cond y None (entry p.table x)) (sym (list_any-append (λ (s : Stop). eqb s.key.address.0 x) a b));
  ranges = next.ranges ∙ first.ranges;
  shards = next.shards ∙ first.shards;
}

here : (x a : ℕ) → eqb x a ≡ true → a ≡ x
here x a e = grind (arith, nat_tests)

elsewhere : (x a : ℕ) → eqb x a ≡ false → a ≢ x
elsewhere x a e = grind (arith, nat_tests)

freed_at : (table table' : Table) (k x a : ℕ) (b : Bool) → TableFrees table k x table' → eqb x a ≡ b → entry table' a ≡ cond (b || false) None (entry table a)
freed_at table table' k x a true frees e = ap (entry table') (here x a e) ∙ frees.freed
freed_at table table' k x a false frees e = frees.elsewhere a (elsewhere x a e)

-- one is given back
pub returned_one : (s : Stop) (k : ℕ) (p p' : PlainView) → TableFrees p.table k s.key.address.0 p'.table → (p'.ranges ≡ p.ranges) × (p'.shards ≡ p.shards) → IsReturned (s ∷ []) p p'
returned_one s k p p' frees rest = record { table = λ a. freed_at p.table p'.table k s.key.address.0 a (eqb s.key.address.0 a) frees refl; ranges = rest.0; shards = rest.1 }

-- As the engine sees it -------------------------------------------------------------------------------------------------

held_one : (b : Bool) (n : ℕ) (e : Option ℕ) → (b || is_some e) ≡ is_some (cond b (Some n) e)
held_one true n e = refl
held_one false n e = refl

-- an address is held where the table has it
pub held_in : (t : Table) (a : ℕ) → list_any (λ (i : Ip4). eqb i.0 a) (map (λ (e : ℕ × ℕ). let i : Ip4 = record { 0 = e.0 } in i) t) ≡ is_some (entry t a)
held_in [] a = refl
held_in (e ∷ t) a = ap (λ (b : Bool). eqb e.0 a || b) (held_in t a) ∙ held_one (eqb e.0 a) e.1 (entry t a)

kept_some : (b : Bool) (e : Option ℕ) → is_some (cond b None e) ≡ (is_some e && not b)
kept_some true None = refl
kept_some true (Some n) = refl
kept_some false None = refl
kept_some false (Some n) = refl

abbrev leases : List Stop → List ℕ
leases stops = map (λ (s : Stop). s.key.address.0) stops

same_test : (x y a : ℕ) → eqb y a ≡ true → not (eqb y x) ≡ not (eqb x a)
same_test x y a e = grind (arith, nat_tests)

and_swap : (a b : Bool) → (a && b) ≡ (b && a)
and_swap true true = refl
and_swap true false = refl
and_swap false true = refl
and_swap false false = refl

abbrev without : ℕ → List Ip4 → List Ip4
without x held = filter (λ (i : Ip4). not (eqb i.0 x)) held

one_given : (x : ℕ) (held : List Ip4) (a : ℕ) → is_held a (without x held) ≡ (is_held a held && not (eqb x a))
one_given x held a =
    any-filter_same (λ (i : Ip4). eqb i.0 a) (λ (i : Ip4). not (eqb i.0 x)) (not (eqb x a)) (λ i e. same_test x i.0 a e) held
    ∙ and_swap (not (eqb x a)) (is_held a held)

and_both : (b x y : Bool) → (b && not (x || y)) ≡ ((b && not x) && not y)
and_both true true y = refl
and_both true false y = refl
and_both false x y = refl

and_none : (b : Bool) → (b && not false) ≡ b
and_none true = refl
and_none false = refl

-- the addresses of the Stops are given back, one after another
all_given : (stops : List Stop) (held held' : List Ip4) → ((a : ℕ) → is_held a held' ≡ (is_held a held && not (has stops a))) → GivesAllBack (leases stops) held held'
all_given [] held held' less = λ a. less a ∙ and_none (is_held a held)
all_given (s ∷ stops) held held' less =
    let x = s.key.address.0 in (
      without x held,
      one_given x held,
      all_given stops (without x held) held' (λ a. less a ∙ and_both (is_held a held) (eqb x a) (has stops a) ∙ ap (λ (b : Bool). b && not (has stops a)) (sym (one_given x held a))),
    )

leases_of : (xs : Seens) → leases (flat_map (λ v. v.stops) xs) ≡ given_back xs
leases_of [] = refl
leases_of (x ∷ xs) =
    map-append (λ (s : Stop). s.key.address.0) x.stops (flat_map (λ v. v.stops) xs) ∙ ap (λ (ns : List ℕ). leases x.stops ++ ns) (leases_of xs)

pub gives_back : (xs : Seens) (p p' : PlainView) → IsReturned (flat_map (λ v. v.stops) xs) p p' → GivesAllBack (given_back xs) (held_by p) (held_by p')
gives_back xs p p' back =
    let stops = flat_map (λ (v : ShardView ShardState Handled). v.stops) xs in
    subst (λ (ns : List ℕ). GivesAllBack ns (held_by p) (held_by p')) (leases_of xs)
    (all_given stops (held_by p) (held_by p')
    (λ a.
    held_in p'.table a
    ∙ ap is_some (back.table a)
    ∙ kept_some (has stops a) (entry p.table a)
    ∙ ap (λ (b : Bool). b && not (has stops a)) (sym (held_in p.table a))))

-- Terms and their addresses ---------------------------------------------------------------------------------------------

-- each term of a shard holds its address
abbrev pub HoldsOwn : Table → ShardView ShardState Entry → Type 0
HoldsOwn table v = AreHeld v.number (terms_of v.state) table

-- a shard that has what it had holds what it held
pub holds_still : (table : Table) (v w : ShardView ShardState Entry) → w.number ≡ v.number → w.state ≡ v.state → HoldsOwn table v → HoldsOwn table w
holds_still table v w number state held = subst (λ (n : ℕ). AreHeld n (terms_of w.state) table) (sym number) (subst (λ (s : ShardState). AreHeld v.number (terms_of s) table) (sym state) held)

pub held_kept : (table : Table) (vs ws : Shards) → AllZip Kept vs ws → All (HoldsOwn table) vs → All (HoldsOwn table) ws
held_kept table vs ws kept held = all_onward Kept (HoldsOwn table) (λ x y k here. holds_still table x y k.number k.state here) vs ws kept held

-- the term that is spoken of holds its address
pub held_key : (n : ℕ) (table : Table) (user class : List ℕ) (began : ℕ) (k : Key) (ts : List Tenure) → AnyOf (SaysOf user class began k) ts → AreHeld n (map term_in ts) table → entry table k.address.0 ≡ Some n
held_key n table user class began k [] any held = absurd any
held_key n table user class began k (t ∷ ts) any held =
    ⊎_elim (λ (says : SaysOf user class began k t). ap (λ (j : Key). entry table j.address.0) (sym says.key) ∙ All-head (λ (u : Term). entry table u.key.address.0 ≡ Some n) (term_in t) (map term_in ts) held)
    (λ (later : AnyOf (SaysOf user class began k) ts). held_key n table user class began k ts later (All-tail (λ (u : Term). entry table u.key.address.0 ≡ Some n) (term_in t) (map term_in ts) held)) any

same_holder : (m n : ℕ) → Some m ≡ Some n → m ≡ n
same_holder m n e = cc

-- a term that another shard has keeps its address
pub others_hold : (table table' : Table) (k x m n : ℕ) (ts : List Term) → TableFrees table k x table' → entry table x ≡ Some m → n ≢ m → AreHeld n ts table → AreHeld n ts table'
others_hold table table' k x m n ts frees mine other held j d lt =
    let a = (get_or ts j d).key.address.0 in
    let away : a ≢ x = λ same. other (same_holder n m (sym (held j d lt) ∙ ap (entry table) same ∙ mine)) in
    frees.elsewhere a away ∙ held j d lt

-- One shard among others --------------------------------------------------------------------------------------------------

module _ (vs : Shards) (i : ℕ) (w : ShardView ShardState Entry) (lt : i < length vs) where
  by_place : (P : ℕ → ShardView ShardState Entry → Type 0) → P i w → ((k : ℕ) (d : ShardView ShardState Entry) → k ≢ i → k < length vs → P k (get_or vs k d)) → (k : ℕ) (d : ShardView ShardState Entry) (b : Bool) → eqb i k ≡ b → k < length (set vs i w) → P k (get_or (set vs i w) k d)
  by_place P at others k d true e within =
      let same : k ≡ i = here i k e in
      subst (λ (n : ℕ). P n (get_or (set vs i w) n d)) (sym same) (subst (λ (v : ShardView ShardState Entry). P i v) (sym (get_or-set_same vs i w d lt)) at)
  by_place P at others k d false e within =
      let other : k ≢ i = elsewhere i k e in
      subst (λ (v : ShardView ShardState Entry). P k v) (sym (get_or-set_other vs i k w d other)) (others k d other (omega (arith, within, length-set vs i w)))

  pub order_set : (d : ShardView ShardState Entry) → AreInOrder vs → w.number ≡ (get_or vs i d).number → AreInOrder (set vs i w)
  order_set d order number k e within = by_place (λ n v. v.number ≡ n) (number ∙ order i d lt) (λ n f other inside. order n f inside) k e (eqb i k) refl within

  -- a shard gave addresses back, and the terms of the others hold theirs
  pub all_hold : (d : ShardView ShardState Entry) (table table' : Table) → AreInOrder vs → HoldsOwn table' w → ((n : ℕ) (ts : List Term) → n ≢ (get_or vs i d).number → AreHeld n ts table → AreHeld n ts table') → All (HoldsOwn table) vs → All (HoldsOwn table') (set vs i w)
  all_hold d table table' order own others held k e within =
      by_place (λ n v. HoldsOwn table' v) own
      (λ n f other inside. others (get_or vs n f).number (terms_of (get_or vs n f).state) (λ same. other (sym (order n f inside) ∙ same ∙ order i d lt)) (held n f inside)) k e (eqb i k) refl within

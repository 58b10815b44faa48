-- What the seats know once they told each other.
use mathlib.Core.Logic.{dite}
use native.Mathlib.Decide.{ℕ_discrete}
use Rattle.std.proofs.Common.{◌≡◌, ℕ, zero, suc, ◌+◌, ◌<◌, List, [], ◌∷◌, length, set, slice_get, slice_index_or, Some, refl, sym, ap, ◌∙◌, subst, arith}
use Rattle.std.proofs.lemmas.Option.{slice_get_within}
use Rattle.bng_pool.specs.Ranges.{HasAddress}
use Rattle.bng_pool.specs.Seats.{PoolView, SeatView as Hold, Holds, Notes, IsLearned, told}
use Rattle.bng_round.specs.Asking.{Goes, IsNoted}
use Rattle.bng_round.specs.Views.{PlacedView}
use Rattle.bng_round.proofs.Answering.{goes_same}
use Rattle.bng_round.specs.Telling.{EachGoes, AreAt, Knows, KnowsAll, IsTold, AllTold, AreApart, IsHeldBySome, HolderHolds, EachKnowsMore}
use Rattle.bng_pool.proofs.Telling.{told_held, told_note, kept_note}
use Rattle.bng_round.proofs.Places.{some_at, same_some, at_set_same, at_set_other}

module _ (p : PoolView) (phase : ℕ) (h : Hold) (shards shards' : List PlacedView) (at : AreAt p phase shards) (knows : KnowsAll h shards)
    (told : AllTold h shards shards') (count : length shards' ≡ length shards) where
  -- the shard at a place before it was told
  before : (s : ℕ) (g' : PlacedView) → slice_get shards' s ≡ Some g' → (g : PlacedView) × (slice_get shards s ≡ Some g) × IsTold h g g'
  before s g' e = let g = some_at shards s (omega (arith, slice_get_within shards' s g' e, count)) in (g.0, g.1, told s g.0 g' g.1 e)

  number_of : (s : ℕ) (g' : PlacedView) → slice_get shards' s ≡ Some g' → (g'.hold.number ≡ s) × (g'.hold.phase ≡ phase)
  number_of s g' e = let b = before s g' e in let here = at.holds s b.0 b.1 in (b.2.goes.number ∙ here.1, b.2.goes.phase ∙ here.0.phase_is)

  -- what the one that told them noted is so
  pub noted_holds : (a k : ℕ) (g' : PlacedView) → Notes h.notes a k phase → slice_get shards' k ≡ Some g' → Holds g'.hold.held a
  noted_holds a k g' note e =
      let b = before k g' e in let is = number_of k g' e in
      b.2.learned.holds a (subst (λ (z : ℕ × ℕ). Notes g'.hold.notes a z.0 z.1) (λ i. (sym is.0 i, sym is.1 i)) (b.2.heard a k phase note))

  pub apart : AreApart shards'
  apart i j a g' h' e f mine theirs =
      let b = before i g' e in let d = before j h' f in let is = number_of i g' e in
      let held : Holds d.0.hold.held a = subst (λ l. Holds l a) d.2.held theirs in
      let there = at.holds j d.0 d.1 in
      let note : Notes h.notes a j phase = subst (λ (z : ℕ × ℕ). Notes h.notes a z.0 z.1) (λ i. (there.1 i, there.0.phase_is i)) ((knows j d.0 d.1).held a held) in
      let heard : Notes g'.hold.notes a j g'.hold.phase = subst (λ (z : ℕ). Notes g'.hold.notes a j z) (sym is.1) (b.2.heard a j phase note) in
      sym (b.2.learned.alone a j mine heard ∙ is.0)

  pub held_within : (s a : ℕ) (g' : PlacedView) → slice_get shards' s ≡ Some g' → Holds g'.hold.held a → HasAddress g'.hold.pool.ranges a
  held_within s a g' e held = let b = before s g' e in b.2.within a held

  pub of_shards : length shards ≡ p.shards → (s a : ℕ) (g : PlacedView) → slice_get shards s ≡ Some g → IsNoted g.hold a → IsHeldBySome shards' a
  of_shards all s a g e n =
      let here = at.holds s g e in
      let low : n.0 < length shards' = let few = n.1 in let same = ap (λ (z : PoolView). z.shards) here.0.pool in omega arith in
      let g' = some_at shards' n.0 low in
      let note : Notes h.notes a n.0 phase = subst (λ (z : ℕ). Notes h.notes a n.0 z) here.0.phase_is ((knows s g e).notes a n.0 g.hold.phase n.2) in
      (n.0, g'.0, g'.1, noted_holds a n.0 g'.0 note g'.1)

  pub of_looker : (q : Hold) → Knows h q → q.phase ≡ phase → HolderHolds shards' q
  of_looker q known same a k g' note e = noted_holds a k g' (subst (λ (z : ℕ). Notes h.notes a k z) same (known.notes a k q.phase note)) e

  pub of_first : (q : Hold) → Goes q h → q.phase ≡ phase → HolderHolds shards' q
  of_first q goes same a k g' note e = noted_holds a k g' (subst (λ (z : ℕ). Notes h.notes a k z) same (goes.notes a k q.phase note)) e

pub more_of : (h : Hold) (shards shards' : List PlacedView) → AllTold h shards shards' → EachKnowsMore shards shards'
more_of h shards shards' told s g g' e f = let t = told s g g' e f in record { rest = t.rest; held = t.held; goes = t.goes }

pub goes_told : (to from : Hold) → Goes to (told to from)
goes_told to from = record { pool = refl; number = refl; phase = refl; full = refl; notes = λ a k p n. kept_note to from a k p n }

pub knows_told : (to from : Hold) → Knows (told to from) from
knows_told to from = record { held = λ a h. told_held to from a h; notes = λ a k p n. told_note to from a k p n }

pub is_told : (h : Hold) (g g' : PlacedView) → g' ≡ record g { hold = told g.hold h } → IsLearned (told g.hold h) → ((a : ℕ) → Holds g'.hold.held a → HasAddress g'.hold.pool.ranges a) → IsTold h g g'
is_told h g g' e learned within =
    let held : (a : ℕ) → Holds g.hold.held a → HasAddress g.hold.pool.ranges a = subst (λ (z : PlacedView). (a : ℕ) → Holds z.hold.held a → HasAddress z.hold.pool.ranges a) e within in
    subst (λ (z : PlacedView). IsTold h g z) (sym e) (record { rest = refl; held = refl; goes = goes_told g.hold h; heard = λ a k p n. told_note g.hold h a k p n; learned = learned; within = held })

pub knows_on : (h h' q : Hold) → Goes h h' → Knows h q → Knows h' q
knows_on h h' q g k = record { held = λ a held. g.notes a q.number q.phase (k.held a held); notes = λ a j p n. g.notes a j p (k.notes a j p n) }

-- elements that a loop comes to one after the other ---------------------------------------------------------------------------

pub item_at : {A : Type 0} (l : List A) (i : ℕ) (d : A) → i < length l → slice_get l i ≡ Some (slice_index_or l i d)
item_at [] i d low = absurd (omega (arith, low))
item_at (x ∷ l) zero d low = refl
item_at (x ∷ l) (suc i) d low = item_at l i d (omega (arith, low))

pub set_back : {A : Type 0} (l : List A) (i : ℕ) (x : A) → slice_get l i ≡ Some x → set l i x ≡ l
set_back [] i x e = absurd (cc)
set_back (y ∷ l) zero x e = let is : y ≡ x = cc in ap (λ z. z ∷ l) (sym is)
set_back (y ∷ l) (suc i) x e = ap (λ z. y ∷ z) (set_back l i x e)

module _ (h h' : Hold) (goes : Goes h h') where
  pub each_more : (qs : List Hold) (n : ℕ) (x : Hold) → slice_get qs n ≡ Some x → Knows h' x → ((j : ℕ) (q : Hold) → j < n → slice_get qs j ≡ Some q → Knows h q)
      → (j : ℕ) (q : Hold) → j < n + 1 → slice_get qs j ≡ Some q → Knows h' q
  each_more qs n x at new old j q low e = dite (ℕ_discrete j n)
      (λ same. subst (λ (z : Hold). Knows h' z) (same_some x q (slice_get qs n) at (ap (λ z. slice_get qs z) (sym same) ∙ e)) new)
      (λ other. knows_on h h' q goes (old j q (omega (arith, low, other)) e))

  pub all_more : (gs : List PlacedView) (n : ℕ) (x : PlacedView) → slice_get gs n ≡ Some x → Knows h' x.hold → ((s : ℕ) (g : PlacedView) → s < n → slice_get gs s ≡ Some g → Knows h g.hold)
      → (s : ℕ) (g : PlacedView) → s < n + 1 → slice_get gs s ≡ Some g → Knows h' g.hold
  all_more gs n x at new old s g low e = dite (ℕ_discrete s n)
      (λ same. subst (λ (z : PlacedView). Knows h' z.hold) (same_some x g (slice_get gs n) at (ap (λ z. slice_get gs z) (sym same) ∙ e)) new)
      (λ other. knows_on h h' g.hold goes (old s g (omega (arith, low, other)) e))

pub told_more : (h : Hold) (gs gs' : List PlacedView) (n : ℕ) (x x' : PlacedView) → slice_get gs n ≡ Some x → n < length gs' → IsTold h x x'
    → ((s : ℕ) (g g' : PlacedView) → s < n → slice_get gs s ≡ Some g → slice_get gs' s ≡ Some g' → IsTold h g g')
    → (s : ℕ) (g g' : PlacedView) → s < n + 1 → slice_get gs s ≡ Some g → slice_get (set gs' n x') s ≡ Some g' → IsTold h g g'
told_more h gs gs' n x x' at inside new old s g g' low e f = dite (ℕ_discrete s n)
    (λ same.
    let was : x ≡ g = same_some x g (slice_get gs n) at (ap (λ z. slice_get gs z) (sym same) ∙ e) in
    let is : x' ≡ g' = at_set_same gs' n x' g' (ap (λ z. slice_get (set gs' n x') z) (sym same) ∙ f) in
    subst (λ (z : PlacedView × PlacedView). IsTold h z.0 z.1) (λ i. (was i, is i)) new)
    (λ other. old s g g' (omega (arith, low, other)) e (sym (at_set_other gs' n s x' (λ z. other (sym z))) ∙ f))

-- each of some seats was told
pub lookers_more : (P : Hold → Hold → Type 0) (qs qs' : List Hold) (n : ℕ) (x x' : Hold) → slice_get qs n ≡ Some x → P x x'
    → ((j : ℕ) (q q' : Hold) → j < n → slice_get qs j ≡ Some q → slice_get qs' j ≡ Some q' → P q q')
    → (j : ℕ) (q q' : Hold) → j < n + 1 → slice_get qs j ≡ Some q → slice_get (set qs' n x') j ≡ Some q' → P q q'
lookers_more P qs qs' n x x' at new old j q q' low e f = dite (ℕ_discrete j n)
    (λ same.
    let was : x ≡ q = same_some x q (slice_get qs n) at (ap (λ z. slice_get qs z) (sym same) ∙ e) in
    let is : x' ≡ q' = at_set_same qs' n x' q' (ap (λ z. slice_get (set qs' n x') z) (sym same) ∙ f) in
    subst (λ (z : Hold × Hold). P z.0 z.1) (λ i. (was i, is i)) new)
    (λ other. old j q q' (omega (arith, low, other)) e (sym (at_set_other qs' n j x' (λ z. other (sym z))) ∙ f))

pub lookers_know_more : (P : Hold → Type 0) (qs' : List Hold) (n : ℕ) (x' : Hold) → P x' → ((j : ℕ) (q : Hold) → j < n → slice_get qs' j ≡ Some q → P q)
    → (j : ℕ) (q : Hold) → j < n + 1 → slice_get (set qs' n x') j ≡ Some q → P q
lookers_know_more P qs' n x' new old j q low f = dite (ℕ_discrete j n)
    (λ same. subst P (at_set_same qs' n x' q (ap (λ z. slice_get (set qs' n x') z) (sym same) ∙ f)) new)
    (λ other. old j q (omega (arith, low, other)) (sym (at_set_other qs' n j x' (λ z. other (sym z))) ∙ f))

pub first_goes : (qs others others' : List Hold) (first first' : Hold) → qs ≡ first ∷ others → others' ≡ others → Goes first first' → EachGoes qs (first' ∷ others')
first_goes qs others others' first first' all same goes zero q q' e f =
    let was : first ≡ q = same_some first q (slice_get qs 0) (ap (λ (l : List Hold). slice_get l 0) all) e in
    let is : first' ≡ q' = let s : Some first' ≡ Some q' = f in cc in
    subst (λ (z : Hold × Hold). Goes z.0 z.1) (λ i. (was i, is i)) goes
first_goes qs others others' first first' all same goes (suc j) q q' e f =
    let was : slice_get others j ≡ Some q = ap (λ (l : List Hold). slice_get l (suc j)) (sym all) ∙ e in
    let is : slice_get others j ≡ Some q' = ap (λ (l : List Hold). slice_get l j) (sym same) ∙ f in
    subst (λ (z : Hold). Goes q z) (same_some q q' (slice_get others j) was is) (goes_same q)

pub first_holds : (qs others : List Hold) (first : Hold) (P : Hold → Type 0) → qs ≡ first ∷ others → P first → ((j : ℕ) (q : Hold) → slice_get others j ≡ Some q → P q)
    → (j : ℕ) (q : Hold) → slice_get qs j ≡ Some q → P q
first_holds qs others first P all one rest zero q e = subst P (same_some first q (slice_get qs 0) (ap (λ (l : List Hold). slice_get l 0) all) e) one
first_holds qs others first P all one rest (suc j) q e = rest j q (ap (λ (l : List Hold). slice_get l (suc j)) (sym all) ∙ e)

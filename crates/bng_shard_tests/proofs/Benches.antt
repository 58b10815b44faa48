-- What the tests of a shard cite: a shard beside the table of which it claims addresses.
use Rattle.std.proofs.Common.{◌≡◌, inl, inr, ℕ, zero, suc, ◌+◌, ◌<◌, ◌≤◌, List, [], ◌∷◌, map, length, Option, Some, None, refl, sym, ap, subst, ◌∙◌, arith}
use Rattle.std.specs.Prelude.{slice_get, option_map, ◌⊎◌}
use Rattle.std.proofs.lemmas.List.{length-map}
use Rattle.std.proofs.lemmas.Option.{slice_get-map}
use Rattle.std.specs.List.{All, AllByRecursion}
use Rattle.std.specs.Option.{IfSome, IfNone}
use Rattle.std.proofs.lemmas.List.Elements.{All-from_recursion, recursion_from_All}
use Rattle.bng_base.specs.declared.book.Book.{Book}
use Rattle.bng_base.specs.declared.book.Range.{Range}
use Rattle.bng_base.specs.declared.fate.Fate.{Fate}
use Rattle.bng_base.specs.declared.item.Claim.{Claim}
use Rattle.bng_base.specs.declared.item.Claim.TheVariants.{NoClaim, Claimed, Held, Exhausted}
use Rattle.bng_base.specs.declared.item.Entry.{Entry}
use Rattle.bng_base.specs.declared.settings.NamedRange.{NamedRange}
use Rattle.bng_base.specs.declared.settings.Static.{Static}
use Rattle.bng_engine.specs.Books.{book_at}
use Rattle.bng_engine.specs.Terms.{Term}
use Rattle.bng_engine.specs.Views.{ShardView}
use Rattle.bng_pool.specs.Plain.{PlainView}
use Rattle.bng_pool.specs.Ranges.{AreApart, ArePoolRanges}
use Rattle.bng_pool.specs.Tables.{Table, entry}
use Rattle.bng_steps.specs.declared.rules.Rules.{Rules}
use Rattle.bng_steps.specs.declared.term.EndedTerm.{EndedTerm}
use Rattle.bng_steps.specs.Opening.{in_order, tenures_after}
use Rattle.bng_steps.specs.Protocol.{ShardState, opened, stop_of, term_in, terms_of}
use Rattle.bng_shard.specs.Handling.{AnswersClaim, AreHeld, Handles, HasPools, Leaves}
use Rattle.bng_steps.specs.State.{reaped}
use Rattle.bng_steps.specs.Sums.{AreLow, IsLow}
use Rattle.bng_steps.proofs.InOrder.{all_in_order}
use Rattle.bng_steps.proofs.Values.{none_some, same_some}

abbrev pub Stands : ShardView ShardState Entry → PlainView → Type 0
Stands v pool = HasPools v.state.rules.pools pool.ranges × (v.number < pool.shards) × AreHeld v.number (terms_of v.state) pool.table × (length v.state.rules.profiles ≡ 2)

-- Opening ----------------------------------------------------------------------------------------------------------------

-- one range of so many addresses
module _ (r : Range) (ordered : r.first.0 ≤ r.last.0) (few : r.last.0 < r.first.0 + 262144) where
  ordered_at : (k : ℕ) (q : Range) → slice_get (r ∷ []) k ≡ Some q → q.first.0 ≤ q.last.0
  ordered_at zero q is = subst (λ (x : Range). x.first.0 ≤ x.last.0) (same_some r q is) ordered
  ordered_at (suc k) q is = absurd (none_some q is)

  apart_at : AreApart (r ∷ [])
  apart_at zero zero p q ne a b = absurd (ne refl)
  apart_at zero (suc j) p q ne a b = absurd (none_some q b)
  apart_at (suc i) j p q ne a b = absurd (none_some p a)

  pub one_range : ArePoolRanges (r ∷ [])
  one_range = record { few = omega arith; ordered = ordered_at; apart = apart_at; addresses = omega (arith, few, ordered) }

-- no pool, or one, is few
pub few_of_one : (pools : List NamedRange) (range : Range) → (pools ≡ []) ⊎ (map (λ (p : NamedRange). p.range) pools ≡ range ∷ []) → length pools ≤ 16
few_of_one pools range (inl none) = omega (arith, ap (λ (ps : List NamedRange). length ps) none)
few_of_one pools range (inr one) = omega (arith, length-map pools (λ (p : NamedRange). p.range), ap (λ (rs : List Range). length rs) one)

-- and it is at its place
pub no_pools : (pools : List NamedRange) (ranges : List Range) → pools ≡ [] → HasPools pools ranges
no_pools pools ranges none k p is = absurd (none_some p (ap (λ (ps : List NamedRange). slice_get ps k) (sym none) ∙ is))

pub pools_of_one : (pools : List NamedRange) (range : Range) → (pools ≡ []) ⊎ (map (λ (p : NamedRange). p.range) pools ≡ range ∷ []) → HasPools pools (range ∷ [])
pools_of_one pools range (inl none) = no_pools pools (range ∷ []) none
pools_of_one pools range (inr one) = λ k p is.
    ap (λ (rs : List Range). slice_get rs k) (sym one) ∙ slice_get-map (λ (q : NamedRange). q.range) pools k ∙ ap (option_map (λ (q : NamedRange). q.range)) is

-- two books of a list are low, and so all are
two_of : (P : ℕ → Type 0) → P 0 → P 1 → (i : ℕ) → i < 2 → P i
two_of P first second zero lt = first
two_of P first second (suc zero) lt = second
two_of P first second (suc (suc i)) lt = absurd (omega (arith, lt))

pub all_low : (most : ℕ) (books : List Book) → length books ≡ 2 → IsLow most (book_at 0 books) → IsLow most (book_at 1 books) → AreLow most books
all_low most books two first second i lt = two_of (λ (j : ℕ). IsLow most (book_at j books)) first second i (omega (arith, lt, two))

-- the terms of circuits whose addresses the shard holds
module _ (shard now : ℕ) (table : Table) where
  abbrev HasIt : Static → Type 0
  HasIt c = entry table c.address.0 ≡ Some shard

  held_after : (n : ℕ) (cs : List Static) → AllByRecursion HasIt cs → AllByRecursion (λ (t : Term). entry table t.key.address.0 ≡ Some shard) (map term_in (tenures_after now n cs))
  held_after n [] all = tt
  held_after n (c ∷ cs) all = (all.0, held_after (n + 1) cs all.1)

  pub held_opened : (r : Rules) (cs : List Static) → All HasIt cs → AreHeld shard (terms_of (opened shard r cs now).state) table
  held_opened r cs all = All-from_recursion _ _ (held_after 0 (in_order shard cs) (all_in_order HasIt shard cs (recursion_from_All HasIt cs all)))

-- Calls ------------------------------------------------------------------------------------------------------------------

pub remains : (v v' : ShardView ShardState Entry) (pool : PlainView) → v'.number ≡ v.number → v'.state ≡ v.state → Stands v pool → Stands v' pool
remains v v' pool number state h =
    subst (λ (s : ShardState). HasPools s.rules.pools pool.ranges × (v'.number < pool.shards) × AreHeld v'.number (terms_of s) pool.table × (length s.rules.profiles ≡ 2)) (sym state)
    (subst (λ (n : ℕ). HasPools v.state.rules.pools pool.ranges × (n < pool.shards) × AreHeld n (terms_of v.state) pool.table × (length v.state.rules.profiles ≡ 2)) (sym number) h)

-- with other terms, of which each holds its address
pub goes_on : (v v' : ShardView ShardState Entry) (pool pool' : PlainView) → v'.number ≡ v.number → v'.state.rules ≡ v.state.rules → pool'.ranges ≡ pool.ranges → pool'.shards ≡ pool.shards
    → AreHeld v'.number (terms_of v'.state) pool'.table → Stands v pool → Stands v' pool'
goes_on v v' pool pool' number rules ranges shards held h = (
  subst (λ (r : Rules). HasPools r.pools pool'.ranges) (sym rules) (subst (λ (rs : List Range). HasPools v.state.rules.pools rs) (sym ranges) h.0),
  omega (arith, number, shards, h.1),
  held,
  ap (λ (r : Rules). length r.profiles) rules ∙ h.3,
)

kept_ranges : (shard : ℕ) (claim : Claim) (pool pool' : PlainView) → AnswersClaim shard claim pool pool' → (pool'.ranges ≡ pool.ranges) × (pool'.shards ≡ pool.shards)
kept_ranges shard NoClaim pool pool' h = (ap (λ (p : PlainView). p.ranges) h, ap (λ (p : PlainView). p.shards) h)
kept_ranges shard (Claimed a) pool pool' h = h.1
kept_ranges shard (Held a) pool pool' h = (ap (λ (p : PlainView). p.ranges) h.1, ap (λ (p : PlainView). p.shards) h.1)
kept_ranges shard (Exhausted k) pool pool' h = (ap (λ (p : PlainView). p.ranges) h.1, ap (λ (p : PlainView). p.shards) h.1)

-- an entry was handled, the first of its round
pub handled : (v v' : ShardView ShardState Entry) (pool pool' : PlainView) (e : Entry) (fate : Fate) (tally tally' : Book) → v.journal ≡ [] → Handles v v' pool pool' e fate tally tally' → Stands v pool → Stands v' pool'
handled v v' pool pool' e fate tally tally' none h =
    let did = h.shown.handles [] (sym none) in
    let kept = kept_ranges v.number h.claim pool pool' h.answers in
    goes_on v v' pool pool' did.number (ap (λ (s : ShardState). s.rules) did.state) kept.0 kept.1 h.held

-- a term left, or none
abbrev Same : ShardView ShardState Entry → ShardView ShardState Entry → Type 0
Same v v' = (v'.number ≡ v.number) × (v'.state.rules ≡ v.state.rules)

pub reaped_same : (v v' : ShardView ShardState Entry) (pool pool' : PlainView) (ended : Option EndedTerm) (X : EndedTerm → Type 0) (Y : Type 0) → IfSome ended (λ e. Leaves v v' (stop_of e) × X e)
    → IfNone ended (Y × (pool' ≡ pool) × (v' ≡ record v { state = record v.state { slots = reaped v.state.slots }; room = 0 })) → Same v v'
reaped_same v v' pool pool' (Some e) X Y one none = (one.0.number, one.0.rules)
reaped_same v v' pool pool' None X Y one none = (ap (λ (w : ShardView ShardState Entry). w.number) none.2, ap (λ (w : ShardView ShardState Entry). w.state.rules) none.2)

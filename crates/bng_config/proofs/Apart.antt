-- The ranges of the pools of a document that breaks no rule.
use Rattle.std.proofs.Common.{◌≡◌, ℕ, zero, suc, ◌+◌, ◌-◌, ◌<◌, ◌≤◌, List, [], ◌∷◌, ◌++◌, length, map, get_or, slice_get, Some, refl, sym, ap, subst, ◌∙◌, arith, inl, inr, ◌⊎◌}
use Rattle.std.proofs.lemmas.List.{length-map, get_or-map}
use Rattle.std.proofs.lemmas.Option.{same_Some, slice_get_within, get_or_from_slice_get}
use mathlib.Core.Logic.{dite}
use native.Mathlib.Decide.{dec_le}
use Rattle.toml.specs.Data.{Data}
use Rattle.bng_base.specs.declared.address.Ip4.{Ip4}
use Rattle.bng_base.specs.declared.book.Range.{Range}
use Rattle.bng_base.specs.declared.settings.NamedRange.{NamedRange}
use Rattle.bng_schema.specs.declared.keys.Table.TheVariants.{Pool as Pools}
use Rattle.bng_schema.specs.declared.keys.Field.TheVariants.{GatewayAddress, PoolLast}
use Rattle.bng_schema.specs.declared.keys.Key.TheVariants.{Of}
use Rattle.bng_schema.specs.declared.rule.Rule.TheVariants.{C11}
use Rattle.bng_schema.specs.Keys.{entries}
use Rattle.bng_schema.specs.Forms.{StandsAt, EachPlace, IsAddress}
use Rattle.bng_base.specs.Ranges.{InRange, size_of}
use Rattle.bng_schema.specs.Ranges.{HasAddress, address_count, IsRangeAt, IsUnfit}
use Rattle.bng_schema.specs.Circuits.{IsPooledBelow}
use Rattle.bng_schema.specs.Checks.{IsSound}
use Rattle.bng_schema.proofs.Places.{each_none}
use Rattle.bng_schema.proofs.Sound.{sound_field}
use Rattle.bng_schema.proofs.Totals.{count_push, range_once}
use Rattle.bng_config.specs.Pools.{AreApart, ArePools, ranges_of}
use Rattle.bng_config.specs.Configuration.{AreEntries, IsPool}
use Rattle.bng_config.proofs.Held.{pools_between}

-- the last of a list, and what holds of the places of the others
record Cut {X : Type 0} (P : ℕ → X → Type 0) (xs : List X) (n : ℕ) : Type 0 where
  front : List X
  last : X
  is : xs ≡ front ++ last ∷ []
  long : length front ≡ n
  each : EachPlace P front
  here : P n last

each_cons : {X : Type 0} (P : ℕ → X → Type 0) (x : X) (xs : List X) → P 0 x → EachPlace (λ i. P (suc i)) xs → EachPlace P (x ∷ xs)
each_cons P x xs first rest zero d less = first
each_cons P x xs first rest (suc i) d less = rest i d (omega arith)

cut : {X : Type 0} (P : ℕ → X → Type 0) (xs : List X) (n : ℕ) → length xs ≡ suc n → EachPlace P xs → Cut P xs n
cut P [] n long each = absurd (omega arith)
cut P (x ∷ []) zero long each = record { front = []; last = x; is = refl; long = refl; each = each_none P [] refl; here = each 0 x (omega arith) }
cut P (x ∷ []) (suc n) long each = absurd (omega arith)
cut P (x ∷ y ∷ ys) zero long each = absurd (omega arith)
cut P (x ∷ y ∷ ys) (suc n) long each =
    let rest = cut (λ i. P (suc i)) (y ∷ ys) n (omega arith) (λ i d less. each (suc i) d (omega arith)) in
    let back = rest.is in
    record {
      front = x ∷ rest.front;
      last = rest.last;
      is = ap (λ zs. x ∷ zs) back;
      long = ap suc rest.long;
      each = each_cons P x rest.front (each 0 x (omega arith)) rest.each;
      here = rest.here;
    }

-- as places of what the elements have
each_map : {X Y : Type 0} (f : X → Y) (P : ℕ → Y → Type 0) (xs : List X) → EachPlace (λ i x. P i (f x)) xs → EachPlace P (map f xs)
each_map f P [] each i d less = absurd (omega arith)
each_map f P (x ∷ xs) each i d less =
    let high : i < length (x ∷ xs) = subst (λ n. i < n) (length-map (x ∷ xs) f) less in
    rw (get_or-map f (x ∷ xs) i x d high) (each i x high)

-- an element at a place, of a list as it is read
at_place : {X : Type 0} (P : ℕ → X → Type 0) (xs : List X) (k : ℕ) (x : X) → EachPlace P xs → slice_get xs k ≡ Some x → P k x
at_place P xs k x each at = subst (P k) (get_or_from_slice_get xs k x x at) (each k x (slice_get_within xs k x at))

-- and as it is counted
placed : {X : Type 0} (xs : List X) (i : ℕ) (x : X) → i < length xs → slice_get xs i ≡ Some (get_or xs i x)
placed [] i x less = absurd (omega arith)
placed (y ∷ ys) zero x less = refl
placed (y ∷ ys) (suc i) x less = placed ys i x (omega arith)

-- a list has the address or has it not
has_later : (r : Range) (rs : List Range) (a : ℕ) → (InRange r a → ⊥) → HasAddress rs a ⊎ (HasAddress rs a → ⊥) → HasAddress (r ∷ rs) a ⊎ (HasAddress (r ∷ rs) a → ⊥)
has_later r rs a none (inl (k, q, at, has)) = inl (suc k, q, at, has)
has_later r rs a none (inr never) = inr (λ h. without h.0 h.1 h.2 h.3) where
  without : (k : ℕ) (q : Range) → slice_get (r ∷ rs) k ≡ Some q → InRange q a → ⊥
  without zero q at has = none (subst (λ x. InRange x a) (sym (same_Some r q at)) has)
  without (suc k) q at has = never (k, q, at, has)

has_or_not : (rs : List Range) (a : ℕ) → HasAddress rs a ⊎ (HasAddress rs a → ⊥)
has_or_not [] a = inr (λ h. let at = h.2 in cc)
has_or_not (r ∷ rs) a =
    dite (dec_le r.first.0 a)
    (λ low. dite (dec_le a r.last.0) (λ high. inl (0, r, refl, (low, high))) (λ never. has_later r rs a (λ h. never h.1) (has_or_not rs a)))
    (λ never. has_later r rs a (λ h. never h.0) (has_or_not rs a))

module _ (document : Data) (sound : IsSound document) (pools : List NamedRange) (of : AreEntries document Pools (IsPool document) pools) where
  each_range : EachPlace (IsRangeAt document) (ranges_of pools)
  each_range = each_map (λ p. p.range) (IsRangeAt document) pools (λ i d less. ((of.are i d less).first, (of.are i d less).last))

  range_count : length (ranges_of pools) ≡ entries document Pools
  range_count = length-map pools (λ p. p.range) ∙ of.all

  is_range : (k : ℕ) (r : Range) → slice_get (ranges_of pools) k ≡ Some r → IsRangeAt document k r
  is_range k r at = at_place (IsRangeAt document) (ranges_of pools) k r each_range at

  within : (k : ℕ) (r : Range) → slice_get (ranges_of pools) k ≡ Some r → k < entries document Pools
  within k r at = subst (λ n. k < n) range_count (slice_get_within (ranges_of pools) k r at)

  fit : (k : ℕ) (r : Range) → k < entries document Pools → IsRangeAt document k r → ¬ IsUnfit document k r
  fit k r less is unfit = sound_field document sound C11 PoolLast k less (r, is, unfit)

  ordered : (k : ℕ) (r : Range) → slice_get (ranges_of pools) k ≡ Some r → r.first.0 ≤ r.last.0
  ordered k r at =
      let never : r.last.0 < r.first.0 → ⊥ = λ less. fit k r (within k r at) (is_range k r at) (inl less) in
      omega (arith, never)

  apart_at : (i j : ℕ) (r q : Range) → i < j → slice_get (ranges_of pools) i ≡ Some r → slice_get (ranges_of pools) j ≡ Some q → (a : ℕ) → InRange r a → InRange q a → ⊥
  apart_at i j r q less at_r at_q a in_r in_q =
      fit j q (within j q at_q) (is_range j q at_q) (inr (inr (inl (i, less, r, is_range i r at_r, (a, in_r, in_q)))))

  apart : AreApart (ranges_of pools)
  apart i j r q other at_r at_q a in_r in_q =
      dite (dec_le i j)
      (λ low. let less : i < j = grind (arith, other) in apart_at i j r q less at_r at_q a in_r in_q)
      (λ never. let less : j < i = omega arith in apart_at j i q r less at_q at_r a in_q in_r)

  -- the last pool has room behind the others
  room : (n : ℕ) → length (ranges_of pools) ≡ suc n → address_count (ranges_of pools) ≤ 262144
  room n long =
      let c = cut (IsRangeAt document) (ranges_of pools) n long each_range in
      let less : n < entries document Pools = let same = range_count in omega arith in
      let never : 262144 < address_count c.front + size_of c.last → ⊥ = λ high. fit n c.last less c.here (inr (inr (inr (c.front, record { all = c.long; are = c.each }, high)))) in
      let sum = count_push c.front c.last in
      let same : address_count (ranges_of pools) ≡ address_count (c.front ++ c.last ∷ []) = ap address_count c.is in
      omega (arith, never)

  addresses : address_count (ranges_of pools) ≤ 262144
  addresses =
      let some = (pools_between document sound).0 in
      let same = range_count in
      room (length (ranges_of pools) - 1) (omega arith)

  pub are_pools : ArePools (ranges_of pools)
  are_pools = record {
    few = let most = (pools_between document sound).1 in let same = range_count in omega arith;
    ordered = ordered;
    apart = apart;
    addresses = addresses;
  }

  pub own_free : (own : Ip4) → StandsAt document (Of GatewayAddress 0) (λ d. IsAddress d own) → ¬ HasAddress (ranges_of pools) own.0
  own_free own stands h = fit h.0 h.1 (within h.0 h.1 h.2) (is_range h.0 h.1 h.2) (inr (inl (own, stands, h.3)))

  -- an address that some pool has
  found_in : (a : Ip4) (i : ℕ) → i < entries document Pools → (r : Range) → IsRangeAt document i r → InRange r a.0 → HasAddress (ranges_of pools) a.0
  found_in a i less r is has =
      let long : i < length (ranges_of pools) = subst (λ n. i < n) (sym range_count) less in
      let at = placed (ranges_of pools) i r long in
      let here : IsRangeAt document i (get_or (ranges_of pools) i r) = each_range i r long in
      (i, get_or (ranges_of pools) i r, at, subst (λ x. InRange x a.0) (range_once document i r (get_or (ranges_of pools) i r) is here) has)

  pub pooled : (a : Ip4) → ((IsPooledBelow document (entries document Pools) a → ⊥) → ⊥) → HasAddress (ranges_of pools) a.0
  pooled a twice = decided (has_or_not (ranges_of pools) a.0) where
    decided : HasAddress (ranges_of pools) a.0 ⊎ (HasAddress (ranges_of pools) a.0 → ⊥) → HasAddress (ranges_of pools) a.0
    decided (inl has) = has
    decided (inr never) = absurd (twice (λ h. never (found_in a h.0 h.1 h.2 h.3 h.4)))

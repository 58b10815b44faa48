-- What a table of keys leads to after a value was put at a place or taken from it.
use Rattle.std.proofs.Common.{◌≡◌, ℕ, zero, suc, ◌+◌, ◌<◌, ◌≤◌, ◌≢◌, Bool, true, List, [], ◌∷◌, length, get_or, set, map, replicate, Option, Some, None, is_some, OnSome, count_by, cond, inl, inr, refl, sym, ap, subst, ◌∙◌, arith}
use Rattle.std.proofs.lemmas.Bool.{cases_eq, false≢true}
use Rattle.std.proofs.lemmas.List.{get_or-set_same, get_or-set_other, length-set, length-map, ext_get_or, set-get_or}
use Rattle.std.proofs.lemmas.List.Sums.{sum_by-set, sum_by-cons, count_by-le-length}
use Rattle.slab.specs.Slab.{Slab, get, slab_len, Updates}
use Rattle.bng_slots.specs.Shelves.{led_to, placed, IsShelf}

pub counts_more : {A : Type 0} (keys : List (Option A)) (i : ℕ) (k : A) → i < length keys → get_or keys i None ≡ None → count_by is_some (set keys i (Some k)) ≡ count_by is_some keys + 1
counts_more {A} keys i k l none =
    let sums = sum_by-set (λ o. cond (is_some o) 1 0) keys i (Some k) None l in
    let one_of : Option A → ℕ = λ o. cond (is_some o) 1 0 in
    let nothing : ◌≡◌ {A = ℕ} (cond (is_some (get_or keys i None)) 1 0) 0 = ap one_of none in
    omega (arith, sums, nothing)

pub counts_less : (keys : List (Option ℕ)) (i k : ℕ) → i < length keys → get_or keys i None ≡ Some k → count_by is_some (set keys i None) + 1 ≡ count_by is_some keys
counts_less keys i k l some =
    let sums = sum_by-set (λ o. cond (is_some o) 1 0) keys i None None l in
    let one_of : Option ℕ → ℕ = λ o. cond (is_some o) 1 0 in
    let one : ◌≡◌ {A = ℕ} (cond (is_some (get_or keys i None)) 1 0) 1 = ap one_of some in
    omega (arith, sums, one)

-- what holds where there is a value, holds of this one
pub where_some : {A : Type 0} (o : Option A) (P : Type 0) → is_some o ≡ true → OnSome o P → P
where_some None P is h = absurd (false≢true is)
where_some (Some a) P is h = h

module _ {V : Type 0} where
  pub seen_at : (slab : Slab V) (keys : List (Option ℕ)) (i : ℕ) → get_or (placed slab keys) i None ≡ led_to slab (get_or keys i None)
  seen_at slab [] i = refl
  seen_at slab (k ∷ keys) zero = refl
  seen_at slab (k ∷ keys) (suc i) = seen_at slab keys i

  -- a place that leads to no value has no key
  pub keyless : (slab : Slab V) (keys : List (Option ℕ)) → IsShelf slab keys → (i : ℕ) → get_or (placed slab keys) i None ≡ None → get_or keys i None ≡ None
  keyless slab keys is i empty =
      elim (get_or keys i None) as (λ o. get_or keys i None ≡ o → led_to slab o ≡ None → o ≡ None) [
        | None ↦ λ e n. refl
        | Some k ↦ λ e n. absurd (false≢true (sym (ap is_some n) ∙ is.leads i k e))
      ] refl (sym (seen_at slab keys i) ∙ empty)

  -- where a place has no key, there is room for one value more
  pub room_left : (slab : Slab V) (keys : List (Option ℕ)) → IsShelf slab keys → (i : ℕ) → i < length keys → get_or (placed slab keys) i None ≡ None → slab_len slab + 1 ≤ slab.capacity
  room_left slab keys is i l empty =
      let more = counts_more keys i 0 l (keyless slab keys is i empty) in
      let most = count_by-le-length is_some (set keys i (Some 0)) in
      omega (arith, more, most, length-set keys i (Some 0), is.counted, is.room)

  module _ (slab slab' : Slab V) (keys : List (Option ℕ)) (is : IsShelf slab keys) (i : ℕ) (l : i < length keys) (key : ℕ) where
    -- what another place leads to stays
    kept : (slot : Option V) → Updates slab slab' key slot → (j : ℕ) → ((k : ℕ) → get_or keys j None ≡ Some k → k ≢ key) → led_to slab' (get_or keys j None) ≡ led_to slab (get_or keys j None)
    kept slot updates j apart =
        elim (get_or keys j None) as (λ o. get_or keys j None ≡ o → led_to slab' o ≡ led_to slab o) [
          | None ↦ λ e. refl
          | Some k ↦ λ e. updates.others k (apart k e)
        ] refl

    written : (x : Option ℕ) (y : Option V) → led_to slab' x ≡ y → ((j : ℕ) → j ≢ i → led_to slab' (get_or keys j None) ≡ led_to slab (get_or keys j None)) → placed slab' (set keys i x) ≡ set (placed slab keys) i y
    written x y here there =
        let long : length (placed slab' (set keys i x)) ≡ length (set (placed slab keys) i y) = length-map (set keys i x) (led_to slab') ∙ length-set keys i x ∙ sym (length-map keys (led_to slab)) ∙ sym (length-set (placed slab keys) i y) in
        let within : i < length (placed slab keys) = omega (arith, length-map keys (led_to slab), l) in
        ext_get_or None _ _ long (λ j below. seen_at slab' (set keys i x) j ∙ elim (cases_eq j i) [
          | inl same ↦ rw same (ap (led_to slab') (get_or-set_same keys i x None l) ∙ here ∙ sym (get_or-set_same (placed slab keys) i y None within))
          | inr differ ↦ ap (led_to slab') (get_or-set_other keys i j x None differ) ∙ there j differ ∙ sym (seen_at slab keys j) ∙ sym (get_or-set_other (placed slab keys) i j y None differ)
        ])

    module _ (v : V) (vacant : get slab key ≡ None) (updates : Updates slab slab' key (Some v)) (empty : get_or (placed slab keys) i None ≡ None) where
      new_key : (j k : ℕ) → get_or keys j None ≡ Some k → k ≢ key
      new_key j k e same = false≢true (sym (ap is_some vacant) ∙ subst (λ m. is_some (get slab m) ≡ true) same (is.leads j k e))

      pub put_placed : placed slab' (set keys i (Some key)) ≡ set (placed slab keys) i (Some v)
      put_placed = written (Some key) (Some v) updates.changed (λ j differ. kept (Some v) updates j (new_key j))

      this_key : (j k : ℕ) → j ≡ i → get_or (set keys i (Some key)) j None ≡ Some k → key ≡ k
      this_key j k same e =
          let this : Some key ≡ Some k = sym (get_or-set_same keys i (Some key) None l) ∙ subst (λ m. get_or (set keys i (Some key)) m None ≡ Some k) same e in
          cc

      older : (j k : ℕ) → j ≢ i → get_or (set keys i (Some key)) j None ≡ Some k → get_or keys j None ≡ Some k
      older j k differ e = sym (get_or-set_other keys i j (Some key) None differ) ∙ e

      pub put_shelf : slab_len slab' ≡ slab_len slab + 1 → slab'.capacity ≡ slab.capacity → IsShelf slab' (set keys i (Some key))
      put_shelf len capacity = record {
        leads = λ j k e. elim (cases_eq j i) [
          | inl same ↦ subst (λ m. is_some (get slab' m) ≡ true) (this_key j k same e) (ap is_some updates.changed)
          | inr differ ↦ ap is_some (updates.others k (new_key j k (older j k differ e))) ∙ is.leads j k (older j k differ e)
        ];
        apart = λ j m k e f. elim (cases_eq j i) [ inl same ↦ elim (cases_eq m i) [ inl too ↦ same ∙ sym too | inr differ ↦ absurd (new_key m k (older m k differ f) (sym (this_key j k same e))) ] | inr differ ↦ elim (cases_eq m i) [ inl too ↦ absurd (new_key j k (older j k differ e) (sym (this_key m k too f))) | inr apart ↦ is.apart j m k (older j k differ e) (older m k apart f) ] ];
        counted = omega (arith, len, is.counted, counts_more keys i key l (keyless slab keys is i empty));
        room = omega (arith, length-set keys i (Some key), capacity, is.room);
      }

    module _ (leads : get_or keys i None ≡ Some key) (updates : Updates slab slab' key None) where
      other_key : (j k : ℕ) → j ≢ i → get_or keys j None ≡ Some k → k ≢ key
      other_key j k differ e same = differ (is.apart j i key (e ∙ ap Some same) leads)

      elsewhere : (j k : ℕ) → get_or (set keys i None) j None ≡ Some k → j ≢ i
      elsewhere j k e same =
          let this : None ≡ Some k = sym (get_or-set_same keys i None None l) ∙ subst (λ m. get_or (set keys i None) m None ≡ Some k) same e in
          cc

      older_key : (j k : ℕ) → get_or (set keys i None) j None ≡ Some k → get_or keys j None ≡ Some k
      older_key j k e = sym (get_or-set_other keys i j None None (elsewhere j k e)) ∙ e

      pub take_placed : placed slab' (set keys i None) ≡ set (placed slab keys) i None
      take_placed = written None None refl (λ j differ. kept None updates j (λ k. other_key j k differ))

      pub take_shelf : slab_len slab' + 1 ≡ slab_len slab → slab'.capacity ≡ slab.capacity → IsShelf slab' (set keys i None)
      take_shelf len capacity = record {
        leads = λ j k e. ap is_some (updates.others k (other_key j k (elsewhere j k e) (older_key j k e))) ∙ is.leads j k (older_key j k e);
        apart = λ j m k e f. is.apart j m k (older_key j k e) (older_key m k f);
        counted = omega (arith, len, is.counted, counts_less keys i key l leads);
        room = omega (arith, length-set keys i None, capacity, is.room);
      }

  -- no key leads to no value
  pub placed_none : (slab : Slab V) (n : ℕ) → map (led_to slab) (replicate n None) ≡ replicate n None
  placed_none slab zero = refl
  placed_none slab (suc n) = ap (λ xs. None ∷ xs) (placed_none slab n)

  -- to take from a place that has no key changes nothing
  pub nothing_taken : (slab : Slab V) (keys : List (Option ℕ)) (i : ℕ) → get_or keys i None ≡ None → (set keys i None ≡ keys) × (set (placed slab keys) i None ≡ placed slab keys)
  nothing_taken slab keys i none = (
    ap (set keys i) (sym none) ∙ set-get_or keys i None,
    ap (set (placed slab keys) i) (sym (seen_at slab keys i ∙ ap (led_to slab) none)) ∙ set-get_or (placed slab keys) i None,
  )

  pub within_keys : (slab : Slab V) (keys : List (Option ℕ)) (i : ℕ) → i < length (placed slab keys) → i < length keys
  within_keys slab keys i l = omega (arith, l, length-map keys (led_to slab))

  -- as many places have a value as have a key
  pub count_placed : (slab : Slab V) (keys : List (Option ℕ)) → ((i k : ℕ) → get_or keys i None ≡ Some k → is_some (get slab k) ≡ true) → count_by is_some (placed slab keys) ≡ count_by is_some keys
  count_placed slab [] leads = refl
  count_placed slab (None ∷ keys) leads = count_placed slab keys (λ i k e. leads (suc i) k e)
  count_placed slab (Some k ∷ keys) leads =
      let rest = count_placed slab keys (λ i j e. leads (suc i) j e) in
      let left = sum_by-cons (λ (o : Option V). cond (is_some o) 1 0) (get slab k) (placed slab keys) in
      let right = sum_by-cons (λ (o : Option ℕ). cond (is_some o) 1 0) (Some k) keys in
      let one_of : Bool → ℕ = λ b. cond b 1 0 in
      let one : ◌≡◌ {A = ℕ} (cond (is_some (get slab k)) 1 0) 1 = ap one_of (leads 0 k refl) in
      omega (arith, rest, left, right, one)

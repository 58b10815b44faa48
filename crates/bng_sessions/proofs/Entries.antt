-- Entries in the order of their keys: what halving finds in them, and what an edit at that place leaves.
use Rattle.std.proofs.Common.{◌≡◌, ℕ, zero, suc, ◌+◌, ◌<◌, ◌≤◌, Bool, true, false, cond, not, ◌&&◌, T, List, [], ◌∷◌, length, get_or, Some, None, Result, Ok, Err, IfOk, IfErr, is_some, refl, sym, ap, subst, ◌∙◌, arith, add-one, slice_get}
use Rattle.std.specs.List.{insert, remove, HoldsAt, AllWithin}
use Rattle.std.specs.List.Sorted.{IsSearchInRange, IsBinarySearchResult, IsNonDecreasingBy, IsSortedBy}
use Rattle.std.specs.declared.cmp.Ordering.{Ordering}
use Rattle.std.specs.declared.cmp.Ordering.TheVariants.{Less, Equal, Greater}
use Rattle.std.specs.Ordering.{ordering_index, ordering_reverse, eq_by_cmp, is_eq, is_lt, is_gt}
use Rattle.std.specs.Cmp.{IsTotalOrder}
use Rattle.std.proofs.lemmas.Cmp.{eq_by_cmp_equiv, alike_right}
use Rattle.std.proofs.lemmas.List.Sorted.{searchable_from_sorted}
use Rattle.std.specs.FinMap.{find, put, is_sorted}
use Rattle.std.specs.FinMap.Entries.{by_order, where_key, below_all, is_sorted-put, is_sorted-where_key, find-put, find-where_key, length_without, find_tied}

both : (a b : Bool) → T a → T b → T (a && b)
both true b p q = q
both false b p q = p

first : (a b : Bool) → T (a && b) → T a
first true b p = tt
first false b p = p

second : (a b : Bool) → T (a && b) → T b
second true b p = p
second false b p = absurd p

less : (r : Ordering) → T (is_lt r) → r ≡ Less
less Less p = refl
less Equal p = absurd p
less Greater p = absurd p

pub turned : {A : Type 0} (b : Bool) (x y : A) → cond (not b) x y ≡ cond b y x
turned true x y = refl
turned false x y = refl

module _ {K : Type 0} (R : K → K → Ordering) (o : IsTotalOrder R) where
  -- from one answer of the order, the answer the other way round
  pub turn : (x y : K) (r : Ordering) → R x y ≡ r → R y x ≡ ordering_reverse r
  turn x y r e = o.antisymm y x ∙ ap ordering_reverse e

  pub alike : (key k x : K) → R k x ≡ Equal → not (eq_by_cmp R key x) ≡ not (eq_by_cmp R key k)
  alike key k x t = ap (λ r. not (is_eq r)) (sym (alike_right o k x key t))

  pub swap : (key k : K) → eq_by_cmp R key k ≡ eq_by_cmp R k key
  swap key k = (eq_by_cmp_equiv o).symm key k

module _ {K X : Type 0} (R : K → K → Ordering) (o : IsTotalOrder R) where
  below_at : (x d : K) (v : X) (es : List (K × X)) → T (below_all R x es) → (k : ℕ) → k < length es → (e : K × X) → R x (get_or es k e).0 ≡ Less
  below_at x d v [] h k l e = absurd (omega arith)
  below_at x d v (y ∷ es) h zero l e = less _ (first _ _ h)
  below_at x d v (y ∷ es) h (suc k) l e = below_at x d v es (second _ _ h) k (omega arith) e

  rises : (es : List (K × X)) → T (is_sorted R es) → (k : ℕ) (d : K × X) → suc k < length es → R (get_or es k d).0 (get_or es (suc k) d).0 ≡ Less
  rises [] h k d l = absurd (omega arith)
  rises (e ∷ []) h k d l = absurd (omega arith)
  rises (e ∷ f ∷ es) h zero d l = less _ (first _ _ (first _ _ h))
  rises (e ∷ f ∷ es) h (suc k) d l = rises (f ∷ es) (second _ _ h) k d (omega arith)

  in_order : (es : List (K × X)) → T (is_sorted R es) → IsSortedBy (λ a b. is_lt (R a.0 b.0)) es
  in_order es h k d low l = rw (add-one) (ap is_lt (turn R o _ _ Less (rises es h k d (omega arith))))

  pub searchable : (es : List (K × X)) (key : K) → T (is_sorted R es) → IsNonDecreasingBy (λ y. ordering_index (R y.0 key)) es
  searchable es key h = searchable_from_sorted o (λ y. y.0) es key (in_order es h)

  -- what the search answers
  pub record Searched (es : List (K × X)) (key : K) (r : Result ℕ ℕ) : Type 0 where
    pub here : IfOk r (λ i. (i < length es) × HoldsAt (λ e. R e.0 key ≡ Equal) es i)
    pub bound : IfErr r (λ i. i ≤ length es)
    pub before : IfErr r (λ i. AllWithin (λ e. R e.0 key ≡ Less) es 0 i)
    pub after : IfErr r (λ i. AllWithin (λ e. R e.0 key ≡ Greater) es i (length es))

  pub searched : (es : List (K × X)) (key : K) (r : Result ℕ ℕ) → T (is_sorted R es) → IsSearchInRange r (length es) → IsBinarySearchResult (λ y. R y.0 key) es r → Searched es key r
  searched es key (Ok i) h range is = record { here = (range, is); bound = tt; before = tt; after = tt }
  searched es key (Err i) h range is = record { here = tt; bound = range; before = (is (searchable es key h)).0; after = (is (searchable es key h)).1 }

  -- an entry whose key ties is the one that is found
  pub found_here : (es : List (K × X)) (key : K) → T (is_sorted R es) → (i : ℕ) → i < length es → HoldsAt (λ e. R e.0 key ≡ Equal) es i → (d : K × X) → find R key es ≡ Some (get_or es i d).1
  found_here [] key h i l is d = absurd (omega arith)
  found_here (e ∷ es) key h zero l is d = ap (λ r. cond (is_eq r) (Some e.1) (find R key es)) (turn R o _ _ Equal (is d))
  found_here (e ∷ es) key h (suc i) l is d =
      let above : R e.0 (get_or es i d).0 ≡ Less = below_at e.0 key e.1 es (first _ _ h) i (omega arith) d in
      let apart : R key e.0 ≡ Greater = turn R o _ _ Less (sym (alike_right o _ _ e.0 (is d)) ∙ above) in
      ap (λ r. cond (is_eq r) (Some e.1) (find R key es)) apart ∙ found_here es key (second _ _ h) i (omega arith) is d

  -- where the search ends between entries, none has the key
  pub not_here : (es : List (K × X)) (key : K) (i : ℕ) → i ≤ length es → AllWithin (λ e. R e.0 key ≡ Less) es 0 i → AllWithin (λ e. R e.0 key ≡ Greater) es i (length es) → find R key es ≡ None
  not_here [] key i l before after = refl
  not_here (e ∷ es) key zero l before after =
      ap (λ r. cond (is_eq r) (Some e.1) (find R key es)) (turn R o _ _ Greater (after 0 e (omega arith) (omega arith)))
      ∙ not_here es key zero (omega arith) (λ k d p q. absurd (omega arith)) (λ k d p q. after (suc k) d (omega arith) (omega arith))
  not_here (e ∷ es) key (suc i) l before after =
      ap (λ r. cond (is_eq r) (Some e.1) (find R key es)) (turn R o _ _ Less (before 0 e (omega arith) (omega arith)))
      ∙ not_here es key i (omega arith) (λ k d p q. before (suc k) d (omega arith) (omega arith)) (λ k d p q. after (suc k) d (omega arith) (omega arith))

  -- an entry put where the search ended is put in its place
  pub inserted : (es : List (K × X)) (key : K) (v : X) (i : ℕ) → i ≤ length es → AllWithin (λ e. R e.0 key ≡ Less) es 0 i → AllWithin (λ e. R e.0 key ≡ Greater) es i (length es) → insert es i (key, v) ≡ put R key v es
  inserted [] key v zero l before after = refl
  inserted [] key v (suc i) l before after = absurd (omega arith)
  inserted (e ∷ es) key v zero l before after =
      sym (ap (λ r. by_order r ((key, v) ∷ e ∷ es) ((e.0, v) ∷ es) (e ∷ put R key v es)) (turn R o _ _ Greater (after 0 e (omega arith) (omega arith))))
  inserted (e ∷ es) key v (suc i) l before after =
      ap (λ xs. e ∷ xs) (inserted es key v i (omega arith) (λ k d p q. before (suc k) d (omega arith) (omega arith)) (λ k d p q. after (suc k) d (omega arith) (omega arith)))
      ∙ sym (ap (λ r. by_order r ((key, v) ∷ e ∷ es) ((e.0, v) ∷ es) (e ∷ put R key v es)) (turn R o _ _ Less (before 0 e (omega arith) (omega arith))))

  -- no entry above the key is dropped
  pub keeps_above : (x key : K) (es : List (K × X)) → T (below_all R x es) → R x key ≡ Equal → where_key R (λ y. not (eq_by_cmp R key y)) es ≡ es
  keeps_above x key [] h t = refl
  keeps_above x key (e ∷ es) h t =
      let apart : R key e.0 ≡ Less = sym (o.congr x key e.0 t) ∙ less _ (first _ _ h) in
      ap (λ r. cond (not (is_eq r)) (e ∷ where_key R (λ y. not (eq_by_cmp R key y)) es) (where_key R (λ y. not (eq_by_cmp R key y)) es)) apart
      ∙ ap (λ xs. e ∷ xs) (keeps_above x key es (second _ _ h) t)

  pub removed : (es : List (K × X)) (key : K) → T (is_sorted R es) → (i : ℕ) → i < length es → HoldsAt (λ e. R e.0 key ≡ Equal) es i → remove es i ≡ where_key R (λ y. not (eq_by_cmp R key y)) es
  removed [] key h i l is = absurd (omega arith)
  removed (e ∷ es) key h zero l is =
      sym (ap (λ r. cond (not (is_eq r)) (e ∷ where_key R (λ y. not (eq_by_cmp R key y)) es) (where_key R (λ y. not (eq_by_cmp R key y)) es)) (turn R o _ _ Equal (is e))
      ∙ keeps_above e.0 key es (first _ _ h) (is e))
  removed (e ∷ es) key h (suc i) l is =
      let above : R e.0 (get_or es i e).0 ≡ Less = below_at e.0 key e.1 es (first _ _ h) i (omega arith) e in
      let apart : R key e.0 ≡ Greater = turn R o _ _ Less (sym (alike_right o _ _ e.0 (is e)) ∙ above) in
      ap (λ xs. e ∷ xs) (removed es key (second _ _ h) i (omega arith) is)
      ∙ sym (ap (λ r. cond (not (is_eq r)) (e ∷ where_key R (λ y. not (eq_by_cmp R key y)) es) (where_key R (λ y. not (eq_by_cmp R key y)) es)) apart)

  below_found : (x key : K) (n : X) (es : List (K × X)) → T (below_all R x es) → find R key es ≡ Some n → R x key ≡ Less
  below_found x key n [] h is = absurd (cc)
  below_found x key n (e ∷ es) h is =
      elim (R key e.0) as (λ r. R key e.0 ≡ r → cond (is_eq r) (Some e.1) (find R key es) ≡ Some n → R x key ≡ Less) [
        | Less ↦ λ p f. below_found x key n es (second _ _ h) f
        | Equal ↦ λ p f. alike_right o _ _ x p ∙ less _ (first _ _ h)
        | Greater ↦ λ p f. below_found x key n es (second _ _ h) f
      ] refl is

  -- no key that is found is below the first
  pub first_least : (e : K × X) (es : List (K × X)) → T (is_sorted R (e ∷ es)) → (key : K) (n : X) → find R key (e ∷ es) ≡ Some n → is_gt (R e.0 key) ≡ false
  first_least e es h key n is =
      elim (R key e.0) as (λ r. R key e.0 ≡ r → cond (is_eq r) (Some e.1) (find R key es) ≡ Some n → is_gt (R e.0 key) ≡ false) [
        | Less ↦ λ p f. ap is_gt (below_found e.0 key n es (first _ _ h) f)
        | Equal ↦ λ p f. ap is_gt (turn R o _ _ Equal p)
        | Greater ↦ λ p f. ap is_gt (turn R o _ _ Greater p)
      ] refl is

  -- what `insert` leaves
  pub record Inserted (es fs : List (K × X)) (key : K) (v : X) : Type 0 where
    pub sorted : T (is_sorted R fs)
    pub finds : (k : K) → find R k fs ≡ cond (eq_by_cmp R k key) (Some v) (find R k es)

  pub insert_leaves : (es : List (K × X)) (key : K) (v : X) (i : ℕ) → T (is_sorted R es) → i ≤ length es → AllWithin (λ e. R e.0 key ≡ Less) es 0 i → AllWithin (λ e. R e.0 key ≡ Greater) es i (length es) → Inserted es (insert es i (key, v)) key v
  insert_leaves es key v i h l before after =
      let same = inserted es key v i l before after in
      record {
        sorted = subst (λ fs. T (is_sorted R fs)) (sym same) (is_sorted-put R o key v es h);
        finds = λ k. ap (find R k) same ∙ find-put R o k key v es;
      }

  -- what `remove` leaves
  pub record Removed (es fs : List (K × X)) (key : K) : Type 0 where
    pub sorted : T (is_sorted R fs)
    pub finds : (k : K) → find R k fs ≡ cond (eq_by_cmp R k key) None (find R k es)
    pub len : length fs + cond (is_some (find R key es)) 1 0 ≡ length es

  pub remove_leaves : (es : List (K × X)) (key : K) (i : ℕ) → T (is_sorted R es) → i < length es → HoldsAt (λ e. R e.0 key ≡ Equal) es i → Removed es (remove es i) key
  remove_leaves es key i h l is =
      let same = removed es key h i l is in
      let count = length_without R o key es h in
      record {
        sorted = subst (λ fs. T (is_sorted R fs)) (sym same) (is_sorted-where_key R (λ y. not (eq_by_cmp R key y)) es h);
        finds = λ k. ap (find R k) same ∙ find-where_key R (λ y. not (eq_by_cmp R key y)) k (alike R o key k) es ∙ turned (eq_by_cmp R key k) (find R k es) None ∙ ap (λ b. cond b None (find R k es)) (swap R o key k);
        len = rw same (omega (arith, count));
      }

  -- where no entry has the key, nothing is to be removed
  pub nothing_leaves : (es : List (K × X)) (key : K) → T (is_sorted R es) → find R key es ≡ None → Removed es es key
  nothing_leaves es key h none = record {
    sorted = h;
    finds = λ k. elim (R k key) as (λ r. R k key ≡ r → find R k es ≡ cond (is_eq r) None (find R k es)) [
      | Less ↦ λ p. refl
      | Equal ↦ λ p. sym (find_tied R o k key p es) ∙ none
      | Greater ↦ λ p. refl
    ] refl;
    len = rw none (omega arith);
  }

  -- what is found is not None
  pub found_some : (es : List (K × X)) (key : K) → T (is_sorted R es) → (i : ℕ) → i < length es → HoldsAt (λ e. R e.0 key ≡ Equal) es i → find R key es ≡ None → ⊥
  found_some [] key h i l is none = omega arith
  found_some (e ∷ es) key h i l is none =
      let found = found_here (e ∷ es) key h i l is e in
      cc

  pub first_of_all : (es : List (K × X)) (e : K × X) → T (is_sorted R es) → Some e ≡ slice_get es 0 → (key : K) (n : X) → find R key es ≡ Some n → is_gt (R e.0 key) ≡ false
  first_of_all [] e h is key n found = absurd (cc)
  first_of_all (f ∷ es) e h is key n found =
      let same : e ≡ f = cc in
      rw same (first_least f es h key n found)

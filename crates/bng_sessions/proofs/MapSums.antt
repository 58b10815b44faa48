-- Sums over the entries of a finite map: what a new key adds, and what a key that leaves takes away.
use Rattle.std.proofs.Common.{◌≡◌, ℕ, ◌+◌, Bool, true, false, not, ◌&&◌, T, List, [], ◌∷◌, Some, None, cond, refl, sym, ap, ◌∙◌, arith}
use Rattle.std.specs.List.{sum_by}
use Rattle.std.specs.declared.cmp.Ordering.TheVariants.{Less, Equal, Greater}
use Rattle.std.specs.Ordering.{eq_by_cmp, is_eq}
use Rattle.std.specs.declared.cmp.Ordering.{Ordering}
use Rattle.std.specs.Cmp.{IsTotalOrder}
use Rattle.std.proofs.lemmas.List.Sums.{sum_by-cons}
use Rattle.std.specs.FinMap.{FinMap, IsAntisymmetric, get, find, put, insert, remove, entries, entries_sorted, is_sorted, entries-insert, get-entries, get-remove}
use Rattle.std.specs.FinMap.Entries.{by_order, where_key, find-where_key, is_sorted-where_key, same_entries}
use Rattle.bng_sessions.proofs.Entries.{keeps_above, turn, turned, alike, swap}

first : (a b : Bool) → T (a && b) → T a
first true b p = tt
first false b p = p

second : (a b : Bool) → T (a && b) → T b
second true b p = p
second false b p = absurd p

module _ {K X : Type 0} (R : K → K → Ordering) (o : IsTotalOrder R) (same : IsAntisymmetric R) where
  sum-put : (f : K × X → ℕ) (k : K) (v : X) (es : List (K × X)) → find R k es ≡ None → sum_by f (put R k v es) ≡ sum_by f es + f (k, v)
  sum-put f k v [] none = sum_by-cons f (k, v) [] ∙ omega arith
  sum-put f k v (e ∷ es) none =
      elim (R k e.0) as (λ r. R k e.0 ≡ r → cond (is_eq r) (Some e.1) (find R k es) ≡ None → sum_by f (by_order r ((k, v) ∷ e ∷ es) ((e.0, v) ∷ es) (e ∷ put R k v es)) ≡ sum_by f (e ∷ es) + f (k, v)) [
        | Less ↦ λ p n. sum_by-cons f (k, v) (e ∷ es) ∙ omega arith
        | Equal ↦ λ p n. absurd (cc)
        | Greater ↦ λ p n.
            let rest = sum-put f k v es n in
            let left = sum_by-cons f e (put R k v es) in
            let right = sum_by-cons f e es in
            omega (arith, rest, left, right)
      ] refl none

  sum-where_key : (f : K × X → ℕ) (k : K) (v : X) (es : List (K × X)) → T (is_sorted R es) → find R k es ≡ Some v → sum_by f (where_key R (λ y. not (eq_by_cmp R k y)) es) + f (k, v) ≡ sum_by f es
  sum-where_key f k v [] h some = absurd (cc)
  sum-where_key f k v (e ∷ es) h some =
      let left = where_key R (λ y. not (eq_by_cmp R k y)) es in
      elim (R k e.0) as (λ r. R k e.0 ≡ r → cond (is_eq r) (Some e.1) (find R k es) ≡ Some v → sum_by f (cond (not (is_eq r)) (e ∷ left) left) + f (k, v) ≡ sum_by f (e ∷ es)) [
        | Less ↦ λ p s.
            let rest = sum-where_key f k v es (second _ _ h) s in
            let kept = sum_by-cons f e left in
            let all = sum_by-cons f e es in
            omega (arith, rest, kept, all)
        | Equal ↦ λ p s.
            let key = same k e.0 p in
            let value : e.1 ≡ v = cc in
            let this : f (k, v) ≡ f e = λ i. f (key i, sym value i) in
            let kept = ap (sum_by f) (keeps_above R o e.0 k es (first _ _ h) (turn R o k e.0 Equal p)) in
            let all = sum_by-cons f e es in
            omega (arith, kept, all, this)
        | Greater ↦ λ p s.
            let rest = sum-where_key f k v es (second _ _ h) s in
            let kept = sum_by-cons f e left in
            let all = sum_by-cons f e es in
            omega (arith, rest, kept, all)
      ] refl some

  pub entries-remove : (m : FinMap R X) (k : K) → entries (remove m k) ≡ where_key R (λ y. not (eq_by_cmp R k y)) (entries m)
  entries-remove m k = same_entries R o same (entries (remove m k)) (where_key R (λ y. not (eq_by_cmp R k y)) (entries m)) (entries_sorted (remove m k)) (is_sorted-where_key R (λ y. not (eq_by_cmp R k y)) (entries m) (entries_sorted m))
      (λ q. sym (get-entries (remove m k) q) ∙ get-remove o m k q ∙ ap (λ b. cond b None (get m q)) (sym (swap R o k q)) ∙ sym (turned (eq_by_cmp R k q) (get m q) None) ∙ ap (λ r. cond (not (eq_by_cmp R k q)) r None) (get-entries m q) ∙ sym (find-where_key R (λ y. not (eq_by_cmp R k y)) q (alike R o k q) (entries m)))

  pub sum-insert : (f : K × X → ℕ) (m : FinMap R X) (k : K) (v : X) → get m k ≡ None → sum_by f (entries (insert m k v)) ≡ sum_by f (entries m) + f (k, v)
  sum-insert f m k v none = ap (sum_by f) (entries-insert o m k v) ∙ sum-put f k v (entries m) (sym (get-entries m k) ∙ none)

  pub sum-remove : (f : K × X → ℕ) (m : FinMap R X) (k : K) (v : X) → get m k ≡ Some v → sum_by f (entries (remove m k)) + f (k, v) ≡ sum_by f (entries m)
  sum-remove f m k v some = ap (λ es. sum_by f es + f (k, v)) (entries-remove m k) ∙ sum-where_key f k v (entries m) (entries_sorted m) (sym (get-entries m k) ∙ some)

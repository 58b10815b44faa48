-- What a caller may use of a shard's sessions: what a number has after a change, and how the list of sessions changes.
use Rattle.std.proofs.Common.{◌≡◌, ◌≢◌, ℕ, Bool, true, false, ◌+◌, List, [], ◌∷◌, map, length, Option, Some, None, is_some, cond, refl, sym, ap, ◌∙◌, arith, add_comm}
use Rattle.std.specs.List.{sum_by}
use Rattle.std.specs.Ordering.{nat_cmp, eq_by_cmp}
use Rattle.std.specs.Cmp.{nat_cmp_total}
use Rattle.std.proofs.lemmas.List.Sums.{sum_by-cons}
use Rattle.std.specs.FinMap.{nat_cmp-IsAntisymmetric, same_map, get, entries, len, get-insert, get-remove, len-insert, len-entries}
use Rattle.bng_sessions.specs.Sessions.{Sessions, value_at, used, with_value, without}
use Rattle.bng_base.specs.Listed.{Same}
use Rattle.bng_sessions.specs.Listed.{values}
use Rattle.bng_sessions.proofs.Numbers.{same_number, other_number}
use Rattle.bng_sessions.proofs.MapSums.{sum-insert, sum-remove}

sum-values : {V : Type 0} (f : V → ℕ) (es : List (ℕ × V)) → sum_by f (map (λ e. e.1) es) ≡ sum_by (λ e. f e.1) es
sum-values f [] = refl
sum-values f (e ∷ es) =
    let rest = sum-values f es in
    let left = sum_by-cons f e.1 (map (λ p. p.1) es) in
    let right = sum_by-cons (λ p. f p.1) e es in
    omega (arith, rest, left, right)

-- as many ones as there are elements
ones : {X : Type 0} (xs : List X) → sum_by (λ _. 1) xs ≡ length xs
ones [] = refl
ones {X} (x ∷ xs) =
    let rest = ones xs in
    let one : X → ℕ = λ _. 1 in
    let left = sum_by-cons one x xs in
    omega (arith, rest, left)

-- what stands under a test that failed before
same_branch : {A : Type 0} (b : Bool) (x y z : A) → cond b x (cond b y z) ≡ cond b x z
same_branch true x y z = refl
same_branch false x y z = refl

module _ {V : Type 0} (s : Sessions V) (n : ℕ) where
  pub value_at-with_value : (v : V) → value_at (with_value s n v) n ≡ Some v
  value_at-with_value v = get-insert nat_cmp_total s.by_number n v n ∙ ap (λ b. cond b (Some v) (get s.by_number n)) (same_number n n refl)

  pub value_at-with_other : (v : V) (m : ℕ) → m ≢ n → value_at (with_value s n v) m ≡ value_at s m
  value_at-with_other v m differ = get-insert nat_cmp_total s.by_number n v m ∙ ap (λ b. cond b (Some v) (get s.by_number m)) (other_number m n differ)

  pub value_at-without : value_at (without s n) n ≡ None
  value_at-without = get-remove nat_cmp_total s.by_number n n ∙ ap (λ b. cond b None (get s.by_number n)) (same_number n n refl)

  pub value_at-without_other : (m : ℕ) → m ≢ n → value_at (without s n) m ≡ value_at s m
  value_at-without_other m differ = get-remove nat_cmp_total s.by_number n m ∙ ap (λ b. cond b None (get s.by_number m)) (other_number m n differ)

  pub with_value-without : (v : V) → with_value (without s n) n v ≡ with_value s n v
  with_value-without v =
      let each : (q : ℕ) → get (with_value (without s n) n v).by_number q ≡ get (with_value s n v).by_number q = λ q.
      get-insert nat_cmp_total (without s n).by_number n v q
      ∙ ap (λ o. cond (eq_by_cmp nat_cmp q n) (Some v) o) (get-remove nat_cmp_total s.by_number n q)
      ∙ same_branch (eq_by_cmp nat_cmp q n) (Some v) None (get s.by_number q)
      ∙ sym (get-insert nat_cmp_total s.by_number n v q) in
      ap (λ m. record { shard = s.shard; by_number = m }) (same_map nat_cmp_total nat_cmp-IsAntisymmetric (with_value (without s n) n v).by_number (with_value s n v).by_number each)

  pub used-with_value : (v : V) → value_at s n ≡ None → used (with_value s n v) ≡ used s + 1
  used-with_value v none = len-insert nat_cmp_total s.by_number n v ∙ ap (λ (o : Option V). cond (is_some o) (len s.by_number) (len s.by_number + 1)) none

  pub sum-with_value : (f : V → ℕ) (v : V) → value_at s n ≡ None → sum_by f (values (with_value s n v)) ≡ sum_by f (values s) + f v
  sum-with_value f v none = sum-values f (entries (with_value s n v).by_number) ∙ sum-insert nat_cmp nat_cmp_total nat_cmp-IsAntisymmetric (λ e. f e.1) s.by_number n v none ∙ ap (λ k. k + f v) (sym (sum-values f (entries s.by_number)))

  pub sum-without : (f : V → ℕ) (v : V) → value_at s n ≡ Some v → sum_by f (values (without s n)) + f v ≡ sum_by f (values s)
  sum-without f v some = ap (λ k. k + f v) (sum-values f (entries (without s n).by_number)) ∙ sum-remove nat_cmp nat_cmp_total nat_cmp-IsAntisymmetric (λ e. f e.1) s.by_number n v some ∙ sym (sum-values f (entries s.by_number))

  pub same-with_value : (v : V) → value_at s n ≡ None → Same (values (with_value s n v)) (v ∷ values s)
  same-with_value v none f = sum-with_value f v none ∙ add_comm (sum_by f (values s)) (f v) ∙ sym (sum_by-cons f v (values s))

  pub same-without : (v : V) → value_at s n ≡ Some v → Same (values s) (v ∷ values (without s n))
  same-without v some f = sym (sum-without f v some) ∙ add_comm (sum_by f (values (without s n))) (f v) ∙ sym (sum_by-cons f v (values (without s n)))

  pub used-without : (v : V) → value_at s n ≡ Some v → used (without s n) + 1 ≡ used s
  used-without v some =
      let sums = sum-remove nat_cmp nat_cmp_total nat_cmp-IsAntisymmetric (λ _. 1) s.by_number n v some in
      let left = ones (entries (without s n).by_number) in
      let right = ones (entries s.by_number) in
      let before = len-entries s.by_number in
      let after = len-entries (without s n).by_number in
      omega (arith, sums, left, right, before, after)

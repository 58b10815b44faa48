-- The values of a finite map by number: which of them stands under which number, and what a list, a sum and a search over them become.
use Rattle.std.proofs.Common.{◌≡◌, ◌≢◌, ℕ, zero, suc, ◌+◌, ◌-◌, ◌*◌, ◌<◌, ◌≤◌, Bool, true, false, cond, T, ◌&&◌, List, [], ◌∷◌, ◌++◌, map, length, Some, None, is_some, find, filter, sum_by, Contains, inl, inr, refl, sym, ap, subst, ◌∙◌, arith}
use Rattle.std.specs.declared.cmp.Ordering.TheVariants.{Less, Equal, Greater}
use Rattle.std.specs.Ordering.{nat_cmp, eq_by_cmp, is_eq, is_lt}
use Rattle.std.specs.Cmp.{nat_cmp_total}
use Rattle.std.specs.FinMap.{FinMap, put, entries, entries_sorted, is_sorted, from_sorted, nat_cmp-IsAntisymmetric, same_map, same_entries_map, get-entries, get-from_sorted, entries-insert, entries-from_sorted, len-entries}
use Rattle.std.specs.FinMap.{find as find_at}
use Rattle.std.specs.FinMap.Entries.{below_all, by_order}
use Rattle.std.proofs.lemmas.Bool.{cases_lt, cases_eq, false≢true}
use Rattle.std.proofs.lemmas.Bool.Decides.{nat_tests}
use Rattle.std.proofs.lemmas.List.Sums.{sum_by-cons, sum_by-append}
use Rattle.bng_sessions.specs.Sessions.{Sessions, IsNumberOf, value_at, used, with_value}
use Rattle.bng_sessions.specs.Listed.{values}
use Rattle.bng_sessions.proofs.Numbers.{same_number, other_number}

pub same_some : {A : Type 0} (a b : A) → Some a ≡ Some b → a ≡ b
same_some a b e = cc

pub none_some : {A : Type 0} (a : A) → None ≡ Some a → ⊥
none_some a e = cc

pub first : (a b : Bool) → T (a && b) → T a
first true b p = tt
first false b p = p

pub second : (a b : Bool) → T (a && b) → T b
second true b p = p
second false b p = absurd p

both : (a b : Bool) → T a → T b → T (a && b)
both true b p q = q
both false b p q = p

not_less : (a b : ℕ) → b ≤ a → is_lt (nat_cmp a b) ≡ false
not_less a b h = grind (arith, nat_tests)

number_less : (a b : ℕ) → nat_cmp a b ≡ Less → a < b
number_less a b e = elim (cases_lt a b) [
  | inl l ↦ l
  | inr h ↦ absurd (false≢true (sym (not_less a b h) ∙ ap is_lt e))
]

number_below : (a b : ℕ) → T (is_lt (nat_cmp a b)) → a < b
number_below a b h = elim (cases_lt a b) [
  | inl l ↦ l
  | inr under ↦ absurd (subst T (not_less a b under) h)
]

pub number_same : (a b : ℕ) → eq_by_cmp nat_cmp a b ≡ true → a ≡ b
number_same a b e = elim (cases_eq a b) [
  | inl same ↦ same
  | inr differ ↦ absurd (false≢true (sym (other_number a b differ) ∙ e))
]

-- what a search finds is an element, and passes
pub found_is : {A : Type 0} (p : A → Bool) (xs : List A) (x : A) → find p xs ≡ Some x → (Contains xs x) × (p x ≡ true)
found_is p [] x is = absurd (cc)
found_is p (y ∷ xs) x is =
    elim (p y) as (λ b. p y ≡ b → cond b (Some y) (find p xs) ≡ Some x → (Contains (y ∷ xs) x) × (p x ≡ true)) [
      | true ↦ λ t f. let same = same_some y x f in ((0, omega arith, same), sym (ap p same) ∙ t)
      | false ↦ λ t f. let rest = found_is p xs x f in ((suc rest.0.0, omega (arith, rest.0.1), rest.0.2), rest.1)
    ] refl is

-- where a search finds nothing, no element passes
pub none_passes : {A : Type 0} (p : A → Bool) (xs : List A) (x : A) → find p xs ≡ None → Contains xs x → p x ≡ false
none_passes p [] x none (k, l, is) = absurd (omega arith)
none_passes p (y ∷ xs) x none (zero, l, is) =
    elim (p y) as (λ b. p y ≡ b → cond b (Some y) (find p xs) ≡ None → p x ≡ false) [
      | true ↦ λ t f. absurd (none_some y (sym f))
      | false ↦ λ t f. sym (ap p is) ∙ t
    ] refl none
none_passes p (y ∷ xs) x none (suc k, l, is) =
    elim (p y) as (λ b. cond b (Some y) (find p xs) ≡ None → p x ≡ false) [
      | true ↦ λ f. absurd (none_some y (sym f))
      | false ↦ λ f. none_passes p xs x f (k, omega arith, is)
    ] none

-- a sum of ones at most
pub sum_at_most : {A : Type 0} (f : A → ℕ) (xs : List A) → ((x : A) → f x ≤ 1) → sum_by f xs ≤ length xs
sum_at_most f [] most = omega arith
sum_at_most f (x ∷ xs) most =
    let rest = sum_at_most f xs most in
    let one = most x in
    let all = sum_by-cons f x xs in
    omega (arith, rest, one, all)

-- an element is no more than the sum
pub sum_holds : {A : Type 0} (f : A → ℕ) (xs : List A) (x : A) → Contains xs x → f x ≤ sum_by f xs
sum_holds f [] x (k, l, is) = absurd (omega arith)
sum_holds f (y ∷ xs) x (zero, l, is) =
    let all = sum_by-cons f y xs in
    let same = ap f is in
    omega (arith, all, same)
sum_holds f (y ∷ xs) x (suc k, l, is) =
    let rest = sum_holds f xs x (k, omega arith, is) in
    let all = sum_by-cons f y xs in
    omega (arith, rest, all)

pub sum_nothing : {A : Type 0} (f : A → ℕ) (xs : List A) → ((x : A) → Contains xs x → f x ≡ 0) → sum_by f xs ≡ 0
sum_nothing f [] none = refl
sum_nothing f (x ∷ xs) none =
    let rest = sum_nothing f xs (λ y (k, l, is). none y (suc k, omega (arith, l), is)) in
    let one = none x (0, omega arith, refl) in
    let all = sum_by-cons f x xs in
    omega (arith, rest, one, all)

module _ {V : Type 0} where
  -- lists of entries
  pub above : (x q : ℕ) (v : V) (es : List (ℕ × V)) → T (below_all nat_cmp x es) → find_at nat_cmp q es ≡ Some v → x < q
  above x q v [] h is = absurd (none_some v is)
  above x q v (e ∷ es) h is =
      elim (eq_by_cmp nat_cmp q e.0) as (λ b. eq_by_cmp nat_cmp q e.0 ≡ b → cond b (Some e.1) (find_at nat_cmp q es) ≡ Some v → x < q) [
        | true ↦ λ t f.
            let same = number_same q e.0 t in
            let less = number_below x e.0 (first _ _ h) in
            omega (arith, same, less)
        | false ↦ λ t f. above x q v es (second _ _ h) f
      ] refl is

  -- what is found behind the first entry is found with it
  pub behind : (e : ℕ × V) (es : List (ℕ × V)) (q : ℕ) (v : V) → T (below_all nat_cmp e.0 es) → find_at nat_cmp q es ≡ Some v → find_at nat_cmp q (e ∷ es) ≡ Some v
  behind e es q v h is =
      let over = above e.0 q v es h is in
      ap (λ b. cond b (Some e.1) (find_at nat_cmp q es)) (other_number q e.0 (λ s. omega (arith, over, s))) ∙ is

  pub first_found : (e : ℕ × V) (es : List (ℕ × V)) → find_at nat_cmp e.0 (e ∷ es) ≡ Some e.1
  first_found e es = ap (λ b. cond b (Some e.1) (find_at nat_cmp e.0 es)) (same_number e.0 e.0 refl)

  number_of : (es : List (ℕ × V)) (x : V) → T (is_sorted nat_cmp es) → Contains (map (λ e. e.1) es) x → (n : ℕ) × (find_at nat_cmp n es ≡ Some x)
  number_of [] x h (k, l, is) = absurd (omega arith)
  number_of (e ∷ es) x h (zero, l, is) = (e.0, first_found e es ∙ ap (λ v. Some v) is)
  number_of (e ∷ es) x h (suc k, l, is) =
      let rest = number_of es x (second _ _ h) (k, omega arith, is) in
      (rest.0, behind e es rest.0 x (first _ _ h) rest.1)

  value_of : (es : List (ℕ × V)) (n : ℕ) (x : V) → find_at nat_cmp n es ≡ Some x → Contains (map (λ e. e.1) es) x
  value_of [] n x is = absurd (none_some x is)
  value_of (e ∷ es) n x is =
      elim (eq_by_cmp nat_cmp n e.0) as (λ b. cond b (Some e.1) (find_at nat_cmp n es) ≡ Some x → Contains (map (λ e. e.1) (e ∷ es)) x) [
        | true ↦ λ f. (0, omega arith, same_some e.1 x f)
        | false ↦ λ f. let rest = value_of es n x f in (suc rest.0, omega (arith, rest.1), rest.2)
      ] is

  first_at : (p : V → Bool) (es : List (ℕ × V)) (n : ℕ) (x : V) → T (is_sorted nat_cmp es) → find_at nat_cmp n es ≡ Some x → p x ≡ true → ((m : ℕ) (y : V) → m < n → find_at nat_cmp m es ≡ Some y → p y ≡ false) → find p (map (λ e. e.1) es) ≡ Some x
  first_at p [] n x h is passes lower = absurd (none_some x is)
  first_at p (e ∷ es) n x h is passes lower =
      elim (eq_by_cmp nat_cmp n e.0) as (λ b. cond b (Some e.1) (find_at nat_cmp n es) ≡ Some x → cond (p e.1) (Some e.1) (find p (map (λ e. e.1) es)) ≡ Some x) [
        | true ↦ λ f. ap (λ b. cond b (Some e.1) (find p (map (λ e. e.1) es))) (ap p (same_some e.1 x f) ∙ passes) ∙ f
        | false ↦ λ f.
            ap (λ b. cond b (Some e.1) (find p (map (λ e. e.1) es))) (lower e.0 e.1 (above e.0 n x es (first _ _ h) f) (first_found e es))
            ∙ first_at p es n x (second _ _ h) f passes (λ m y l g. lower m y l (behind e es m y (first _ _ h) g))
      ] is

  none_at : (p : V → Bool) (es : List (ℕ × V)) → T (is_sorted nat_cmp es) → ((m : ℕ) (y : V) → find_at nat_cmp m es ≡ Some y → p y ≡ false) → find p (map (λ e. e.1) es) ≡ None
  none_at p [] h fails = refl
  none_at p (e ∷ es) h fails = ap (λ b. cond b (Some e.1) (find p (map (λ e. e.1) es))) (fails e.0 e.1 (first_found e es)) ∙ none_at p es (second _ _ h) (λ m y g. fails m y (behind e es m y (first _ _ h) g))

  -- the values before those with higher numbers, what the number has, and those values
  record Split (n : ℕ) (es : List (ℕ × V)) (old : List V) : Type 0 where
    before : List V
    after : List V
    were : map (λ e. e.1) es ≡ before ++ (old ++ after)
    become : (v : V) → map (λ e. e.1) (put nat_cmp n v es) ≡ before ++ v ∷ after

  behind_first : (n : ℕ) (e : ℕ × V) (es : List (ℕ × V)) (old : List V) → nat_cmp n e.0 ≡ Greater → Split n es old → Split n (e ∷ es) old
  behind_first n e es old r rest = record {
    before = e.1 ∷ rest.before;
    after = rest.after;
    were = ap (λ xs. e.1 ∷ xs) rest.were;
    become = λ v. ap (λ o. map (λ p. p.1) (by_order o ((n, v) ∷ e ∷ es) ((e.0, v) ∷ es) (e ∷ put nat_cmp n v es))) r ∙ ap (λ xs. e.1 ∷ xs) (rest.become v);
  }

  split_used : (n : ℕ) (w : V) (es : List (ℕ × V)) → T (is_sorted nat_cmp es) → find_at nat_cmp n es ≡ Some w → Split n es (w ∷ [])
  split_used n w [] h is = absurd (none_some w is)
  split_used n w (e ∷ es) h is =
      elim (nat_cmp n e.0) as (λ r. nat_cmp n e.0 ≡ r → cond (is_eq r) (Some e.1) (find_at nat_cmp n es) ≡ Some w → Split n (e ∷ es) (w ∷ [])) [
        | Less ↦ λ r f.
            let under = number_less n e.0 r in
            let over = above e.0 n w es (first _ _ h) f in
            absurd (omega (arith, under, over))
        | Equal ↦ λ r f. record {
          before = [];
          after = map (λ p. p.1) es;
          were = ap (λ x. x ∷ map (λ p. p.1) es) (same_some e.1 w f);
          become = λ v. ap (λ o. map (λ p. p.1) (by_order o ((n, v) ∷ e ∷ es) ((e.0, v) ∷ es) (e ∷ put nat_cmp n v es))) r;
        }
        | Greater ↦ λ r f. behind_first n e es (w ∷ []) r (split_used n w es (second _ _ h) f)
      ] refl is

  below_kept : (p : V → Bool) (x : ℕ) (es : List (ℕ × V)) → T (below_all nat_cmp x es) → T (below_all nat_cmp x (filter (λ e. p e.1) es))
  below_kept p x [] h = tt
  below_kept p x (e ∷ es) h =
      let rest = below_kept p x es (second _ _ h) in
      elim (p e.1) as (λ b. T (below_all nat_cmp x (cond b (e ∷ filter (λ e. p e.1) es) (filter (λ e. p e.1) es)))) [ true ↦ both _ _ (first _ _ h) rest | false ↦ rest ]

  sorted_kept : (p : V → Bool) (es : List (ℕ × V)) → T (is_sorted nat_cmp es) → T (is_sorted nat_cmp (filter (λ e. p e.1) es))
  sorted_kept p [] h = tt
  sorted_kept p (e ∷ es) h =
      let rest = sorted_kept p es (second _ _ h) in
      elim (p e.1) as (λ b. T (is_sorted nat_cmp (cond b (e ∷ filter (λ e. p e.1) es) (filter (λ e. p e.1) es)))) [ true ↦ both _ _ (below_kept p e.0 es (first _ _ h)) rest | false ↦ rest ]

  values_kept : (p : V → Bool) (es : List (ℕ × V)) → map (λ e. e.1) (filter (λ e. p e.1) es) ≡ filter p (map (λ e. e.1) es)
  values_kept p [] = refl
  values_kept p (e ∷ es) =
      let rest = values_kept p es in
      elim (p e.1) as (λ b. map (λ e. e.1) (cond b (e ∷ filter (λ e. p e.1) es) (filter (λ e. p e.1) es)) ≡ cond b (e.1 ∷ filter p (map (λ e. e.1) es)) (filter p (map (λ e. e.1) es))) [ true ↦ ap (λ xs. e.1 ∷ xs) rest | false ↦ rest ]

  find_kept : (p : V → Bool) (es : List (ℕ × V)) (n : ℕ) (x : V) → T (is_sorted nat_cmp es) → find_at nat_cmp n es ≡ Some x → p x ≡ true → find_at nat_cmp n (filter (λ e. p e.1) es) ≡ Some x
  find_kept p [] n x h is passes = is
  find_kept p (e ∷ es) n x h is passes =
      elim (eq_by_cmp nat_cmp n e.0) as (λ t. eq_by_cmp nat_cmp n e.0 ≡ t → cond t (Some e.1) (find_at nat_cmp n es) ≡ Some x → find_at nat_cmp n (cond (p e.1) (e ∷ filter (λ e. p e.1) es) (filter (λ e. p e.1) es)) ≡ Some x) [
        | true ↦ λ t f.
            ap (λ b. find_at nat_cmp n (cond b (e ∷ filter (λ e. p e.1) es) (filter (λ e. p e.1) es))) (ap p (same_some e.1 x f) ∙ passes)
            ∙ ap (λ b. cond b (Some e.1) (find_at nat_cmp n (filter (λ e. p e.1) es))) t ∙ f
        | false ↦ λ t f.
            let rest = find_kept p es n x (second _ _ h) f passes in
            elim (p e.1) as (λ b. find_at nat_cmp n (cond b (e ∷ filter (λ e. p e.1) es) (filter (λ e. p e.1) es)) ≡ Some x) [
              | true ↦ ap (λ b. cond b (Some e.1) (find_at nat_cmp n (filter (λ e. p e.1) es))) t ∙ rest
              | false ↦ rest
            ]
      ] refl is

  kept_was : (p : V → Bool) (es : List (ℕ × V)) (n : ℕ) (x : V) → T (is_sorted nat_cmp es) → find_at nat_cmp n (filter (λ e. p e.1) es) ≡ Some x → (find_at nat_cmp n es ≡ Some x) × (p x ≡ true)
  kept_was p [] n x h is = absurd (none_some x is)
  kept_was p (e ∷ es) n x h is =
      let later : find_at nat_cmp n (filter (λ e. p e.1) es) ≡ Some x → (find_at nat_cmp n (e ∷ es) ≡ Some x) × (p x ≡ true) = λ f.
      let rest = kept_was p es n x (second _ _ h) f in
      (behind e es n x (first _ _ h) rest.0, rest.1) in
      elim (p e.1) as (λ b. p e.1 ≡ b → find_at nat_cmp n (cond b (e ∷ filter (λ e. p e.1) es) (filter (λ e. p e.1) es)) ≡ Some x → (find_at nat_cmp n (e ∷ es) ≡ Some x) × (p x ≡ true)) [
        | true ↦ λ passes f.
            elim (eq_by_cmp nat_cmp n e.0) as (λ t. cond t (Some e.1) (find_at nat_cmp n (filter (λ e. p e.1) es)) ≡ Some x → eq_by_cmp nat_cmp n e.0 ≡ t → (find_at nat_cmp n (e ∷ es) ≡ Some x) × (p x ≡ true)) [
              | true ↦ λ g t. (ap (λ b. cond b (Some e.1) (find_at nat_cmp n es)) t ∙ g, sym (ap p (same_some e.1 x g)) ∙ passes)
              | false ↦ λ g t. later g
            ] f refl
        | false ↦ λ fails f. later f
      ] refl is

  few_between : (es : List (ℕ × V)) (low high : ℕ) → T (is_sorted nat_cmp es) → ((n : ℕ) (x : V) → find_at nat_cmp n es ≡ Some x → (low ≤ n) × (n ≤ high)) → length es ≤ high + 1 - low
  few_between [] low high h within = omega arith
  few_between (e ∷ es) low high h within =
      let here = within e.0 e.1 (first_found e es) in
      let rest : length es ≤ high + 1 - (e.0 + 1) = few_between es (e.0 + 1) high (second _ _ h) (λ n x f.
      let over = above e.0 n x es (first _ _ h) f in
      let last = within n x (behind e es n x (first _ _ h) f) in
      (omega (arith, over), last.1)) in
      omega (arith, here.0, here.1, rest)

  length_values : (es : List (ℕ × V)) → length (map (λ e. e.1) es) ≡ length es
  length_values [] = refl
  length_values (e ∷ es) = ap suc (length_values es)

  -- a session has a number
  pub numbered : (s : Sessions V) (x : V) → Contains (values s) x → (n : ℕ) × (value_at s n ≡ Some x)
  numbered s x h =
      let found = number_of (entries s.by_number) x (entries_sorted s.by_number) h in
      (found.0, get-entries s.by_number found.0 ∙ found.1)

  -- what a number has is one of the values
  pub stands : (s : Sessions V) (n : ℕ) (x : V) → value_at s n ≡ Some x → Contains (values s) x
  stands s n x is = value_of (entries s.by_number) n x (sym (get-entries s.by_number n) ∙ is)

  -- what a search over the values finds has a number, and passes
  pub found_at : (p : V → Bool) (s : Sessions V) (x : V) → find p (values s) ≡ Some x → (n : ℕ) × (value_at s n ≡ Some x) × (p x ≡ true)
  found_at p s x is =
      let found = found_is p (values s) x is in
      let at = numbered s x found.0 in
      (at.0, at.1, found.1)

  -- where it finds nothing, none passes
  pub none_found : (p : V → Bool) (s : Sessions V) → find p (values s) ≡ None → (n : ℕ) (x : V) → value_at s n ≡ Some x → p x ≡ false
  none_found p s none n x is = none_passes p (values s) x none (stands s n x is)

  -- of those that pass, a search over the values finds the one with the lowest number
  pub find_first : (p : V → Bool) (s : Sessions V) (n : ℕ) (x : V) → value_at s n ≡ Some x → p x ≡ true → ((m : ℕ) (y : V) → m < n → value_at s m ≡ Some y → p y ≡ false) → find p (values s) ≡ Some x
  find_first p s n x is passes lower = first_at p (entries s.by_number) n x (entries_sorted s.by_number) (sym (get-entries s.by_number n) ∙ is) passes (λ m y l g. lower m y l (get-entries s.by_number m ∙ g))

  -- the only one that passes
  pub find_only : (p : V → Bool) (s : Sessions V) (n : ℕ) (x : V) → value_at s n ≡ Some x → p x ≡ true → ((m : ℕ) (y : V) → m ≢ n → value_at s m ≡ Some y → p y ≡ false) → find p (values s) ≡ Some x
  find_only p s n x is passes others = find_first p s n x is passes (λ m y l g. others m y (λ e. omega (arith, l, e)) g)

  pub find_none : (p : V → Bool) (s : Sessions V) → ((n : ℕ) (x : V) → value_at s n ≡ Some x → p x ≡ false) → find p (values s) ≡ None
  find_none p s fails = none_at p (entries s.by_number) (entries_sorted s.by_number) (λ m y g. fails m y (get-entries s.by_number m ∙ g))

  -- The values around a number: those with lower numbers, what the number has, and those with higher ones. A value that is put
  -- there stands between.
  pub record Around (s : Sessions V) (n : ℕ) (old : List V) : Type 0 where
    pub before : List V
    pub after : List V
    pub were : values s ≡ before ++ (old ++ after)
    pub become : (v : V) → values (with_value s n v) ≡ before ++ v ∷ after

  around : (s : Sessions V) (n : ℕ) (old : List V) → Split n (entries s.by_number) old → Around s n old
  around s n old split = record {
    before = split.before;
    after = split.after;
    were = split.were;
    become = λ v. ap (map (λ e. e.1)) (entries-insert nat_cmp_total s.by_number n v) ∙ split.become v;
  }

  pub around_used : (s : Sessions V) (n : ℕ) (w : V) → value_at s n ≡ Some w → Around s n (w ∷ [])
  around_used s n w is = around s n (w ∷ []) (split_used n w (entries s.by_number) (entries_sorted s.by_number) (sym (get-entries s.by_number n) ∙ is))

  pub sum_by-replaced : (f : V → ℕ) (s : Sessions V) (n : ℕ) (w v : V) → value_at s n ≡ Some w → sum_by f (values (with_value s n v)) + f w ≡ sum_by f (values s) + f v
  sum_by-replaced f s n w v is =
      let a = around_used s n w is in
      let now = ap (sum_by f) (a.become v) ∙ sum_by-append f a.before (v ∷ a.after) in
      let was = ap (sum_by f) a.were ∙ sum_by-append f a.before (w ∷ a.after) in
      let new = sum_by-cons f v a.after in
      let old = sum_by-cons f w a.after in
      omega (arith, now, was, new, old)

  pub used_is : (s : Sessions V) → used s ≡ length (values s)
  used_is s = len-entries s.by_number ∙ sym (length_values (entries s.by_number))

  -- each used number is the shard's
  abbrev pub AreOfShard : Sessions V → Type 0
  AreOfShard s = (n : ℕ) → is_some (value_at s n) ≡ true → IsNumberOf s.shard n

  pub used_most : (s : Sessions V) → AreOfShard s → used s ≤ 1022
  used_most s own =
      let few = few_between (entries s.by_number) (s.shard * 1024 + 1) (s.shard * 1024 + 1022) (entries_sorted s.by_number) (λ n x f. own n (ap is_some (get-entries s.by_number n ∙ f))) in
      let count = len-entries s.by_number in
      omega (arith, few, count)

  pub sum_most : (f : V → ℕ) (s : Sessions V) → ((x : V) → f x ≤ 1) → AreOfShard s → sum_by f (values s) ≤ 1022
  sum_most f s most own =
      let all = used_most s own in
      let count = used_is s in
      let few = sum_at_most f (values s) most in
      omega (arith, all, count, few)

  -- maps with the same values at every number
  pub same_sessions : (s t : Sessions V) → s.shard ≡ t.shard → ((n : ℕ) → value_at s n ≡ value_at t n) → s ≡ t
  same_sessions s t shard same =
      let maps = same_map nat_cmp_total nat_cmp-IsAntisymmetric s.by_number t.by_number same in
      λ i. record { shard = shard i; by_number = maps i }

  pub from_entries_of : (m : FinMap nat_cmp V) (es : List (ℕ × V)) → entries m ≡ es → m ≡ from_sorted es
  from_entries_of m es e =
      let sorted : T (is_sorted nat_cmp es) = subst (λ xs. T (is_sorted nat_cmp xs)) e (entries_sorted m) in
      same_entries_map m (from_sorted es) (e ∙ sym (entries-from_sorted nat_cmp es sorted))

  -- the sessions whose values pass
  abbrev pub kept : (V → Bool) → Sessions V → Sessions V
  kept p s = record s { by_number = from_sorted (filter (λ e. p e.1) (entries s.by_number)) }

  entries_of_kept : (p : V → Bool) (s : Sessions V) → entries (kept p s).by_number ≡ filter (λ e. p e.1) (entries s.by_number)
  entries_of_kept p s = entries-from_sorted nat_cmp (filter (λ e. p e.1) (entries s.by_number)) (sorted_kept p (entries s.by_number) (entries_sorted s.by_number))

  pub values-kept : (p : V → Bool) (s : Sessions V) → values (kept p s) ≡ filter p (values s)
  values-kept p s = ap (map (λ e. e.1)) (entries_of_kept p s) ∙ values_kept p (entries s.by_number)

  pub value_at-kept : (p : V → Bool) (s : Sessions V) (n : ℕ) (x : V) → value_at s n ≡ Some x → p x ≡ true → value_at (kept p s) n ≡ Some x
  value_at-kept p s n x is passes =
      get-from_sorted nat_cmp (filter (λ e. p e.1) (entries s.by_number)) n (sorted_kept p (entries s.by_number) (entries_sorted s.by_number))
      ∙ find_kept p (entries s.by_number) n x (entries_sorted s.by_number) (sym (get-entries s.by_number n) ∙ is) passes

  pub kept_from : (p : V → Bool) (s : Sessions V) (n : ℕ) (x : V) → value_at (kept p s) n ≡ Some x → (value_at s n ≡ Some x) × (p x ≡ true)
  kept_from p s n x is =
      let was = kept_was p (entries s.by_number) n x (entries_sorted s.by_number)
      (sym (get-from_sorted nat_cmp (filter (λ e. p e.1) (entries s.by_number)) n (sorted_kept p (entries s.by_number) (entries_sorted s.by_number))) ∙ is) in
      (get-entries s.by_number n ∙ was.0, was.1)

  pub none_kept : (p : V → Bool) (s : Sessions V) (n : ℕ) → ((x : V) → value_at s n ≡ Some x → p x ≡ false) → value_at (kept p s) n ≡ None
  none_kept p s n fails =
      elim (value_at (kept p s) n) as (λ o. value_at (kept p s) n ≡ o → o ≡ None) [
        | None ↦ λ e. refl
        | Some x ↦ λ e. let was = kept_from p s n x e in absurd (false≢true (sym (fails x was.0) ∙ was.1))
      ] refl

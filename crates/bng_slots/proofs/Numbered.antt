-- Places with numbers as a finite map.
use Rattle.std.proofs.Common.{◌≡◌, ℕ, zero, suc, ◌+◌, ◌-◌, ◌<◌, ◌≤◌, ◌≢◌, Bool, true, false, T, ◌&&◌, List, [], ◌∷◌, length, get_or, set, replicate, Option, Some, None, is_some, cond, count_by, inl, inr, refl, sym, ap, subst, ◌∙◌, arith}
use Rattle.std.specs.Ordering.{nat_cmp, eq_by_cmp, is_lt}
use Rattle.std.specs.Cmp.{nat_cmp_total}
use Rattle.std.proofs.lemmas.Bool.{cases_eq, cases_lt}
use Rattle.std.proofs.lemmas.Bool.Decides.{nat_tests}
use Rattle.std.proofs.lemmas.List.{get_or-set_same, get_or-set_other, get_or_past}
use Rattle.std.proofs.lemmas.List.Sums.{sum_by-cons}
use Rattle.std.specs.FinMap.{FinMap, get, find, insert, remove, empty, len, is_sorted, from_sorted, same_map, nat_cmp-IsAntisymmetric, get-from_sorted, get-insert, get-remove, get-empty, len-entries, entries-from_sorted}
use Rattle.std.specs.FinMap.Entries.{below_all}
use Rattle.bng_sessions.proofs.Numbers.{same_number, other_number}
use Rattle.bng_slots.specs.Inside.{numbered}

both : (a b : Bool) → T a → T b → T (a && b)
both true b p q = q
both false b p q = p

lower_number : (x n : ℕ) → x < n → T (is_lt (nat_cmp x n))
lower_number x n l = let e : is_lt (nat_cmp x n) ≡ true = grind (arith, nat_tests) in subst T (sym e) tt

-- what stands at every number, by places
by_places : (n : ℕ) (P : ℕ → Type 0) → ((q : ℕ) → q < n → P q) → ((i : ℕ) → P (n + i)) → (q : ℕ) → P q
by_places n P low high q = elim (cases_lt q n) [
  | inl l ↦ low q l
  | inr h ↦ subst P {x = n + (q - n)} (omega arith) (high (q - n))
]

module _ {V : Type 0} where
  below_numbered : (x n : ℕ) (xs : List (Option V)) → x < n → T (below_all nat_cmp x (numbered n xs))
  below_numbered x n [] l = tt
  below_numbered x n (None ∷ xs) l = below_numbered x (n + 1) xs (omega arith)
  below_numbered x n (Some v ∷ xs) l = both _ _ (lower_number x n l) (below_numbered x (n + 1) xs (omega arith))

  pub numbered_sorted : (n : ℕ) (xs : List (Option V)) → T (is_sorted nat_cmp (numbered n xs))
  numbered_sorted n [] = tt
  numbered_sorted n (None ∷ xs) = numbered_sorted (n + 1) xs
  numbered_sorted n (Some v ∷ xs) = both _ _ (below_numbered n (n + 1) xs (omega arith)) (numbered_sorted (n + 1) xs)

  find_lower : (q n : ℕ) (xs : List (Option V)) → q < n → find nat_cmp q (numbered n xs) ≡ None
  find_lower q n [] l = refl
  find_lower q n (None ∷ xs) l = find_lower q (n + 1) xs (omega arith)
  find_lower q n (Some v ∷ xs) l = ap (λ b. cond b (Some v) (find nat_cmp q (numbered (n + 1) xs))) (other_number q n (λ e. omega arith)) ∙ find_lower q (n + 1) xs (omega arith)

  find_numbered : (q n i : ℕ) (xs : List (Option V)) → q ≡ n + i → find nat_cmp q (numbered n xs) ≡ get_or xs i None
  find_numbered q n i [] e = refl
  find_numbered q n zero (None ∷ xs) e = find_lower q (n + 1) xs (omega arith)
  find_numbered q n (suc i) (None ∷ xs) e = find_numbered q (n + 1) i xs (omega arith)
  find_numbered q n zero (Some v ∷ xs) e = ap (λ b. cond b (Some v) (find nat_cmp q (numbered (n + 1) xs))) (same_number q n (omega arith))
  find_numbered q n (suc i) (Some v ∷ xs) e = ap (λ b. cond b (Some v) (find nat_cmp q (numbered (n + 1) xs))) (other_number q n (λ s. omega arith)) ∙ find_numbered q (n + 1) i xs (omega arith)

  -- the map of these places, the first with number n
  abbrev pub places : ℕ → List (Option V) → FinMap nat_cmp V
  places n xs = from_sorted (numbered n xs)

  pub get_lower : (q n : ℕ) (xs : List (Option V)) → q < n → get (places n xs) q ≡ None
  get_lower q n xs l = get-from_sorted nat_cmp (numbered n xs) q (numbered_sorted n xs) ∙ find_lower q n xs l

  pub get_place : (q n i : ℕ) (xs : List (Option V)) → q ≡ n + i → get (places n xs) q ≡ get_or xs i None
  get_place q n i xs e = get-from_sorted nat_cmp (numbered n xs) q (numbered_sorted n xs) ∙ find_numbered q n i xs e

  pub places_put : (n i : ℕ) (xs : List (Option V)) (v : V) → i < length xs → places n (set xs i (Some v)) ≡ insert (places n xs) (n + i) v
  places_put n i xs v l = same_map nat_cmp_total nat_cmp-IsAntisymmetric _ _ (by_places n (λ q. get (places n (set xs i (Some v))) q ≡ get (insert (places n xs) (n + i) v) q)
      (λ q low. get_lower q n (set xs i (Some v)) low ∙ sym (get-insert nat_cmp_total (places n xs) (n + i) v q ∙ ap (λ b. cond b (Some v) (get (places n xs) q)) (other_number q (n + i) (λ e. omega arith)) ∙ get_lower q n xs low))
      (λ j. get_place (n + j) n j (set xs i (Some v)) refl ∙ elim (cases_eq j i) [
        | inl same ↦ rw same (get_or-set_same xs i (Some v) None l ∙ sym (get-insert nat_cmp_total (places n xs) (n + i) v (n + i) ∙ ap (λ b. cond b (Some v) (get (places n xs) (n + i))) (same_number (n + i) (n + i) refl)))
        | inr differ ↦ get_or-set_other xs i j (Some v) None differ ∙ sym (get-insert nat_cmp_total (places n xs) (n + i) v (n + j) ∙ ap (λ b. cond b (Some v) (get (places n xs) (n + j))) (other_number (n + j) (n + i) (λ e. differ (omega arith))) ∙ get_place (n + j) n j xs refl)
      ]))

  pub places_take : (n i : ℕ) (xs : List (Option V)) → i < length xs → places n (set xs i None) ≡ remove (places n xs) (n + i)
  places_take n i xs l = same_map nat_cmp_total nat_cmp-IsAntisymmetric _ _ (by_places n (λ q. get (places n (set xs i None)) q ≡ get (remove (places n xs) (n + i)) q)
      (λ q low. get_lower q n (set xs i None) low ∙ sym (get-remove nat_cmp_total (places n xs) (n + i) q ∙ ap (λ b. cond b None (get (places n xs) q)) (other_number q (n + i) (λ e. omega arith)) ∙ get_lower q n xs low))
      (λ j. get_place (n + j) n j (set xs i None) refl ∙ elim (cases_eq j i) [
        | inl same ↦ rw same (get_or-set_same xs i None None l ∙ sym (get-remove nat_cmp_total (places n xs) (n + i) (n + i) ∙ ap (λ b. cond b None (get (places n xs) (n + i))) (same_number (n + i) (n + i) refl)))
        | inr differ ↦ get_or-set_other xs i j None None differ ∙ sym (get-remove nat_cmp_total (places n xs) (n + i) (n + j) ∙ ap (λ b. cond b None (get (places n xs) (n + j))) (other_number (n + j) (n + i) (λ e. differ (omega arith))) ∙ get_place (n + j) n j xs refl)
      ]))

  numbered_none : (n k : ℕ) → numbered n (replicate {A = Option V} k None) ≡ []
  numbered_none n zero = refl
  numbered_none n (suc k) = numbered_none (n + 1) k

  pub places_none : (n k : ℕ) → places n (replicate {A = Option V} k None) ≡ empty
  places_none n k = same_map nat_cmp_total nat_cmp-IsAntisymmetric (places n (replicate {A = Option V} k None)) empty (λ q. get-from_sorted nat_cmp (numbered n (replicate k None)) q (numbered_sorted n (replicate k None)) ∙ ap (find nat_cmp q) (numbered_none n k) ∙ sym (get-empty nat_cmp q))

  length_numbered : (n : ℕ) (xs : List (Option V)) → length (numbered n xs) ≡ count_by is_some xs
  length_numbered n [] = refl
  length_numbered n (None ∷ xs) = length_numbered (n + 1) xs
  length_numbered n (Some v ∷ xs) =
      let rest = length_numbered (n + 1) xs in
      let sums : count_by is_some (Some v ∷ xs) ≡ 1 + count_by is_some xs = sum_by-cons (λ o. cond (is_some o) 1 0) (Some v) xs in
      omega (arith, rest, sums)

  pub len_places : (n : ℕ) (xs : List (Option V)) → len (places n xs) ≡ count_by is_some xs
  len_places n xs = len-entries (places n xs) ∙ ap length (entries-from_sorted nat_cmp (numbered n xs) (numbered_sorted n xs)) ∙ length_numbered n xs

  -- where no number is used
  pub get_past : (q n i : ℕ) (xs : List (Option V)) → q ≡ n + i → length xs ≤ i → get (places n xs) q ≡ None
  get_past q n i xs e l = get_place q n i xs e ∙ get_or_past xs i None l

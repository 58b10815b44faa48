-- Sums over entries, and over frames.
use Rattle.std.proofs.Common.{◌≡◌, ℕ, suc, ◌+◌, Bool, true, false, cond, ◌||◌, List, [], ◌∷◌, Some, refl, sym, ap, ◌∙◌, length, arith}
use Rattle.std.specs.Prelude.{is_some}
use Rattle.std.specs.List.{find, slice_get, list_any, sum_by, count_by}
use Rattle.std.proofs.lemmas.List.Sums.{sum_by-cons}
use Rattle.bng_vlan.proofs.Lists.{by_test, any_none}

pub sum_plus : {X : Type 0} (f g : X → ℕ) (xs : List X) → sum_by (λ x. f x + g x) xs ≡ sum_by f xs + sum_by g xs
sum_plus f g [] = refl
sum_plus f g (x ∷ xs) = omega (arith, sum_by-cons (λ x. f x + g x) x xs, sum_by-cons f x xs, sum_by-cons g x xs, sum_plus f g xs)

pub sum_same : {X : Type 0} (f g : X → ℕ) (xs : List X) → ((x : X) → f x ≡ g x) → sum_by f xs ≡ sum_by g xs
sum_same f g [] same = refl
sum_same f g (x ∷ xs) same = omega (arith, sum_by-cons f x xs, sum_by-cons g x xs, same x, sum_same f g xs same)

pub sum_none : {X : Type 0} (xs : List X) → sum_by (λ x. 0) xs ≡ 0
sum_none [] = refl
sum_none (x ∷ xs) = omega (arith, sum_by-cons (λ x. 0) x xs, sum_none xs)

pub count_all : {X : Type 0} (xs : List X) → count_by (λ x. true) xs ≡ length xs
count_all [] = refl
count_all (x ∷ xs) = omega (arith, sum_by-cons (λ x. 1) x xs, count_all xs)

-- where a test passes at one place at most
module _ {X : Type 0} (p : X → Bool) (n : ℕ) where
  abbrev Single : List X → Type 0
  Single xs = (i j : ℕ) (x y : X) → slice_get xs i ≡ Some x → slice_get xs j ≡ Some y → p x ≡ true → p y ≡ true → i ≡ j

  none_behind : (x : X) (xs : List X) → Single (x ∷ xs) → p x ≡ true → (i : ℕ) (y : X) → slice_get xs i ≡ Some y → p y ≡ false
  none_behind x xs one hit i y at = by_test (p y) (λ also. absurd (let same : 0 ≡ suc i = one 0 (suc i) x y refl at hit also in omega (arith, same))) (λ miss. miss)

  less : (x : X) (xs : List X) → Single (x ∷ xs) → Single xs
  less x xs one i j y z at there hit also = let same : suc i ≡ suc j = one (suc i) (suc j) y z at there hit also in omega (arith, same)

  pub single : (xs : List X) → Single xs → sum_by (λ x. cond (p x) n 0) xs ≡ cond (list_any p xs) n 0
  single [] one = refl
  single (x ∷ xs) one = by_test (p x)
      (λ hit.
      let head : cond (p x) n 0 ≡ n = ap (λ b. cond b n 0) hit in
      let rest : sum_by (λ x. cond (p x) n 0) xs ≡ 0 = single xs (less x xs one) ∙ ap (λ b. cond b n 0) (any_none p xs (none_behind x xs one hit)) in
      let all : sum_by (λ x. cond (p x) n 0) (x ∷ xs) ≡ n = omega (arith, sum_by-cons (λ x. cond (p x) n 0) x xs, head, rest) in
      all ∙ sym (ap (λ b. cond (b || list_any p xs) n 0) hit))
      (λ miss.
      let head : cond (p x) n 0 ≡ 0 = ap (λ b. cond b n 0) miss in
      let all : sum_by (λ x. cond (p x) n 0) (x ∷ xs) ≡ sum_by (λ x. cond (p x) n 0) xs = omega (arith, sum_by-cons (λ x. cond (p x) n 0) x xs, head) in
      all ∙ single xs (less x xs one) ∙ sym (ap (λ b. cond (b || list_any p xs) n 0) miss))

pub find_any : {X : Type 0} (p : X → Bool) (xs : List X) → is_some (find p xs) ≡ list_any p xs
find_any p [] = refl
find_any p (x ∷ xs) = by_test (p x)
    (λ hit. ap (λ b. is_some (cond b (Some x) (find p xs))) hit ∙ sym (ap (λ b. b || list_any p xs) hit))
    (λ miss. ap (λ b. is_some (cond b (Some x) (find p xs))) miss ∙ find_any p xs ∙ sym (ap (λ b. b || list_any p xs) miss))

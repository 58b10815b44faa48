-- The place of the first element that passes a test.
use Rattle.std.proofs.Common.{◌≡◌, ℕ, suc, ◌+◌, ◌<◌, Bool, true, false, cond, not, ◌||◌, ltb, List, [], ◌∷◌, length, Option, Some, None, refl, sym, ap, subst, ◌∙◌, arith}
use Rattle.std.specs.Prelude.{find, slice_get, position}
use Rattle.std.specs.List.{list_any, prefix_len, position_or_len}
use Rattle.std.proofs.lemmas.Bool.{ltb-true, lt-ltb}
use Rattle.bng_coa.specs.declared.request.RequestStage.{RequestStage}
use Rattle.bng_coa.specs.declared.request.RequestStage.TheVariants.{InHand, Answered}
use Rattle.bng_coa.specs.Requests.{is_in_hand_at, is_numbered_at}

module _ {X : Type 0} (p : X → Bool) where
  -- an element at a place that passes
  pub record PassesAt (xs : List X) (i : ℕ) : Type 0 where
    pub element : X
    pub is : slice_get xs i ≡ Some element
    pub passes : p element ≡ true

  later : (x : X) (xs : List X) (n : ℕ) → PassesAt xs n → PassesAt (x ∷ xs) (1 + n)
  later x xs n h = record {
    element = h.element;
    is = ap (slice_get (x ∷ xs)) (let e : 1 + n ≡ suc n = omega arith in e) ∙ h.is;
    passes = h.passes;
  }

  found_cons : (b : Bool) (x : X) (xs : List X) (n : ℕ) → p x ≡ b → (n < length xs → PassesAt xs n) → cond (not b) (1 + n) 0 < suc (length xs) → PassesAt (x ∷ xs) (cond (not b) (1 + n) 0)
  found_cons true x xs n e rest lt = record { element = x; is = refl; passes = e }
  found_cons false x xs n e rest lt = later x xs n (rest (omega arith))

  found_at : (xs : List X) → prefix_len (λ x. not (p x)) xs < length xs → PassesAt xs (prefix_len (λ x. not (p x)) xs)
  found_at [] lt = absurd (omega arith)
  found_at (x ∷ xs) lt = found_cons (p x) x xs (prefix_len (λ y. not (p y)) xs) refl (λ h. found_at xs h) lt

  within_cons : (b : Bool) (rest : Bool) (n k : ℕ) → (rest ≡ true → n < k) → b || rest ≡ true → cond (not b) (1 + n) 0 < suc k
  within_cons true rest n k h any = omega arith
  within_cons false rest n k h any = omega (arith, h any)

  within : (xs : List X) → list_any p xs ≡ true → prefix_len (λ x. not (p x)) xs < length xs
  within [] any = absurd cc
  within (x ∷ xs) any = within_cons (p x) (list_any p xs) (prefix_len (λ y. not (p y)) xs) (length xs) (λ h. within xs h) any

  same_some : (b : Bool) (n k i : ℕ) → ltb n k ≡ b → ◌≡◌ {A = Option ℕ} (cond b (Some n) None) (Some i) → (n < k) × (n ≡ i)
  same_some true n k i e is = (ltb-true n k e, cc)
  same_some false n k i e is = absurd cc

  pub passes_at : (xs : List X) (i : ℕ) → position p xs ≡ Some i → PassesAt xs i
  passes_at xs i is =
      let parts = same_some (ltb (position_or_len p xs) (length xs)) (position_or_len p xs) (length xs) i refl is in
      subst (PassesAt xs) parts.1 (found_at xs parts.0)

  pub there_is : (xs : List X) → list_any p xs ≡ true → position p xs ≡ None → ⊥
  there_is xs any none =
      let some : position p xs ≡ Some (position_or_len p xs) = ap (λ (b : Bool). cond b (Some (position_or_len p xs)) None) (lt-ltb (position_or_len p xs) (length xs) (within xs any)) in
      let clash : ◌≡◌ {A = Option ℕ} None (Some (position_or_len p xs)) = sym none ∙ some in
      cc

  -- where one was found, one passes
  found_or : (b : Bool) (y x : X) (ys : List X) → (find p ys ≡ Some x → list_any p ys ≡ true) → cond b (Some y) (find p ys) ≡ Some x → b || list_any p ys ≡ true
  found_or true y x ys rest e = refl
  found_or false y x ys rest e = rest e

  pub found_any : (xs : List X) (x : X) → find p xs ≡ Some x → list_any p xs ≡ true
  found_any [] x e = absurd (let clash : ◌≡◌ {A = Option X} None (Some x) = e in cc)
  found_any (y ∷ ys) x e = found_or (p y) y x ys (found_any ys x) e

-- a request that has a number is in hand
pub numbered_in_hand : (number : ℕ) (s : RequestStage) → is_numbered_at number s ≡ true → is_in_hand_at s ≡ true
numbered_in_hand number (InHand n packet) is = refl
numbered_in_hand number (Answered reply) is = is
